use Rattle.std.proofs.Common.{◌<◌, length}
use Rattle.pfc_scene.specs.Scenes.{Moves}
use Rattle.pfc_scene.proofs.scene.Scene.sync.Given as goal

abbrev pub invariant-loop-step : goal.invariant-loop-step
invariant-loop-step g l = record {
  moves : Moves l.fn.self l.self;
  low : l.i < length l.self.cores;
}
