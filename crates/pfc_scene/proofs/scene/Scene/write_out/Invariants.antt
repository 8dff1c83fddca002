use Rattle.std.proofs.Common.{◌<◌, length}
use Rattle.pfc_scene.specs.Scenes.{Moves}
use Rattle.pfc_scene.proofs.scene.Scene.write_out.Given as goal

abbrev pub invariant-loop-turn : goal.invariant-loop-turn
invariant-loop-turn g l = record {
  moves : Moves l.fn.self l.self;
  some : 0 < length l.self.writers;
}
