use Rattle.std.proofs.Common.{◌≡◌, length}
use Rattle.pfc_scene.specs.Scenes.{Moves}
use Rattle.pfc_scene.proofs.scene.Scene.finish_sync_at.Given as goal

abbrev pub invariant-loop-step : goal.invariant-loop-step
invariant-loop-step g l = record {
  moves : Moves l.fn.self l.self;
  cores : length l.self.cores ≡ length l.fn.self.cores;
}
