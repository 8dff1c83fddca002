use Rattle.std.proofs.Common.{◌≡◌, length}
use Rattle.pfc_scene.specs.Scenes.{Moves}
use Rattle.pfc_scene.proofs.scene.Scene.finish_jobs.Given as goal

abbrev pub invariant-loop-w : goal.invariant-loop-w
invariant-loop-w g l = record {
  moves : Moves l.fn.self l.self;
  len : length l.self.writers ≡ l.w-end;
}
