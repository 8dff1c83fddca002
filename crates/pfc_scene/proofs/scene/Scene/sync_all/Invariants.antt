use Rattle.std.proofs.Common.{◌≡◌, length}
use Rattle.pfc_scene.specs.Scenes.{Moves}
use Rattle.pfc_scene.proofs.scene.Scene.sync_all.Given as goal

abbrev pub invariant-loop-i : goal.invariant-loop-i
invariant-loop-i g l = record {
  moves : Moves l.fn.self l.self;
  cores : length l.self.cores ≡ length l.fn.self.cores;
}
