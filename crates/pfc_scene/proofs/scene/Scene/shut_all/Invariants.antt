use Rattle.std.proofs.Common.{◌≡◌, length}
use Rattle.pfc_scene.specs.Scenes.{Moves}
use Rattle.pfc_scene.proofs.scene.Scene.shut_all.Given as goal

abbrev pub invariant-loop-j : goal.invariant-loop-j
invariant-loop-j g l = record {
  moves : Moves l.fn.self l.self;
  len : length l.self.clients ≡ l.j-end;
}
