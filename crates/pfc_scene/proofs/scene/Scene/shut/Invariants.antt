use Rattle.std.proofs.Common.{◌<◌, length}
use Rattle.pfc_scene.specs.Scenes.{Moves}
use Rattle.pfc_scene.proofs.scene.Scene.shut.Given as goal

abbrev pub invariant-loop-descriptor : goal.invariant-loop-descriptor
invariant-loop-descriptor g l = record {
  moves : Moves l.fn.self l.self;
  low : l.j < length l.self.clients;
}
