use Rattle.std.proofs.Common.{rules}
use Rattle.pfc_scene.proofs.Moving.{moves_from}
use Rattle.pfc_scene.proofs.Scenes.{client_moves, client_scene}
use Rattle.pfc_scene.proofs.scene.Scene.note.Goals as goal

pub invariant_of-self : goal.invariant_of-self
invariant_of-self g c = client_scene _ c.args.j c.index_mut.result.now c.note.new.self c.self.invariant (search rules) c.index_mut.ensures.value c.note.ensures.own

pub returns : goal.returns
returns g c = moves_from _ _ _ c.self.view_is (client_moves _ c.args.j c.index_mut.result.now c.note.new.self c.index_mut.ensures.value c.note.ensures.own)
