use Rattle.std.proofs.Common.{rules}
use Rattle.pfc_scene.proofs.Moving.{moves_from, moves_on}
use Rattle.pfc_scene.proofs.Scenes.{client_moves, client_scene}
use Rattle.pfc_scene.proofs.scene.Scene.lend_at.Goals as goal

pub invariant_of-self : goal.invariant_of-self
invariant_of-self g c = client_scene _ c.args.j c.index_mut.result.now c.refuse.new.self c.self.invariant (search rules) c.index_mut.ensures.value c.refuse.ensures

pub returns-in_default : goal.returns-in_default
returns-in_default g c = moves_from _ _ _ c.self.view_is (client_moves _ c.args.j c.index_mut.result.now c.refuse.new.self c.index_mut.ensures.value c.refuse.ensures)

pub returns-then-lend : goal.returns-then-lend
returns-then-lend g c = moves_on _ _ _ c.lend.ensures.moves c.borrow.ensures
