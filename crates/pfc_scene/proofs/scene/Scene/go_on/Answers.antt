use Rattle.std.proofs.Common.{rules}
use Rattle.pfc_scene.proofs.Moving.{moves_from}
use Rattle.pfc_scene.proofs.Tasks.{may_at}
use Rattle.pfc_scene.proofs.Writing.{gone_scene, gone_moves}
use Rattle.pfc_scene.proofs.scene.Scene.go_on.Goals as goal

pub invariant_of-self : goal.invariant_of-self
invariant_of-self g c =
    gone_scene _ c.args.w c.index_mut.result.now c.go_on.new.self c.self.invariant (search rules) c.index_mut.ensures.value c.go_on.ensures
    (may_at _ _ c.args.w c.index_mut.result.now c.self.view_is c.index_mut.ensures.value c.requires.may)

pub returns : goal.returns
returns g c = moves_from _ _ _ c.self.view_is (gone_moves _ c.args.w c.go_on.new.self)
