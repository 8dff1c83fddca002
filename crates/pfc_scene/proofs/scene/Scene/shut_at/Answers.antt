use Rattle.std.proofs.Common.{rules}
use Rattle.pfc_scene.proofs.Casts.{knows}
use Rattle.pfc_scene.proofs.Moving.{moves_from}
use Rattle.pfc_scene.proofs.Scenes.{jobs_at, on_moves, on_scene, own_at}
use Rattle.pfc_scene.proofs.scene.Scene.shut_at.Goals as goal

pub shut_at-requires-clause-knows : goal.shut_at-requires-clause-knows
shut_at-requires-clause-knows g c κs within =
    knows _ _ _ _ c.args.j c.args.i c.index_mut.result.now c.index_mut-2.result.now c.self.invariant.cast (search rules) (search rules) c.index_mut.ensures.value c.index_mut-2.ensures.value

pub invariant_of-self : goal.invariant_of-self
invariant_of-self g c =
    on_scene _ c.args.j c.args.i c.index_mut.result.now c.shut_at.new.self c.index_mut-2.result.now c.shut_at.new.core c.self.invariant (search rules) (search rules)
    c.index_mut.ensures.value c.index_mut-2.ensures.value c.shut_at.ensures.step c.shut_at.ensures.calm (own_at c.self.inside.cores.items c.args.i c.shut_at.new.core c.index.result.now (search rules) c.index.ensures c.own.ensures.own)
    (jobs_at c.self.inside.cores.items c.args.i c.shut_at.new.core c.index.result.now (search rules) c.index.ensures c.own.ensures.jobs)

pub returns : goal.returns
returns g c =
    moves_from _ _ _ c.self.view_is
    (on_moves _ c.args.j c.args.i c.index_mut.result.now c.shut_at.new.self c.index_mut-2.result.now c.shut_at.new.core c.self.invariant (search rules) c.index_mut.ensures.value c.index_mut-2.ensures.value c.shut_at.ensures.step c.shut_at.ensures.calm)
