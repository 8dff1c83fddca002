use Rattle.std.proofs.Common.{rules, sym, subst}
use Rattle.std.specs.Prelude.{slice_index_or}
use Rattle.pfc_core.specs.View.{CoreView}
use Rattle.pfc_actor.specs.Clients.{ClientView}
use Rattle.pfc_actor.specs.Stages.{Here}
use Rattle.pfc_scene.specs.Scenes.{SceneView}
use Rattle.pfc_scene.proofs.Casts.{knows}
use Rattle.pfc_scene.proofs.Moving.{moves_from}
use Rattle.pfc_scene.proofs.Scenes.{jobs_at, least_at, on_moves, on_scene, own_at}
use Rattle.pfc_scene.proofs.scene.Scene.step_at.Goals as goal

pub step_at-requires-clause-knows : goal.step_at-requires-clause-knows
step_at-requires-clause-knows g c κs within =
    knows _ _ _ _ c.args.j c.args.i c.index_mut.result.now c.index_mut-2.result.now c.self.invariant.cast (search rules) (search rules) c.index_mut.ensures.value c.index_mut-2.ensures.value

pub step_at-requires-clause-here : goal.step_at-requires-clause-here
step_at-requires-clause-here g c κs within =
    let here = subst (λ (v : SceneView). (d : ClientView) (e : CoreView) → Here (slice_index_or v.clients c.args.j d).book (slice_index_or v.clients c.args.j d).stage (slice_index_or v.cores c.args.i e)) (sym c.self.view_is) c.requires.here in
    subst (λ (a : ClientView). Here a.book a.stage c.index_mut-2.result.now) (sym c.index_mut.ensures.value)
    (subst (λ (v : CoreView). Here (slice_index_or c.self.inside.clients.items c.args.j c.index_mut.result.now).book (slice_index_or c.self.inside.clients.items c.args.j c.index_mut.result.now).stage v) (sym c.index_mut-2.ensures.value)
    (here c.index_mut.result.now c.index_mut-2.result.now))

pub step_at-requires-clause-least : goal.step_at-requires-clause-least
step_at-requires-clause-least g c κs within = least_at _ c.args.i c.index_mut-2.result.now c.self.invariant (search rules) c.index_mut-2.ensures.value

pub invariant_of-self : goal.invariant_of-self
invariant_of-self g c =
    on_scene _ c.args.j c.args.i c.index_mut.result.now c.step_at.new.self c.index_mut-2.result.now c.step_at.new.core c.self.invariant (search rules) (search rules)
    c.index_mut.ensures.value c.index_mut-2.ensures.value c.step_at.ensures.step c.step_at.ensures.calm (own_at c.self.inside.cores.items c.args.i c.step_at.new.core c.index.result.now (search rules) c.index.ensures c.own.ensures.own)
    (jobs_at c.self.inside.cores.items c.args.i c.step_at.new.core c.index.result.now (search rules) c.index.ensures c.own.ensures.jobs)

pub returns : goal.returns
returns g c =
    moves_from _ _ _ c.self.view_is
    (on_moves _ c.args.j c.args.i c.index_mut.result.now c.step_at.new.self c.index_mut-2.result.now c.step_at.new.core c.self.invariant (search rules) c.index_mut.ensures.value c.index_mut-2.ensures.value c.step_at.ensures.step c.step_at.ensures.calm)
