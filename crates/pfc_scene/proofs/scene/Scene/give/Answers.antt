use Rattle.std.proofs.Common.{rules, ◌<◌, ◌∙◌, ap, arith, length}
use Rattle.std.proofs.lemmas.List.{get_or-set_same, length-set}
use Rattle.pfc_core.specs.View.{CoreView}
use Rattle.pfc_scene.specs.Scenes.{SceneView}
use Rattle.pfc_scene.proofs.Casts.{stays_for}
use Rattle.pfc_scene.proofs.Moving.{moves_from}
use Rattle.pfc_scene.proofs.Scenes.{jobs_at, loan_moves, loan_scene, own_at}
use Rattle.pfc_scene.proofs.Tasks.{open_there}
use Rattle.pfc_scene.proofs.scene.Scene.give.Goals as goal

pub invariant_of-self : goal.invariant_of-self
invariant_of-self g c =
    loan_scene _ c.args.i c.index_mut-2.result.now c.give-given.new.core c.index_mut.result.now c.give-given.new.self c.self.invariant (search rules) c.index_mut-2.ensures.value c.index_mut.ensures.value c.give-given.ensures.step
    (own_at c.self.inside.cores.items c.args.i c.give-given.new.core c.index.result.now (search rules) c.index.ensures c.own.ensures.own)
    (jobs_at c.self.inside.cores.items c.args.i c.give-given.new.core c.index.result.now (search rules) c.index.ensures c.own.ensures.jobs)

pub returns-clause-moves : goal.returns-clause-moves
returns-clause-moves g c =
    moves_from _ _ _ c.self.view_is
    (loan_moves _ c.args.i c.index_mut-2.result.now c.give-given.new.core c.index_mut.result.now c.give-given.new.self c.self.invariant (search rules) c.index_mut-2.ensures.value c.index_mut.ensures.value c.give-given.ensures.step)

pub returns-clause-here : goal.returns-clause-here
returns-clause-here g c e =
    let low : c.args.i < length c.self.inside.cores.items = search rules in
    ap (λ (v : CoreView). v.instance) (get_or-set_same c.self.inside.cores.items c.args.i c.give-given.new.core e low)
    ∙ (stays_for c.index_mut-2.result.now c.give-given.new.core c.give-given.ensures.step.home).instance_is
    ∙ ap (λ (v : CoreView). v.instance) c.index_mut-2.ensures.value
    ∙ (c.self.invariant.cast.places c.args.i c.index_mut-2.result.now low).instance_is

pub returns-clause-cores : goal.returns-clause-cores
returns-clause-cores g c = length-set c.self.inside.cores.items c.args.i c.give-given.new.core ∙ ap (λ (v : SceneView). length v.cores) c.self.view_is

pub returns-clause-back : goal.returns-clause-back
returns-clause-back g c did =
    let low : c.args.i < length c.self.inside.cores.items = search rules in let long = c.self.invariant.backed.long in
    open_there c.self.inside.backings.items c.args.i c.give-given.new.self (omega (arith, low, long)) (c.give-given.ensures.yes did)

pub returns-clause-backings : goal.returns-clause-backings
returns-clause-backings g c = length-set c.self.inside.backings.items c.args.i c.give-given.new.self ∙ ap (λ (v : SceneView). length v.backings) c.self.view_is
