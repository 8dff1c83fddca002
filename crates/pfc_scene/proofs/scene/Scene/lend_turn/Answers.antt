use Rattle.std.proofs.Common.{rules, ◌∙◌, ap, length}
use Rattle.std.proofs.lemmas.List.{length-set}
use Rattle.pfc_scene.specs.Scenes.{SceneView}
use Rattle.pfc_scene.proofs.Moving.{moves_from}
use Rattle.pfc_scene.proofs.Scenes.{jobs_at, loan_moves, loan_scene, own_at}
use Rattle.pfc_scene.proofs.scene.Scene.lend_turn.Goals as goal

pub invariant_of-self : goal.invariant_of-self
invariant_of-self g c =
    loan_scene _ c.args.i c.index_mut-2.result.now c.lend_turn-lent.new.core c.index_mut.result.now c.lend_turn-lent.new.self c.self.invariant (search rules) c.index_mut-2.ensures.value c.index_mut.ensures.value c.lend_turn-lent.ensures.step
    (own_at c.self.inside.cores.items c.args.i c.lend_turn-lent.new.core c.index.result.now (search rules) c.index.ensures c.own.ensures.own)
    (jobs_at c.self.inside.cores.items c.args.i c.lend_turn-lent.new.core c.index.result.now (search rules) c.index.ensures c.own.ensures.jobs)

pub returns-clause-moves : goal.returns-clause-moves
returns-clause-moves g c =
    moves_from _ _ _ c.self.view_is
    (loan_moves _ c.args.i c.index_mut-2.result.now c.lend_turn-lent.new.core c.index_mut.result.now c.lend_turn-lent.new.self c.self.invariant (search rules) c.index_mut-2.ensures.value c.index_mut.ensures.value c.lend_turn-lent.ensures.step)

pub returns-clause-cores : goal.returns-clause-cores
returns-clause-cores g c = length-set c.self.inside.cores.items c.args.i c.lend_turn-lent.new.core ∙ ap (λ (v : SceneView). length v.cores) c.self.view_is
