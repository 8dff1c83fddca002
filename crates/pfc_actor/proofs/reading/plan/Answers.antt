use Rattle.std.proofs.Common.{refl, ◌∙◌, sym, arith}
use Rattle.pfc_core.specs.Marks.{sees}
use Rattle.pfc_actor.specs.StageView as st
use Rattle.pfc_actor.proofs.Cores.{own_step}
use Rattle.pfc_actor.proofs.Holding.{placed_weighs, of_file}
use Rattle.pfc_actor.proofs.Going.{planned_step}
use Rattle.pfc_actor.proofs.Steps.{own_answered}
use Rattle.pfc_actor.proofs.Calm.{calm_still, calm_plans}
use Rattle.pfc_actor.proofs.Giving.{numbered_plans}
use Rattle.pfc_actor.proofs.reading.plan.Goals as goal

pub returns-in-Ok-clause-work : goal.returns-in-Ok-clause-work
returns-in-Ok-clause-work g c =
    let plans = c.in-Ok.ensures.ok in let stay = c.requires.work.0 in let reads = c.requires.work.1 in
    let held = placed_weighs (sees stay) c.args.book.now.stays c.args.number stay reads.is_open in
    let file = of_file c.args.book.now (st.Planning c.args.number c.args.pieces) c.args.core.now stay c.requires.knows (c.requires.here stay reads.is_open) (omega (arith, held)) in record {
      number = c.args.number;
      stay = stay;
      reads = rw plans.pieces_is reads;
      path_is = plans.begins.reads.path_is ∙ sym file.path_is;
      size_is = plans.begins.reads.size_is ∙ sym file.size_is;
      client_is = plans.begins.reads.client_is ∙ c.number.ensures;
      given_is = plans.idle;
      numbered = numbered_plans _ _ _ _ _ plans;
    }

pub returns-in-Ok-clause-step : goal.returns-in-Ok-clause-step
returns-in-Ok-clause-step g c = planned_step _ _ _ _ _ _ _ _ c.in-Ok.ensures.ok c.number.ensures

pub returns-in-Err-clause-step : goal.returns-in-Err-clause-step
returns-in-Err-clause-step g c =
    own_step _ _ _ _ _ _ _ _ (own_answered _ _ _ _ _ _ _ 0 (λ w. refl) refl refl (λ i. refl) c.reply.ensures c.requires.work.1.asked.next refl refl refl refl (omega arith) (omega arith) refl) c.in-Err.ensures.memory

pub returns-in-Ok-clause-calm : goal.returns-in-Ok-clause-calm
returns-in-Ok-clause-calm g c = calm_plans _ _ _ _ _ c.in-Ok.ensures.ok

pub returns-in-Err-clause-calm : goal.returns-in-Err-clause-calm
returns-in-Err-clause-calm g c = calm_still _ _ c.in-Err.ensures.memory
