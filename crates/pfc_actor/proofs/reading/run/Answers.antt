use Rattle.std.proofs.Common.{refl, ◌∙◌, ap, sym, arith}
use Rattle.pfc_core.specs.Marks.{Mark, listed}
use Rattle.pfc_actor.specs.StageView as st
use Rattle.pfc_actor.proofs.Holding.{no_stranger}
use Rattle.pfc_actor.proofs.Going.{landed_step, failed_step, wanted_step}
use Rattle.pfc_log.specs.declared.entry.Entry.TheVariants as e
use Rattle.pfc_actor.proofs.Calm.{calm_still, calm_entered}
use Rattle.pfc_actor.proofs.Giving.{settled_landed}
use Rattle.pfc_actor.proofs.reading.run.Goals as goal

pub returns-in-Ok-clause-step : goal.returns-in-Ok-clause-step
returns-in-Ok-clause-step g c =
    landed_step _ _ _ _ _ _ _ _ _ _ _ c.in-Landed.ensures c.in-Ok.ensures.ok c.supply.ensures c.requires.here (c.requires.work.1.client_is ∙ c.requires.work.0.client_is)
    (settled_landed _ _ _ _ _ c.in-Landed.ensures.back_is c.in-Ok.ensures.ok c.requires.work.2 c.log-log.ensures.lawful)

pub returns-in-Err-clause-step : goal.returns-in-Err-clause-step
returns-in-Err-clause-step g c =
    absurd (no_stranger c.args.book.now (st.Running c.args.op c.args.ticket) c.args.core.now c.args.ticket c.requires.knows (c.requires.work.1.instance_is ∙ c.requires.here) (omega arith)
    (ap (λ (m : Mark). listed m c.args.core.now.out) (sym c.in-Landed.ensures.back_is) ∙ c.in-Err.ensures.strayed.unlisted))

pub returns-in-Ok-fail-clause-step : goal.returns-in-Ok-fail-clause-step
returns-in-Ok-fail-clause-step g c =
    failed_step _ _ _ _ _ _ _ _ _ c.in-Fault.ensures c.in-Ok-fail.ensures.ok c.supply-in-Ok-fail.ensures c.requires.here (c.requires.work.1.client_is ∙ c.requires.work.0.client_is)

pub returns-in-Err-fail-clause-step : goal.returns-in-Err-fail-clause-step
returns-in-Err-fail-clause-step g c =
    absurd (no_stranger c.args.book.now (st.Running c.args.op c.args.ticket) c.args.core.now c.args.ticket c.requires.knows (c.requires.work.1.instance_is ∙ c.requires.here) (omega arith)
    (ap (λ (m : Mark). listed m c.args.core.now.out) (sym c.in-Fault.ensures.back_is) ∙ c.in-Err-fail.ensures.strayed.unlisted))

pub returns-in-Ok-fail-2-clause-step : goal.returns-in-Ok-fail-2-clause-step
returns-in-Ok-fail-2-clause-step g c =
    wanted_step _ _ _ _ _ _ _ _ _ c.in-Memory.ensures c.in-Ok-fail-2.ensures.ok c.supply-in-Ok-fail-2.ensures c.requires.here (c.requires.work.1.client_is ∙ c.requires.work.0.client_is)

pub returns-in-Err-fail-2-clause-step : goal.returns-in-Err-fail-2-clause-step
returns-in-Err-fail-2-clause-step g c =
    absurd (no_stranger c.args.book.now (st.Running c.args.op c.args.ticket) c.args.core.now c.args.ticket c.requires.knows (c.requires.work.1.instance_is ∙ c.requires.here) (omega arith)
    (ap (λ (m : Mark). listed m c.args.core.now.out) (sym c.in-Memory.ensures.back_is) ∙ c.in-Err-fail-2.ensures.strayed.unlisted))

pub returns-in-Ok-clause-calm : goal.returns-in-Ok-clause-calm
returns-in-Ok-clause-calm g c = calm_entered c.args.core.now _ (e.Landed _) _ c.in-Ok.ensures.ok.enters refl

pub returns-in-Err-clause-calm : goal.returns-in-Err-clause-calm
returns-in-Err-clause-calm g c = calm_still _ _ c.in-Err.ensures.strayed.unchanged

pub returns-in-Ok-fail-clause-calm : goal.returns-in-Ok-fail-clause-calm
returns-in-Ok-fail-clause-calm g c = calm_entered c.args.core.now _ (e.Failed _ _) _ c.in-Ok-fail.ensures.ok.enters refl

pub returns-in-Err-fail-clause-calm : goal.returns-in-Err-fail-clause-calm
returns-in-Err-fail-clause-calm g c = calm_still _ _ c.in-Err-fail.ensures.strayed.unchanged

pub returns-in-Ok-fail-2-clause-calm : goal.returns-in-Ok-fail-2-clause-calm
returns-in-Ok-fail-2-clause-calm g c = calm_entered c.args.core.now _ (e.Failed _ _) _ c.in-Ok-fail-2.ensures.ok.enters refl

pub returns-in-Err-fail-2-clause-calm : goal.returns-in-Err-fail-2-clause-calm
returns-in-Err-fail-2-clause-calm g c = calm_still _ _ c.in-Err-fail-2.ensures.strayed.unchanged
