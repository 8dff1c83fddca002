use Rattle.std.proofs.Common.{◌∙◌, arith}
use Rattle.pfc_actor.specs.StageView as st
use Rattle.pfc_actor.proofs.Calm.{calm_kept, calm_still}
use Rattle.pfc_actor.proofs.Holding.{no_stranger}
use Rattle.pfc_actor.proofs.Going.{returned_step}
use Rattle.pfc_actor.proofs.loading.end_part.Goals as goal

pub returns-in-Ok-clause-step : goal.returns-in-Ok-clause-step
returns-in-Ok-clause-step g c = returned_step _ _ _ _ _ _ c.in-Ok.ensures.ok c.requires.here

pub returns-in-Err-clause-step : goal.returns-in-Err-clause-step
returns-in-Err-clause-step g c =
    absurd (no_stranger c.args.book.now (st.Loaded c.args.op c.args.disk) c.args.core.now c.args.disk c.requires.knows (c.requires.work.1.instance_is ∙ c.requires.here) (omega arith) c.in-Err.ensures.strayed.unlisted)

pub returns-in-Ok-clause-calm : goal.returns-in-Ok-clause-calm
returns-in-Ok-clause-calm g c = calm_kept c.args.core.now _ c.in-Ok.ensures.ok.rest

pub returns-in-Err-clause-calm : goal.returns-in-Err-clause-calm
returns-in-Err-clause-calm g c = calm_still _ _ c.in-Err.ensures.strayed.unchanged
