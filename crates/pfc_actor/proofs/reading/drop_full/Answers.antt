use Rattle.std.proofs.Common.{refl, ◌∙◌, arith, inl, inr}
use Rattle.pfc_actor.specs.StageView as st
use Rattle.pfc_actor.proofs.Holding.{no_stranger}
use Rattle.pfc_actor.proofs.Going.{dropped_step}
use Rattle.pfc_actor.proofs.Calm.{calm_still, calm_dropped}
use Rattle.pfc_actor.proofs.reading.drop_full.Goals as goal

pub returns-in-Ok-clause-step : goal.returns-in-Ok-clause-step
returns-in-Ok-clause-step g c = dropped_step _ _ _ _ _ _ _ c.in-Ok.ensures.ok c.requires.here

pub returns-in-Err-clause-step : goal.returns-in-Err-clause-step
returns-in-Err-clause-step g c = elim c.in-Err.ensures.strayed.cause [
  | inl none ↦ absurd (no_stranger c.args.book.now (st.Full c.args.op c.args.job c.args.capacity) c.args.core.now c.args.job c.requires.knows (c.requires.work.1 ∙ c.requires.here) (omega arith) none)
  | inr may ↦ absurd (may tt)
]

pub returns-in-Ok-clause-calm : goal.returns-in-Ok-clause-calm
returns-in-Ok-clause-calm g c = calm_dropped _ _ _ _ refl c.in-Ok.ensures.ok

pub returns-in-Err-clause-calm : goal.returns-in-Err-clause-calm
returns-in-Err-clause-calm g c = calm_still _ _ c.in-Err.ensures.strayed.unchanged
