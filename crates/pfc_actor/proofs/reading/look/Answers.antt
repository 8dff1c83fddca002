use Rattle.std.proofs.Common.{refl, ◌∙◌, arith}
use Rattle.pfc_actor.specs.StageView as st
use Rattle.pfc_actor.proofs.Holding.{no_stranger}
use Rattle.pfc_actor.proofs.Going.{looked_step, lost_step}
use Rattle.pfc_log.specs.declared.entry.Entry.TheVariants as e
use Rattle.pfc_log.specs.declared.entry.Way.TheVariants as way
use Rattle.pfc_actor.proofs.Calm.{calm_still, calm_entered}
use Rattle.pfc_actor.proofs.reading.look.Goals as goal

pub returns-in-Flying-clause-step : goal.returns-in-Flying-clause-step
returns-in-Flying-clause-step g c = let saw = c.in-Flying.ensures in looked_step _ _ _ c.look.new.self _ _ _ _ _ _ saw.0.unchanged saw.1.gains saw.1.rest

pub returns-in-Ready-clause-step : goal.returns-in-Ready-clause-step
returns-in-Ready-clause-step g c = let saw = c.in-Ready.ensures in looked_step _ _ _ c.look.new.self _ _ _ _ _ _ saw.0.unchanged saw.1.gains saw.1.rest

pub returns-in-Lost-clause-step : goal.returns-in-Lost-clause-step
returns-in-Lost-clause-step g c = let saw = c.in-Lost.ensures in
    lost_step _ _ _ _ _ _ _ _ saw.0 saw.1 c.requires.here (c.requires.work.1.token.client_is ∙ c.requires.work.0.client_is)

pub returns-in-Own-clause-step : goal.returns-in-Own-clause-step
returns-in-Own-clause-step g c = let saw = c.in-Own.ensures in looked_step _ _ _ c.look.new.self _ _ _ _ _ _ saw.0.unchanged saw.1.gains saw.1.rest

pub returns-in-Stray-clause-step : goal.returns-in-Stray-clause-step
returns-in-Stray-clause-step g c = let saw = c.in-Stray.ensures in
    absurd (no_stranger c.args.book.now (st.Looking c.args.op c.args.pin c.args.part) c.args.core.now c.args.pin c.requires.knows (c.requires.work.1.token.instance_is ∙ c.requires.here) (omega arith) saw.0.unlisted)

pub returns-in-Flying-clause-calm : goal.returns-in-Flying-clause-calm
returns-in-Flying-clause-calm g c = calm_still _ _ c.in-Flying.ensures.0.unchanged

pub returns-in-Ready-clause-calm : goal.returns-in-Ready-clause-calm
returns-in-Ready-clause-calm g c = calm_still _ _ c.in-Ready.ensures.0.unchanged

pub returns-in-Own-clause-calm : goal.returns-in-Own-clause-calm
returns-in-Own-clause-calm g c = calm_still _ _ c.in-Own.ensures.0.unchanged

pub returns-in-Stray-clause-calm : goal.returns-in-Stray-clause-calm
returns-in-Stray-clause-calm g c = calm_still _ _ c.in-Stray.ensures.0.unchanged

pub returns-in-Lost-clause-calm : goal.returns-in-Lost-clause-calm
returns-in-Lost-clause-calm g c = calm_entered c.args.core.now _ (e.Direct c.args.pin.block c.args.pin.client (way.Lost c.args.pin.flight)) _ c.in-Lost.ensures.0.enters refl
