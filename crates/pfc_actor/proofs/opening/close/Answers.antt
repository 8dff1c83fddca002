use Rattle.std.proofs.Common.{refl, ap, sym, ◌∙◌, arith}
use Rattle.pfc_core.specs.Marks.{sees}
use Rattle.pfc_actor.specs.StageView as st
use Rattle.pfc_actor.specs.Books.{BookView}
use Rattle.pfc_actor.proofs.Holding.{no_stranger}
use Rattle.pfc_actor.proofs.Cores.{closed_step}
use Rattle.pfc_log.specs.declared.entry.Entry.TheVariants as e
use Rattle.pfc_actor.proofs.Calm.{calm_still, calm_visited}
use Rattle.pfc_actor.proofs.opening.close.Goals as goal

pub returns-in-Ok-clause-step : goal.returns-in-Ok-clause-step
returns-in-Ok-clause-step g c =
    closed_step _ _ _ _ _ c.args.number _ c.in-Some.stay c.requires.work.0.next c.in-Some.ensures.mine.client_is c.in-Ok.ensures.ok c.in-Some.ensures.weighs
    (ap (λ (v : BookView). v.number) c.closed.ensures.closed) (ap (λ (v : BookView). v.asked) c.closed.ensures.closed) (ap (λ (v : BookView). v.replies) c.closed.ensures.closed)

pub returns-in-Err-clause-step : goal.returns-in-Err-clause-step
returns-in-Err-clause-step g c =
    let held = c.in-Some.ensures.weighs (sees c.in-Some.stay) in
    absurd (no_stranger c.args.book.now (st.Closing c.args.number) c.args.core.now c.in-Some.stay c.requires.knows (c.requires.here c.in-Some.stay (sym c.closed.ensures.stay ∙ c.in-Some.is)) (omega (arith, held)) c.in-Err.ensures.strayed.unlisted)

pub returns-in-Ok-clause-calm : goal.returns-in-Ok-clause-calm
returns-in-Ok-clause-calm g c = calm_visited c.args.core.now _ (e.Closed _) _ _ c.in-Ok.ensures.ok.enters refl

pub returns-in-Err-clause-calm : goal.returns-in-Err-clause-calm
returns-in-Err-clause-calm g c = calm_still _ _ c.in-Err.ensures.strayed.unchanged
