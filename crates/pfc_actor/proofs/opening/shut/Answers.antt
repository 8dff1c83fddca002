use Rattle.std.proofs.Common.{refl, ap, sym, ◌∙◌, arith, ◌≡◌}
use Rattle.std.specs.Prelude.{Some, option_map}
use Rattle.pfc_core.specs.Marks.{Mark, sees}
use Rattle.pfc_actor.specs.StageView as st
use Rattle.pfc_actor.specs.Books.{BookView}
use Rattle.pfc_actor.proofs.Cores.{shut_step}
use Rattle.pfc_actor.proofs.Holding.{no_stranger}
use Rattle.pfc_log.specs.declared.entry.Entry.TheVariants as e
use Rattle.pfc_actor.proofs.Calm.{calm_visited}
use Rattle.pfc_actor.proofs.opening.shut.Goals as goal

pub unreachable-requires : goal.unreachable-requires
unreachable-requires g c =
    let held = c.in-Some-shut.ensures.weighs (sees c.in-Some-shut.stay) in
    let found : Some c.in-Some-instance_at.instance ≡ Some c.in-Some-shut.stay.instance = c.in-Some-instance_at.ensures ∙ ap (option_map (λ (m : Mark). m.instance)) (sym c.in-Some-shut.ensures.stay) in
    let one : c.in-Some-instance_at.instance ≡ c.in-Some-shut.stay.instance = cc in
    let of : c.in-Some-shut.stay.instance ≡ c.args.core.now.instance = sym one ∙ c.if-instance.false ∙ c.instance.ensures in
    no_stranger c.args.book.now st.Rest c.args.core.now c.in-Some-shut.stay c.requires.knows of (omega (arith, held)) c.in-Err.ensures.strayed.unlisted

pub returns-clause-step : goal.returns-clause-step
returns-clause-step g c =
    shut_step _ _ _ _ _ _ c.in-Some-shut.stay c.in-Some-shut.ensures.mine.client_is c.in-Ok.ensures.ok c.in-Some-shut.ensures.weighs
    (ap (λ (v : BookView). v.number) c.shut.ensures.rest) (ap (λ (v : BookView). v.asked) c.shut.ensures.rest) (ap (λ (v : BookView). v.replies) c.shut.ensures.rest)

pub returns-clause-calm : goal.returns-clause-calm
returns-clause-calm g c = calm_visited c.args.core.now _ (e.Closed _) _ _ c.in-Ok.ensures.ok.enters refl
