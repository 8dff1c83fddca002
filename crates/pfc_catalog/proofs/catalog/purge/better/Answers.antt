use Rattle.std.proofs.Common.{Option, ℕ, sym, ◌∙◌, subst}
use Rattle.pfc_catalog.specs.Best.{IsBest}
use Rattle.pfc_catalog.proofs.Firsts.{best-one, best-new, best-old}
use Rattle.pfc_catalog.proofs.catalog.purge.better.Goals as goal

pub returns-in_default-best : goal.returns-in_default-best
returns-in_default-best c =
    best-one c.args.files.now c.args.place (c.in-Some.path.now, c.in-Some.entry) (sym c.in-Some.ensures)
    (subst (λ (o : Option ℕ). IsBest c.args.files.now c.args.place o) c.in_default-best.is c.requires.best) (sym c.is_candidate.ensures ∙ c.if-not-is_candidate.false)

pub returns-then-is_before : goal.returns-then-is_before
returns-then-is_before c =
    best-new c.args.files.now c.args.place (c.in-Some.path.now, c.in-Some.entry) (sym c.in-Some.ensures) c.in-Some-best.other (c.in-Some-at.other_path.now, c.in-Some-at.than)
    (subst (λ (o : Option ℕ). IsBest c.args.files.now c.args.place o) c.in-Some-best.is c.requires.best) (sym c.in-Some-at.ensures) (sym c.is_candidate.ensures ∙ c.if-not-is_candidate.false)
    (sym c.is_before.ensures ∙ c.if-is_before.true)

pub returns : goal.returns
returns c =
    best-old c.args.files.now c.args.place (c.in-Some.path.now, c.in-Some.entry) (sym c.in-Some.ensures) c.in-Some-best.other (c.in-Some-at.other_path.now, c.in-Some-at.than)
    (subst (λ (o : Option ℕ). IsBest c.args.files.now c.args.place o) c.in-Some-best.is c.requires.best) (sym c.in-Some-at.ensures) (sym c.is_before.ensures ∙ c.if-is_before.false)
