use Rattle.std.proofs.Common.{◌≡◌, Some, None, sym, ap, ◌∙◌, ℕ, Option}
use Rattle.std.specs.Prelude.{slice_get}
use Rattle.pfc_catalog.proofs.Tables.{live-free, live-found, live-not}
use Rattle.pfc_catalog.proofs.catalog.Catalog.at.Goals as goal

pub returns-in_err-place : goal.returns-in_err-place
returns-in_err-place c =
    let free : slice_get c.self.inside.shells c.args.shell ≡ Some None = c.at.ensures ∙ ap (λ (o : Option ℕ). Some o) c.in_err-place.was in
    rw (← c.self.view_is, c.from_residual.ensures) (sym (live-free c.self.inside.files c.self.inside.shells c.self.invariant.table c.args.shell free))

pub returns-then-is_live : goal.returns-then-is_live
returns-then-is_live c =
    let held : slice_get c.self.inside.shells c.args.shell ≡ Some (Some c.in_ok-place.place) = c.at.ensures ∙ ap (λ (o : Option ℕ). Some o) c.in_ok-place.was in
    let there : slice_get c.self.inside.files c.in_ok-place.place ≡ Some (c.in_ok-path.path.now, c.in_ok-path.entry) = sym (rw c.in_ok-path.was at c.at-2.ensures) in
    rw (← c.self.view_is) (sym (live-found c.self.inside.files c.self.inside.shells c.self.invariant.table c.args.shell _ _ held there (sym c.is_live.ensures ∙ c.if-is_live.true)))

pub returns : goal.returns
returns c =
    let held : slice_get c.self.inside.shells c.args.shell ≡ Some (Some c.in_ok-place.place) = c.at.ensures ∙ ap (λ (o : Option ℕ). Some o) c.in_ok-place.was in
    let there : slice_get c.self.inside.files c.in_ok-place.place ≡ Some (c.in_ok-path.path.now, c.in_ok-path.entry) = sym (rw c.in_ok-path.was at c.at-2.ensures) in
    rw (← c.self.view_is) (sym (live-not c.self.inside.files c.self.inside.shells c.self.invariant.table c.args.shell _ _ held there (sym c.is_live.ensures ∙ c.if-is_live.false)))
