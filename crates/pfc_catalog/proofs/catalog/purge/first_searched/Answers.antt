use Rattle.std.proofs.Common.{◌≡◌, Some, Option, ℕ, sym, subst}
use Rattle.std.specs.Prelude.{length, slice_get}
use Rattle.pfc_catalog.specs.Best.{IsBest}
use Rattle.pfc_catalog.proofs.Firsts.{first-is, none-is}
use Rattle.pfc_catalog.proofs.catalog.purge.first_searched.Goals as goal

pub returns-in_err-place-clause-none : goal.returns-in_err-place-clause-none
returns-in_err-place-clause-none c =
    let fs = c.args.files.now in
    rw c.from_residual.ensures (none-is fs c.first_place.ensures.distinct (subst (λ (o : Option ℕ). IsBest fs (length fs) o) c.in_err-place.was c.first_place.ensures.best))

pub returns-clause-some : goal.returns-clause-some
returns-clause-some c =
    let fs = c.args.files.now in
    let there : slice_get fs c.in_ok-place.place ≡ Some (c.in_ok-path.path.now, c.in_ok-path.entry) = sym c.in_ok-path.ensures in
    rw c.copy.ensures (
      there,
      first-is fs c.first_place.ensures.distinct c.in_ok-place.place c.in_ok-path.path.now c.in_ok-path.entry
          (subst (λ (o : Option ℕ). IsBest fs (length fs) o) c.in_ok-place.was c.first_place.ensures.best) there,
    )
