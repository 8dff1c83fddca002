use Rattle.std.proofs.Common.{◌≡◌, ◌<◌, ℕ, Some}
use Rattle.std.specs.Prelude.{slice_get}
use Rattle.pfc_catalog.proofs.shells.Shells.first_free.Given as goal

abbrev pub invariant-loop-shell : goal.invariant-loop-shell
invariant-loop-shell l = (s : ℕ) → s < l.shell → (i : ℕ) × (slice_get l.self s ≡ Some (Some i))
