-- The best candidate of a front of the files.
use Rattle.std.specs.Prelude.{◌≡◌, ℕ, ◌<◌, true, false, List, Option, Some, None, slice_get}
use Rattle.std.specs.Ordering.{is_lt}
use Rattle.pfc_catalog.specs.declared.entry.Entry.{Entry}
use Rattle.pfc_catalog.specs.Entry.{is_candidate}
use Rattle.pfc_catalog.specs.Purge.{purge_cmp}

-- the file at place b is a candidate, and of those before place n none comes before it
pub record IsBestAt (files : List (List ℕ × Entry)) (n b : ℕ) : Type 0 where
  pub file : List ℕ × Entry
  pub there : slice_get files b ≡ Some file
  pub candidate : is_candidate file.1 ≡ true
  pub best : (i : ℕ) (f : List ℕ × Entry) → i < n → slice_get files i ≡ Some f → is_candidate f.1 ≡ true → is_lt (purge_cmp f file) ≡ false

abbrev pub IsBest : List (List ℕ × Entry) → ℕ → Option ℕ → Type 0
IsBest files n None = (i : ℕ) (f : List ℕ × Entry) → i < n → slice_get files i ≡ Some f → is_candidate f.1 ≡ false
IsBest files n (Some b) = IsBestAt files n b
