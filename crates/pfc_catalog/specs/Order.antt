-- The candidates of a purge in order, by last access and path.
use Rattle.std.specs.Prelude.{◌≡◌, ℕ, ◌==◌, ◌&&◌, Bool, true, false, if◌then◌else◌, List, Option, Some, None}
use Rattle.std.specs.List.{list_any}
use Rattle.std.specs.BTreeMap.{is_at}
use Rattle.std.specs.declared.cmp.Ordering.{Ordering}
use Rattle.std.specs.Ordering.{nat_cmp, ordering_then}
use Rattle.std.specs.Cmp.Lexicographic.{slice_cmp}
use Rattle.pfc_catalog.specs.declared.entry.Entry.{Entry}
use Rattle.pfc_catalog.specs.Entry.{is_candidate}
use Rattle.pfc_catalog.specs.Files.{entry_at}

-- the keys that are noted, and whether they are those of all candidates
pub record OrderView : Type 0 where
  pub keys : List (ℕ × List ℕ)
  pub whole : Bool

abbrev pub key_cmp : ℕ × List ℕ → ℕ × List ℕ → Ordering
key_cmp a b = ordering_then (nat_cmp a.0 b.0) (slice_cmp nat_cmp a.1 b.1)

-- whether the two are one key
abbrev pub is_key : ℕ × List ℕ → ℕ × List ℕ → Bool
is_key a b = is_at (key_cmp a) b

-- whether the key is noted
abbrev pub has : ℕ × List ℕ → List (ℕ × List ℕ) → Bool
has key keys = list_any (is_at (key_cmp key)) keys

-- the candidate at this path isn't noted any more
abbrev pub without : List ℕ → Entry → ℕ × List ℕ → Bool → Bool
without path e key had = if is_candidate e then (if is_key (e.last, path) key then false else had) else had

-- the candidate at this path is noted
abbrev pub with_it : List ℕ → Entry → ℕ × List ℕ → Bool → Bool
with_it path e key had = if is_candidate e then (if is_key (e.last, path) key then true else had) else had

abbrev pub is_due : ℕ → Option Entry → Bool
is_due last None = false
is_due last (Some e) = is_candidate e && (e.last == last)

-- where it is whole, what is noted are the candidates
abbrev pub IsNoted : List (List ℕ × Entry) → OrderView → Type 0
IsNoted files order = order.whole ≡ true → (key : ℕ × List ℕ) → has key order.keys ≡ is_due key.0 (entry_at key.1 files)
