-- What a purge takes, and in which order.
use Rattle.std.specs.Prelude.{◌≡◌, ◌⊎◌, ℕ, ◌-◌, ◌<◌, ◌≤◌, true, false, List, Some, length, take, map, filter, sum_by, IsPermutation, IsSorted}
use Rattle.std.specs.declared.cmp.Ordering.{Ordering}
use Rattle.std.specs.Ordering.{nat_cmp, ordering_then, is_lt}
use Rattle.std.specs.Cmp.Lexicographic.{slice_cmp}
use Rattle.pfc_catalog.specs.declared.entry.Entry.{Entry}
use Rattle.pfc_catalog.specs.declared.entry.State.TheVariants as states
use Rattle.pfc_catalog.specs.declared.catalog.Victim.{Victim}
use Rattle.pfc_catalog.specs.declared.catalog.Victim.TheVariants.{Take, Enough, NoneLeft}
use Rattle.pfc_catalog.specs.Entry.{is_candidate, with_state}
use Rattle.pfc_catalog.specs.Files.{entry_at}
use Rattle.pfc_catalog.specs.View.{CatalogView}
use Rattle.pfc_catalog.specs.Catalog.{put, usage_in, usage_of}

-- the order of a purge: by last access, then by the bytes of the path
abbrev pub purge_cmp : List ℕ × Entry → List ℕ × Entry → Ordering
purge_cmp a b = ordering_then (nat_cmp a.1.last b.1.last) (slice_cmp nat_cmp a.0 b.0)

-- this file is a candidate, and none comes before it
pub record IsFirst (files : List (List ℕ × Entry)) (path : List ℕ) (e : Entry) : Type 0 where
  pub there : entry_at path files ≡ Some e
  pub candidate : is_candidate e ≡ true
  pub first : (q : List ℕ) (f : Entry) → entry_at q files ≡ Some f → is_candidate f ≡ true → is_lt (purge_cmp (q, f) (path, e)) ≡ false

abbrev pub HasNoCandidate : List (List ℕ × Entry) → Type 0
HasNoCandidate files = (q : List ℕ) (f : Entry) → entry_at q files ≡ Some f → is_candidate f ≡ false

-- What the purge is told, and what it leaves.
abbrev pub Takes : ℕ → CatalogView → Victim → CatalogView → Type 0
Takes low old (Take path) new =
    (low < usage_of old.entries) × (e : Entry) × IsFirst old.entries path e × (new ≡ record old { entries = put path (with_state states.Victim e) old.entries })
Takes low old (Enough usage mark) new = (usage ≤ low) × (usage ≡ usage_of old.entries) × (mark ≡ low) × (new ≡ old)
Takes low old NoneLeft new = (low < usage_of old.entries) × HasNoCandidate old.entries × (new ≡ old)

-- the candidates, in the order in which they came
abbrev pub candidates : List (List ℕ × Entry) → List (List ℕ × Entry)
candidates files = filter (λ f. is_candidate f.1) files

-- the candidates, in the order of a purge
pub record IsOrder (files order : List (List ℕ × Entry)) : Type 0 where
  pub same : IsPermutation (candidates files) order
  pub sorted : IsSorted purge_cmp order

-- what is left of a usage without the first n files
abbrev pub left_of : ℕ → List (List ℕ × Entry) → ℕ → ℕ
left_of usage order n = usage - sum_by usage_in (take n order)

-- The plan is the shortest front of the order that leaves at most the low mark, or the whole order where none does.
pub record IsShortest (usage low : ℕ) (order : List (List ℕ × Entry)) (plan : List (List ℕ)) : Type 0 where
  pub within : length plan ≤ length order
  pub front : plan ≡ map (λ f. f.0) (take (length plan) order)
  pub enough : (left_of usage order (length plan) ≤ low) ⊎ (length plan ≡ length order)
  pub shortest : (n : ℕ) → n < length plan → low < left_of usage order n

-- the plan for files whose usage is above the high mark
abbrev pub IsPlan : List (List ℕ × Entry) → ℕ → List (List ℕ) → Type 0
IsPlan files low plan = (order : List (List ℕ × Entry)) × IsOrder files order × IsShortest (usage_of files) low order plan
