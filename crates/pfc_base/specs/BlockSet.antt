-- Sets of block numbers below a bound. A set is seen as a list of tests, as long as the bound is.
use Rattle.std.specs.Prelude.{◌≡◌, ◌==◌, ◌↔◌, ℕ, ◌+◌, ◌*◌, ◌/◌, ◌%◌, ◌^◌, ◌<◌, ◌≤◌, Bool, true, false, List, length, map, slice_index, slice_index_or, All, AllPairs, Any}
use Rattle.std.specs.Int.{bit_at}
use Rattle.std.specs.List.{range_with_len}
pub use Rattle.pfc_base.specs.Words.{bit_of}
use Rattle.pfc_base.specs.Words.{bit_in}

-- whether a number is in the set; none past the bound is
abbrev pub is_member : List Bool → ℕ → Bool
is_member set i = slice_index_or set i false

-- each member of the one is in the other
abbrev pub IsWithin : List Bool → List Bool → Type 0
IsWithin low high = (i : ℕ) → is_member low i ≡ true → is_member high i ≡ true

-- The bitmap of a set: one bit for each number below the bound, low bit first, and padding bits that are 0.
pub record IsBitmap (bytes : List ℕ) (set : List Bool) : Type 0 where
  pub size : length bytes ≡ (length set + 7) / 8
  pub bits : (i : ℕ) → i < 8 * length bytes → bit_at (slice_index bytes (i / 8)) (i % 8) ≡ bit_of (is_member set i)

-- some bit of the bytes past the bound is set
abbrev pub HasPadding : List ℕ → ℕ → Type 0
HasPadding bytes bound = (i : ℕ) × (bound ≤ i) × (i < 8 * length bytes) × (bit_in 8 bytes i ≡ 1)

-- the words of a set: a bit for each number, 64 to a word, low bit first, and no other bit
pub record AreWords (words : List ℕ) (set : List Bool) : Type 0 where
  pub size : length words ≡ (length set + 63) / 64
  pub bits : (i : ℕ) → bit_in 64 words i ≡ bit_of (is_member set i)

-- The longest runs of members, each its first and its last, in order.
pub record AreRuns (runs : List (ℕ × ℕ)) (set : List Bool) : Type 0 where
  pub ordered : All (λ run. run.0 ≤ run.1) runs
  pub apart : AllPairs (λ run later. run.1 + 1 < later.0) runs
  pub covers : (i : ℕ) → (is_member set i ≡ true) ↔ Any (λ run. (run.0 ≤ i) × (i ≤ run.1)) runs

-- what words of 64 bits say of the numbers below a bound
unfoldable pub members_of : List ℕ → ℕ → List Bool
members_of words bound = map (λ i. bit_in 64 words i == 1) (range_with_len 0 bound)

-- The words of a set below a bound: as few as hold it, and no bit past the bound is set.
pub record AreKept (words : List ℕ) (bound : ℕ) : Type 0 where
  pub small : bound < 2 ^ 32
  pub fits : (k : ℕ) → slice_index words k < 2 ^ 64
  pub size : length words ≡ (bound + 63) / 64
  pub spare : (i : ℕ) → bound ≤ i → bit_in 64 words i ≡ 0
