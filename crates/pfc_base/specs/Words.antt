-- Bits in lists of words, and the least number that passes a test.
use Rattle.std.specs.Prelude.{◌≡◌, ◌==◌, ℕ, ◌/◌, ◌%◌, ◌<◌, ◌≤◌, Bool, true, false, List, slice_index, Option, Some, None, if◌then◌else◌}
use Rattle.std.specs.Int.{bit_at, to_le_bytes, w64}
use Rattle.std.specs.List.{flat_map}

-- 1 for a test that passes
abbrev pub bit_of : Bool → ℕ
bit_of test = if test then 1 else 0

-- one bit of words that have so many bits each: the low word first, and in a word the low bit
abbrev pub bit_in : ℕ → List ℕ → ℕ → ℕ
bit_in width words i = bit_at (slice_index words (i / width)) (i % width)

-- the bytes of words, the low byte first
abbrev pub bytes_of : List ℕ → List ℕ
bytes_of words = flat_map (to_le_bytes w64) words

-- whether a place has this bit
abbrev pub has_bit : List ℕ → Bool → ℕ → Bool
has_bit words bit i = bit_in 64 words i == bit_of bit

-- no number from the one up to the other passes
abbrev pub NonePass : (ℕ → Bool) → ℕ → ℕ → Type 0
NonePass test from end = (i : ℕ) → from ≤ i → i < end → test i ≡ false

-- it is the least number from the one up to the other that passes
pub record IsLeast (test : ℕ → Bool) (from end i : ℕ) : Type 0 where
  pub low : from ≤ i
  pub high : i < end
  pub passes : test i ≡ true
  pub least : NonePass test from i

-- the least number from the one up to the other that passes, or that there is none
abbrev pub IsFirst : (ℕ → Bool) → ℕ → ℕ → Option ℕ → Type 0
IsFirst test from end None = NonePass test from end
IsFirst test from end (Some i) = IsLeast test from end i
