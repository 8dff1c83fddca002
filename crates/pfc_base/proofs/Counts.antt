-- Counts of set bits, in words and in lanes.
use Rattle.std.proofs.Common.{◌≡◌, Bool, true, false, not, ℕ, ◌+◌, ◌*◌, ◌≤◌, List, [], ◌∷◌, length, get_or, map, sum_by, refl, sym, ap, ◌∙◌, arith, Fits, w64}
use Rattle.std.specs.Int.RustNames.{count_ones}
use Rattle.std.specs.Simd.Lanes.{sum_l}
use Rattle.std.proofs.lemmas.Nat.{ones-le}
use Rattle.std.proofs.lemmas.List.{get_or_default}
use Rattle.std.proofs.lemmas.List.Sums.{sum_by-le, sum_by-cons}

-- a word has at most 64 set bits
pub sum_by-ones-le : (words : List ℕ) → ((i : ℕ) → Fits w64 (get_or words i 0)) → sum_by count_ones words ≤ length words * 64
sum_by-ones-le words fit = sum_by-le count_ones 64 words (λ k d lt. omega (arith, ap count_ones (get_or_default words k d 0 lt), ones-le 64 (get_or words k 0) (fit k).fits))

-- the lanes of the counts, summed
pub sum_l-ones : (words : List ℕ) → sum_l (map (λ x. x) (map count_ones words)) ≡ sum_by count_ones words
sum_l-ones [] = refl
sum_l-ones (x ∷ xs) = ap (λ s. count_ones x + s) (sum_l-ones xs) ∙ sym (sum_by-cons count_ones x xs)

pub not-not : (b : Bool) → not (not b) ≡ b
not-not true = refl
not-not false = refl
