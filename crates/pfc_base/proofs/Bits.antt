-- Lists of words as their bits, at any width.
use Rattle.std.proofs.Common.{◌≡◌, ◌==◌, ℕ, zero, suc, ◌+◌, ◌-◌, ◌*◌, ◌/◌, ◌%◌, ◌^◌, ◌<◌, ◌≤◌, Bool, true, false, List, [], ◌∷◌, ◌++◌, length, get_or, slice_index, map, sum_by, count_by, refl, sym, ap, ◌∙◌, arith, inl, inr, cond}
use Rattle.std.specs.Int.{bit_at}
use Rattle.std.specs.Int.RustNames.{count_ones}
use Rattle.std.specs.List.{range_with_len}
use Rattle.std.specs.Simd.Lanes.{number_l}
use Rattle.std.proofs.lemmas.Bool.{cases_lt, cases_eq}
use Rattle.std.proofs.lemmas.List.{ext_get_or, get_or_past}
use Rattle.std.proofs.lemmas.List.FromFn.{map-range_with_len_more, fill_by_all}
use Rattle.std.proofs.lemmas.List.Sums.{sum_by-append, sum_by-cons}
use Rattle.std.proofs.lemmas.Nat.{div-mul-add, mod-mul-add, mod-pow-add, shr_split, ones_cat, pow_pos, mod_below, ones_le_self, zero_from_ones}
use Rattle.std.proofs.lemmas.Nat.Bits.{bit_at-lt, bit_at-zero, bit_at_above, bit_at_cat_low, bit_at_cat_high, same_from_bits, same_from_bits_below}
use Rattle.pfc_base.specs.Words.{bit_of, bit_in}

pub bit_in-at : (width : ℕ) (words : List ℕ) (k i : ℕ) → i < width → bit_in width words (k * width + i) ≡ bit_at (slice_index words k) i
bit_in-at width words k i h = λ m. bit_at (slice_index words (div-mul-add k width i h m)) (mod-mul-add k width i h m)

-- lists of as many words, with the same bits, are equal
pub same_from_bits_in : (width : ℕ) (a b : List ℕ) → length a ≡ length b → ((k : ℕ) → slice_index a k < 2 ^ width) → ((k : ℕ) → slice_index b k < 2 ^ width) →
    ((k i : ℕ) → k < length a → i < width → bit_in width a (k * width + i) ≡ bit_in width b (k * width + i)) → a ≡ b
same_from_bits_in width a b long fits fits' same =
    ext_get_or 0 a b long (λ k h. same_from_bits_below width (slice_index a k) (slice_index b k) (fits k) (fits' k)
    (λ i below. sym (bit_in-at width a k i below) ∙ same k i h below ∙ bit_in-at width b k i below))

-- words as one number, the low word first
abbrev pub number : List ℕ → ℕ
number words = number_l 18446744073709551616 words

number-cons : (w : ℕ) (ws : List ℕ) → number (w ∷ ws) ≡ number ws * 2 ^ 64 + w
number-cons w ws = omega arith

pub bit_at-number : (words : List ℕ) (i : ℕ) → ((k : ℕ) → slice_index words k < 2 ^ 64) → bit_at (number words) i ≡ bit_in 64 words i
bit_at-number [] i fits = bit_at-zero i ∙ sym (bit_at-zero (i % 64))
bit_at-number (w ∷ ws) i fits = ap (λ n. bit_at n i) (number-cons w ws) ∙ elim (cases_lt i 64) [
  | inl h ↦
      let word : i / 64 ≡ 0 = omega arith in
      let place : i % 64 ≡ i = omega arith in
      bit_at_cat_low (number ws) 64 w i h ∙ (λ m. bit_at (slice_index (w ∷ ws) (sym word m)) (sym place m))
  | inr h ↦
      let word : i / 64 ≡ suc ((i - 64) / 64) = omega arith in
      let place : i % 64 ≡ (i - 64) % 64 = omega arith in
      bit_at_cat_high (number ws) 64 w i (fits 0) h ∙ bit_at-number ws (i - 64) (λ k. fits (suc k)) ∙ (λ m. bit_at (slice_index (w ∷ ws) (sym word m)) (sym place m))
]

count_ones-zero : count_ones 0 ≡ 0
count_ones-zero = omega (arith, ones_le_self 0)

count_ones-one : count_ones 1 ≡ 1
count_ones-one = elim (cases_eq (count_ones 1) 0) [ inl h ↦ absurd (omega (arith, zero_from_ones 1 h)) | inr h ↦ omega (arith, ones_le_self 1) ]

pub count_ones-number : (words : List ℕ) → ((k : ℕ) → slice_index words k < 2 ^ 64) → count_ones (number words) ≡ sum_by count_ones words
count_ones-number [] fits = count_ones-zero
count_ones-number (w ∷ ws) fits =
    ap count_ones (number-cons w ws) ∙ ones_cat 64 (number ws) w (fits 0)
    ∙ omega (arith, count_ones-number ws (λ k. fits (suc k)), sum_by-cons count_ones w ws)

-- a number is what its low bits say, if it has no others
pub low_part : (n k : ℕ) → ((i : ℕ) → k ≤ i → bit_at n i ≡ 0) → n % 2 ^ k ≡ n
low_part n k spare = same_from_bits (n % 2 ^ k) n (λ i. elim (cases_lt i k) [
  | inl h ↦ sym (bit_at_cat_low (n / 2 ^ k) k (n % 2 ^ k) i h) ∙ ap (λ m. bit_at m i) (shr_split n k)
  | inr h ↦ bit_at_above (n % 2 ^ k) k i (mod_below n (2 ^ k) (pow_pos k)) h ∙ sym (spare i h)
])

abbrev bit_tests : ℕ → ℕ → List Bool
bit_tests n k = map (λ i. bit_at n i == 1) (range_with_len 0 k)

one-or-none : (bit : ℕ) → bit < 2 → cond (bit == 1) 1 0 ≡ count_ones bit
one-or-none zero h = sym count_ones-zero
one-or-none (suc zero) h = sym count_ones-one
one-or-none (suc (suc n)) h = absurd (omega arith)

-- how many of the low bits are set
count-bit_tests : (n k : ℕ) → count_by (λ t. t) (bit_tests n k) ≡ count_ones (n % 2 ^ k)
count-bit_tests n zero = let e : n % 2 ^ 0 ≡ 0 = omega arith in sym (ap count_ones e ∙ count_ones-zero)
count-bit_tests n (suc k) =
    let next : suc k ≡ k + 1 = omega arith in
    let more : bit_tests n (suc k) ≡ bit_tests n k ++ (bit_at n k == 1) ∷ [] = ap (bit_tests n) next ∙ map-range_with_len_more (λ i. bit_at n i == 1) 0 k k (omega arith) in
    let last = one-or-none (bit_at n k) (bit_at-lt n k) in
    let split = mod-pow-add n 1 k in
    let joined = ones_cat k (n / 2 ^ k % 2) (n % 2 ^ k) (mod_below n (2 ^ k) (pow_pos k)) in
    let e : n % 2 ^ suc k ≡ n % 2 ^ (1 + k) = ap (λ m. n % 2 ^ m) (omega arith) in
    ap (count_by (λ t. t)) more ∙ sum_by-append (λ t. cond t 1 0) (bit_tests n k) ((bit_at n k == 1) ∷ [])
    ∙ omega (arith, count-bit_tests n k, last, ap count_ones (e ∙ split), joined)

pub bit_of-tested : (test : Bool) → (bit_of test == 1) ≡ test
bit_of-tested true = refl
bit_of-tested false = refl

-- tests that say the bits of a number are as many as its bits are
pub count-from_bits : (n : ℕ) (set : List Bool) → ((i : ℕ) → bit_at n i ≡ bit_of (get_or set i false)) → count_by (λ t. t) set ≡ count_ones n
count-from_bits n set is =
    let all : set ≡ bit_tests n (length set) = fill_by_all (λ i. bit_at n i == 1) set (length set) false refl (λ k h. sym (ap (λ b. b == 1) (is k) ∙ bit_of-tested (get_or set k false))) in
    let whole = low_part n (length set) (λ i h. is i ∙ ap bit_of (get_or_past set i false h)) in
    ap (count_by (λ t. t)) all ∙ count-bit_tests n (length set) ∙ ap count_ones whole
