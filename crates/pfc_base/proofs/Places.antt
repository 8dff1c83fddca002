-- The places of a bit in a word and in a list of words.
use Rattle.std.proofs.Common.{◌≡◌, ◌==◌, ℕ, zero, suc, ◌+◌, ◌-◌, ◌*◌, ◌/◌, ◌%◌, ◌^◌, ◌<◌, ◌≤◌, Bool, true, false, List, length, drop, get_or, slice_index, bit_and, if◌then◌else◌, min, refl, sym, ap, ◌∙◌, arith, w64, inl, inr, length-drop}
use Rattle.std.specs.Int.{bit_at, bit_not, trailing_zeros}
use Rattle.std.specs.List.{prefix_len}
use Rattle.std.proofs.lemmas.Bool.{cases_lt, both_ways, eqb-true, eqb-false, eq-eqb}
use Rattle.std.proofs.lemmas.List.{get_or-drop}
use Rattle.std.proofs.lemmas.List.Sums.{prefix_len_passes, prefix_len_stops, prefix_len-le-length}
use Rattle.std.proofs.lemmas.Nat.{and_le_l}
use Rattle.std.proofs.lemmas.Nat.Bits.{bit_at-lt, bit_at-zero, bit_at_ones, bit_at_not, bit_at_and, bit_at-trailing_zeros, bit_at_mask_inside, bit_at_mask_below, ones_shl, same_from_bits_below}
use Rattle.pfc_base.specs.Words.{bit_of, bit_in, has_bit, NonePass, IsLeast}

pub bit_of-one : (test : Bool) → bit_of test ≡ 1 → test ≡ true
bit_of-one true h = refl
bit_of-one false h = absurd (omega arith)

pub bit_of-zero : (test : Bool) → bit_of test ≡ 0 → test ≡ false
bit_of-zero true h = absurd (omega arith)
bit_of-zero false h = refl

-- a bit is what the test on it says
pub bit-tested : (bit : ℕ) → bit < 2 → bit ≡ bit_of (bit == 1)
bit-tested zero h = refl
bit-tested (suc zero) h = refl
bit-tested (suc (suc n)) h = absurd (omega arith)

pub bit-tested_zero : (bit : ℕ) → bit < 2 → 1 - bit ≡ bit_of (bit == 0)
bit-tested_zero zero h = refl
bit-tested_zero (suc zero) h = refl
bit-tested_zero (suc (suc n)) h = absurd (omega arith)

pub bit-unequal_one : (bit : ℕ) → bit < 2 → (bit == 1) ≡ false → bit ≡ 0
bit-unequal_one bit h other = omega (arith, eqb-false bit 1 other)

pub bit-unequal_zero : (bit : ℕ) → bit < 2 → (bit == 0) ≡ false → bit ≡ 1
bit-unequal_zero bit h other = omega (arith, eqb-false bit 0 other)

-- the set bits of the second word are the places that have this bit in the first
pub record Shows (word shown : ℕ) (bit : Bool) : Type 0 where
  pub fits : shown < 2 ^ 64
  pub same : (i : ℕ) → i < 64 → bit_at shown i ≡ bit_of (bit_at word i == bit_of bit)

pub shows-set : (word : ℕ) → word < 2 ^ 64 → Shows word word true
shows-set word h = record { fits = h; same = λ i below. bit-tested (bit_at word i) (bit_at-lt word i) }

pub shows-unset : (word : ℕ) → word < 2 ^ 64 → Shows word (bit_not w64 word) false
shows-unset word h = record {
  fits = omega arith;
  same = λ i below. bit_at_not w64 word i h below ∙ bit-tested_zero (bit_at word i) (bit_at-lt word i);
}

-- a word without its bits below a place
abbrev pub from_place : ℕ → ℕ → ℕ
from_place word from = bit_and word (18446744073709551615 * 2 ^ from % 18446744073709551616)

pub bit_at-from_place : (word from i : ℕ) → from < 64 → from ≤ i → i < 64 → bit_at (from_place word from) i ≡ bit_at word i
bit_at-from_place word from i f low high =
    let mask = ones_shl 64 from (omega arith) in
    let one = bit_at_mask_inside from 64 i low high in
    let least : min (bit_at word i) 1 ≡ bit_at word i = omega (arith, bit_at-lt word i) in
    ap (λ m. bit_at (bit_and word m) i) mask ∙ bit_at_and word (2 ^ 64 - 2 ^ from) i ∙ ap (min (bit_at word i)) one ∙ least

pub bit_at-from_place_below : (word from i : ℕ) → from < 64 → i < from → bit_at (from_place word from) i ≡ 0
bit_at-from_place_below word from i f below =
    let mask = ones_shl 64 from (omega arith) in
    let none = bit_at_mask_below from 64 i below in
    let least : min (bit_at word i) 0 ≡ 0 = omega arith in
    ap (λ m. bit_at (bit_and word m) i) mask ∙ bit_at_and word (2 ^ 64 - 2 ^ from) i ∙ ap (min (bit_at word i)) none ∙ least

pub none-in_word : (word shown from : ℕ) (bit : Bool) → from < 64 → Shows word shown bit → from_place shown from ≡ 0 →
    NonePass (λ i. bit_at word i == bit_of bit) from 64
none-in_word word shown from bit f is empty i low high =
    bit_of-zero (bit_at word i == bit_of bit)
    (sym (is.same i high) ∙ sym (bit_at-from_place shown from i f low high) ∙ ap (λ m. bit_at m i) empty ∙ bit_at-zero i)

pub least-in_word : (word shown from : ℕ) (bit : Bool) → from < 64 → Shows word shown bit → 0 < from_place shown from →
    IsLeast (λ i. bit_at word i == bit_of bit) from 64 (trailing_zeros w64 (from_place shown from))
least-in_word word shown from bit f is some =
    let rest : ℕ = from_place shown from in
    let lowest = bit_at-trailing_zeros w64 rest some (omega (arith, and_le_l shown (18446744073709551615 * 2 ^ from % 18446744073709551616), is.fits)) in
    let t : ℕ = trailing_zeros w64 rest in
    let below : t < from → bit_at rest t ≡ 0 = λ h. bit_at-from_place_below shown from t f h in
    let inside : from ≤ t = elim (cases_lt t from) [ inl h ↦ absurd (omega (arith, below h, lowest.1)) | inr h ↦ h ] in
    record {
      low = inside;
      high = lowest.0;
      passes = bit_of-one (bit_at word t == bit_of bit) (sym (is.same t lowest.0) ∙ sym (bit_at-from_place shown from t f inside lowest.0) ∙ lowest.1);
      least = λ i low h. let high : i < 64 = omega (arith, lowest.0) in
          bit_of-zero (bit_at word i == bit_of bit)
          (sym (is.same i high) ∙ sym (bit_at-from_place shown from i f low high) ∙ lowest.2 i h);
    }

-- the bit at a place of a word
pub bit_in-place : (words : List ℕ) (j k i : ℕ) → j ≡ 64 * k + i → i < 64 → bit_in 64 words j ≡ bit_at (slice_index words k) i
bit_in-place words j k i e h =
    let word : j / 64 ≡ k = omega arith in
    let place : j % 64 ≡ i = omega arith in
    λ m. bit_at (slice_index words (word m)) (place m)

pub least-in_words : (words : List ℕ) (k from i : ℕ) (bit : Bool) → k < length words →
    IsLeast (λ i. bit_at (slice_index words k) i == bit_of bit) from 64 i → IsLeast (has_bit words bit) (64 * k + from) (64 * length words) (64 * k + i)
least-in_words words k from i bit h is = record {
  low = omega (arith, is.low);
  high = omega (arith, is.high);
  passes = ap (λ b. b == bit_of bit) (bit_in-place words (64 * k + i) k i refl is.high) ∙ is.passes;
  least = λ j low high. let e : j ≡ 64 * k + (j - 64 * k) = omega arith in
      let below : j - 64 * k < i = omega arith in
      ap (λ b. b == bit_of bit) (bit_in-place words j k (j - 64 * k) e (omega (arith, is.high))) ∙ is.least (j - 64 * k) (omega arith) below;
}

pub none-in_words : (words : List ℕ) (k from : ℕ) (bit : Bool) → NonePass (λ i. bit_at (slice_index words k) i == bit_of bit) from 64 →
    NonePass (has_bit words bit) (64 * k + from) (64 * k + 64)
none-in_words words k from bit none j low high =
    let e : j ≡ 64 * k + (j - 64 * k) = omega arith in
    let below : j - 64 * k < 64 = omega arith in
    ap (λ b. b == bit_of bit) (bit_in-place words j k (j - 64 * k) e below) ∙ none (j - 64 * k) (omega arith) below

-- the word that has a bit nowhere
abbrev pub word_without : Bool → ℕ
word_without bit = if bit then 0 else 18446744073709551615

pub word_without-lacks : (bit : Bool) (i : ℕ) → i < 64 → (bit_at (word_without bit) i == bit_of bit) ≡ false
word_without-lacks true i h = ap (λ b. b == 1) (bit_at-zero i)
word_without-lacks false i h = ap (λ b. b == 0) (bit_at_ones 64 i h)

pub word_without-only : (bit : Bool) (word : ℕ) → word < 2 ^ 64 → NonePass (λ i. bit_at word i == bit_of bit) 0 64 → word ≡ word_without bit
word_without-only true word fits none =
    same_from_bits_below 64 word 0 fits (omega arith) (λ i h. bit-unequal_one (bit_at word i) (bit_at-lt word i) (none i (omega arith) h) ∙ sym (bit_at-zero i))
word_without-only false word fits none =
    same_from_bits_below 64 word 18446744073709551615 fits (omega arith) (λ i h. bit-unequal_zero (bit_at word i) (bit_at-lt word i) (none i (omega arith) h) ∙ sym (bit_at_ones 64 i h))

-- how many words from a place on have the bit nowhere
abbrev pub skipped : List ℕ → ℕ → Bool → ℕ
skipped words at bit = prefix_len (λ w. w == word_without bit) (drop at words)

pub skipped-le : (words : List ℕ) (at : ℕ) (bit : Bool) → at ≤ length words → at + skipped words at bit ≤ length words
skipped-le words at bit h = omega (arith, prefix_len-le-length (λ (w : ℕ). w == word_without bit) (drop at words), length-drop at words)

pub none-in_skipped : (words : List ℕ) (at : ℕ) (bit : Bool) → NonePass (has_bit words bit) (64 * at) (64 * (at + skipped words at bit))
none-in_skipped words at bit j low high =
    let k : ℕ = j / 64 - at in
    let e : at + k ≡ j / 64 = omega arith in
    let within : k < skipped words at bit = omega arith in
    let same = eqb-true (get_or (drop at words) k 0) (word_without bit) (prefix_len_passes (λ w. w == word_without bit) (drop at words) k 0 within) in
    let word : slice_index words (j / 64) ≡ word_without bit = ap (slice_index words) (sym e) ∙ sym (get_or-drop at words k 0) ∙ same in
    ap (λ w. bit_at w (j % 64) == bit_of bit) word ∙ word_without-lacks bit (j % 64) (omega arith)

-- the word behind them has the bit
pub skipped-stops : (words : List ℕ) (at : ℕ) (bit : Bool) → at + skipped words at bit < length words →
    slice_index words (at + skipped words at bit) ≡ word_without bit → ⊥
skipped-stops words at bit h same =
    let n : ℕ = skipped words at bit in
    let stops = prefix_len_stops (λ w. w == word_without bit) (drop at words) 0 (omega (arith, length-drop at words)) in
    both_ways (get_or (drop at words) n 0 == word_without bit) stops (eq-eqb (get_or (drop at words) n 0) (word_without bit) (get_or-drop at words n 0 ∙ same))

pub none-joined : (test : ℕ → Bool) (a m e : ℕ) → NonePass test a m → NonePass test m e → NonePass test a e
none-joined test a m e first next i low high =
    elim (cases_lt i m) [ inl h ↦ first i low h | inr h ↦ next i h high ]

pub least-joined : (test : ℕ → Bool) (a m e i : ℕ) → a ≤ m → NonePass test a m → IsLeast test m e i → IsLeast test a e i
least-joined test a m e i h none is = record {
  low = omega (arith, is.low);
  high = is.high;
  passes = is.passes;
  least = none-joined test a m i none is.least;
}
