-- Bitmaps of sets: their words, and that a bitmap and its set determine each other.
use Rattle.std.proofs.Common.{◌≡◌, ℕ, ◌+◌, ◌-◌, ◌*◌, ◌/◌, ◌%◌, ◌^◌, ◌<◌, ◌≤◌, Bool, true, false, List, ◌++◌, Option, Some, None, is_some, inl, inr, length, slice_index, take, replicate, refl, sym, ap, ◌∙◌, arith, length-append}
use Rattle.std.specs.Int.{bit_at}
use Rattle.std.proofs.lemmas.List.{length-take-le, length-replicate, get_or_past}
use Rattle.std.proofs.lemmas.Bool.{cases_lt, both_ways, eqb-true}
use Rattle.std.proofs.lemmas.Nat.Bits.{bit_at-lt, bit_at-zero}
use Rattle.pfc_base.specs.Words.{bit_in, bytes_of, has_bit, IsFirst}
use Rattle.pfc_base.specs.BlockSet.{members_of, IsBitmap, HasPadding, AreKept, AreWords}
use Rattle.pfc_base.proofs.Places.{bit-unequal_one}
use Rattle.pfc_base.proofs.Bits.{same_from_bits_in}
use Rattle.pfc_base.proofs.Bytes.{length-bytes_of, bit_in-bytes_of, bit_in-take, bit_in-padded}
use Rattle.pfc_base.proofs.Sets.{same-from_members, words-of_kept, length-members_of}

-- a bitmap has one set of each bound
pub set-from_bitmap : (bytes : List ℕ) (s t : List Bool) → length s ≡ length t → IsBitmap bytes s → IsBitmap bytes t → s ≡ t
set-from_bitmap bytes s t long is is' =
    same-from_members s t long (λ i h. let within : i < 8 * length bytes = omega (arith, is.size) in sym (is.bits i within) ∙ is'.bits i within)

-- a set has one bitmap
pub bitmap-from_set : (a b : List ℕ) (set : List Bool) → ((k : ℕ) → slice_index a k < 256) → ((k : ℕ) → slice_index b k < 256) → IsBitmap a set → IsBitmap b set → a ≡ b
bitmap-from_set a b set fits fits' is is' =
    let long : length a ≡ length b = is.size ∙ sym is'.size in
    same_from_bits_in 8 a b long fits fits' (λ k i h below. is.bits (k * 8 + i) (omega arith) ∙ sym (is'.bits (k * 8 + i) (omega arith)))

pub bitmap-of_words : (words : List ℕ) (set : List Bool) → AreWords words set → IsBitmap (take ((length set + 7) / 8) (bytes_of words)) set
bitmap-of_words words set is =
    let count : ℕ = (length set + 7) / 8 in
    let long : length (take count (bytes_of words)) ≡ count = length-take-le count (bytes_of words) (omega (arith, length-bytes_of words, is.size)) in
    record {
      size = long;
      bits = λ i h. bit_in-take count (bytes_of words) i (omega arith) ∙ bit_in-bytes_of words i ∙ is.bits i;
    }

-- words that hold the bytes of a bitmap
pub record HoldBytes (words bytes : List ℕ) : Type 0 where
  pub fits : (k : ℕ) → slice_index words k < 2 ^ 64
  pub size : length words ≡ (length bytes + 7) / 8
  pub bits : (i : ℕ) → bit_in 64 words i ≡ bit_in 8 bytes i

pub hold-padded : (words bytes : List ℕ) → ((k : ℕ) → slice_index words k < 2 ^ 64) →
    bytes_of words ≡ bytes ++ replicate (8 * ((length bytes + 7) / 8) - length bytes) 0 → HoldBytes words bytes
hold-padded words bytes fits is =
    let pad : ℕ = 8 * ((length bytes + 7) / 8) - length bytes in
    record {
      fits = fits;
      size = omega (arith, length-bytes_of words, ap length is, length-append bytes (replicate pad 0), length-replicate {A = ℕ} pad 0);
      bits = λ i. sym (bit_in-bytes_of words i) ∙ ap (λ b. bit_in 8 b i) is ∙ bit_in-padded bytes pad i;
    }

-- no bit past the bound is set, so that the words are a set's and the bytes its bitmap
pub kept-from_bytes : (words bytes : List ℕ) (bound : ℕ) → bound < 2 ^ 32 → length bytes ≡ (bound + 7) / 8 → HoldBytes words bytes →
    ((i : ℕ) → bound ≤ i → bit_in 64 words i ≡ 0) → AreKept words bound
kept-from_bytes words bytes bound small long holds spare = record {
  small = small;
  fits = holds.fits;
  size = omega (arith, holds.size);
  spare = spare;
}

pub bitmap-from_bytes : (words bytes : List ℕ) (bound : ℕ) → length bytes ≡ (bound + 7) / 8 → HoldBytes words bytes → AreKept words bound → IsBitmap bytes (members_of words bound)
bitmap-from_bytes words bytes bound long holds kept =
    let size = length-members_of words bound in
    record {
      size = long ∙ ap (λ n. (n + 7) / 8) (sym size);
      bits = λ i h. sym (holds.bits i) ∙ (words-of_kept words bound kept).bits i;
    }

-- a bit past the bound is padding
pub padding-found : (words bytes : List ℕ) (bound : ℕ) (found : Option ℕ) → HoldBytes words bytes → is_some found ≡ true → IsFirst (has_bit words true) bound (64 * length words) found →
    HasPadding bytes bound
padding-found words bytes bound None holds some is = absurd (both_ways false refl some)
padding-found words bytes bound (Some i) holds some is =
    let one : bit_in 8 bytes i ≡ 1 = sym (holds.bits i) ∙ eqb-true (bit_in 64 words i) 1 is.passes in
    let within : i / 8 < length bytes = elim (cases_lt (i / 8) (length bytes)) [
      | inl h ↦ h
      | inr past ↦ absurd (omega (arith, sym (ap (λ b. bit_at b (i % 8)) (get_or_past bytes (i / 8) 0 past) ∙ bit_at-zero (i % 8)) ∙ one))
    ] in (i, is.low, omega arith, one)

pub no-padding : (words : List ℕ) (bound : ℕ) (found : Option ℕ) → is_some found ≡ false → IsFirst (has_bit words true) bound (64 * length words) found →
    (i : ℕ) → bound ≤ i → bit_in 64 words i ≡ 0
no-padding words bound (Some p) none is i low = absurd (both_ways true none refl)
no-padding words bound None none is i low = elim (cases_lt (i / 64) (length words)) [
  | inl h ↦ bit-unequal_one (bit_in 64 words i) (bit_at-lt (slice_index words (i / 64)) (i % 64)) (is i low (omega arith))
  | inr past ↦ ap (λ w. bit_at w (i % 64)) (get_or_past words (i / 64) 0 past) ∙ bit_at-zero (i % 64)
]
