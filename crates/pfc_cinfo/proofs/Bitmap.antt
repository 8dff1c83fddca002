-- The bits of a bitmap, those past the last block with them.
use Rattle.std.proofs.Common.{◌≡◌, ℕ, zero, suc, ◌+◌, ◌*◌, ◌/◌, ◌%◌, ◌^◌, ◌<◌, ◌≤◌, ◌==◌, Bool, false, List, length, take, refl, sym, ap, ◌∙◌, arith, inl, inr, shr-shr}
use Rattle.std.specs.Prelude.{slice_index}
use Rattle.std.specs.Int.{bit_at}
use Rattle.std.proofs.Math.Nat.{div-lt_iff_lt-mul}
use Rattle.std.proofs.lemmas.Bool.{cases_lt}
use Rattle.std.proofs.lemmas.Nat.{pow_pos}
use Rattle.std.proofs.lemmas.Nat.Bits.{bit_at-lt, bit_at-zero, bit_at_above, same_from_bits}
use Rattle.std.proofs.lemmas.List.{length-take, get_or-take, get_or_past}
use Rattle.std.proofs.lemmas.List.FromFn.{get_or-map-range_with_len, length-map-range_with_len}
use Rattle.pfc_base.specs.BlockSet.{is_member, bit_of, IsBitmap, HasPadding}
use Rattle.pfc_base.specs.Cinfo.{has_bit, claims_in}
use Rattle.pfc_cinfo.specs.Damage.{padding_of}
use Rattle.pfc_cinfo.proofs.Bytes.{IsBytes}

-- past the set no bit is set
past : (bitmap : List ℕ) (set : List Bool) → IsBitmap bitmap set → IsBytes bitmap → (j : ℕ) → length set % 8 ≤ j → bit_at (slice_index bitmap (length set / 8)) j ≡ 0
past bitmap set is bytes j le =
    let n = length set in
    let place = 8 * (n / 8) + j in
    elim (cases_lt j 8) [
      | inr above ↦ bit_at_above (slice_index bitmap (n / 8)) 8 j (omega (arith, bytes (n / 8))) above
      | inl below ↦
          elim (cases_lt (n / 8) (length bitmap)) [
            | inr outside ↦ ap (λ b. bit_at b j) (get_or_past bitmap (n / 8) 0 outside) ∙ bit_at-zero j
            | inl inside ↦
                let whole : place / 8 ≡ n / 8 = omega arith in
                let rest : place % 8 ≡ j = omega arith in
                let none : is_member set place ≡ false = get_or_past set place false (omega arith) in
                sym (λ i. bit_at (slice_index bitmap (whole i)) (rest i)) ∙ is.bits place (omega arith) ∙ ap bit_of none
          ]
    ]

pub no_padding : (bitmap : List ℕ) (set : List Bool) → IsBitmap bitmap set → IsBytes bitmap → padding_of bitmap (length set) ≡ 0
no_padding bitmap set is bytes =
    let b = slice_index bitmap (length set / 8) in
    let r = length set % 8 in
    same_from_bits (b / 2 ^ r) 0 (λ i. ap (λ x. x % 2) (shr-shr b r i) ∙ past bitmap set is bytes (r + i) (omega arith) ∙ sym (bit_at-zero i))

bit_again : (x : ℕ) → x < 2 → x ≡ bit_of (x == 1)
bit_again zero h = refl
bit_again (suc zero) h = refl
bit_again (suc (suc x)) h = absurd (omega arith)

none-above : (b r i : ℕ) → b / 2 ^ r ≡ 0 → r ≤ i → bit_at b i ≡ 0
none-above b r i e le =
    let small : b < 1 * 2 ^ r = (div-lt_iff_lt-mul {k = 2 ^ r} {x = b} {y = 1} (pow_pos r)).0 (omega arith) in
    bit_at_above b r i (omega arith) le

-- the claims that are read from a bitmap without padding have this bitmap
pub IsBitmap-claims_in : (tail : List ℕ) (blocks : ℕ) → (blocks + 7) / 8 ≤ length tail → padding_of (take ((blocks + 7) / 8) tail) blocks ≡ 0 → IsBitmap (take ((blocks + 7) / 8) tail) (claims_in blocks tail)
IsBitmap-claims_in tail blocks room clear = record {
  size = long ∙ sym (ap (λ n. (n + 7) / 8) count);
  bits = each;
} where
  len : ℕ
  len = (blocks + 7) / 8

  count : length (claims_in blocks tail) ≡ blocks
  count = length-map-range_with_len (has_bit tail) 0 blocks

  long : length (take ((blocks + 7) / 8) tail) ≡ (blocks + 7) / 8
  long = omega (arith, length-take ((blocks + 7) / 8) tail)

  each : (i : ℕ) → i < 8 * length (take ((blocks + 7) / 8) tail) → bit_at (slice_index (take ((blocks + 7) / 8) tail) (i / 8)) (i % 8) ≡ bit_of (is_member (claims_in blocks tail) i)
  each i lt =
      let inside : i / 8 < (blocks + 7) / 8 = omega (arith, long) in
      elim (cases_lt i blocks) [
        | inl below ↦
            let bit = bit_at (slice_index tail (i / 8)) (i % 8) in
            ap (λ b. bit_at b (i % 8)) (get_or-take ((blocks + 7) / 8) tail (i / 8) 0 inside)
            ∙ bit_again bit (bit_at-lt (slice_index tail (i / 8)) (i % 8))
            ∙ ap bit_of (sym (get_or-map-range_with_len (has_bit tail) 0 blocks i i false below (omega arith)))
        | inr above ↦
            let last : i / 8 ≡ blocks / 8 = omega arith in
            let none : is_member (claims_in blocks tail) i ≡ false = get_or_past (claims_in blocks tail) i false (omega (arith, count)) in
            ap (λ k. bit_at (slice_index (take ((blocks + 7) / 8) tail) k) (i % 8)) last
            ∙ none-above (slice_index (take ((blocks + 7) / 8) tail) (blocks / 8)) (blocks % 8) (i % 8) clear (omega arith)
            ∙ ap bit_of (sym none)
      ]

pub none-from_clear : (bitmap : List ℕ) (blocks : ℕ) → length bitmap ≡ (blocks + 7) / 8 → padding_of bitmap blocks ≡ 0 → ¬ HasPadding bitmap blocks
none-from_clear bitmap blocks size clear found =
    let i = found.0 in
    let past : blocks ≤ i = found.1 in
    let within : i < 8 * length bitmap = found.2 in
    let last : i / 8 ≡ blocks / 8 = omega arith in
    let zero : bit_at (slice_index bitmap (i / 8)) (i % 8) ≡ 0 = ap (λ k. bit_at (slice_index bitmap k) (i % 8)) last ∙ none-above (slice_index bitmap (blocks / 8)) (blocks % 8) (i % 8) clear (omega arith) in
    let one : bit_at (slice_index bitmap (i / 8)) (i % 8) ≡ 1 = found.3 in
    absurd (omega arith)
