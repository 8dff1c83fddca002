-- Eight look-ups are eight bytes.
use Rattle.std.proofs.Common.{◌≡◌, ℕ, ◌*◌, ◌^◌, ◌<◌, List, [], ◌∷◌, length, get_or, sym, ap, ◌∙◌, arith, w64}
use Rattle.std.specs.Int.Bits.{bit_xor}
use Rattle.std.specs.Int.{from_le_bytes}
use Rattle.std.specs.Simd.Lanes.{number_l}
use Rattle.std.proofs.lemmas.Simd.{Each1-from_get_or}
use Rattle.pfc_base.specs.Crc.{after_bytes, after_bits}
use Rattle.pfc_base.proofs.CrcLinear.{after_bytes_is}

number_of_8 : (a : List ℕ) → length a ≡ 8 → number_l 256 a ≡ from_le_bytes w64 a
number_of_8 [] h = absurd (omega arith)
number_of_8 (a ∷ []) h = absurd (omega arith)
number_of_8 (a ∷ b ∷ []) h = absurd (omega arith)
number_of_8 (a ∷ b ∷ c ∷ []) h = absurd (omega arith)
number_of_8 (a ∷ b ∷ c ∷ d ∷ []) h = absurd (omega arith)
number_of_8 (a ∷ b ∷ c ∷ d ∷ e ∷ []) h = absurd (omega arith)
number_of_8 (a ∷ b ∷ c ∷ d ∷ e ∷ f ∷ []) h = absurd (omega arith)
number_of_8 (a ∷ b ∷ c ∷ d ∷ e ∷ f ∷ g ∷ []) h = absurd (omega arith)
number_of_8 (a ∷ b ∷ c ∷ d ∷ e ∷ f ∷ g ∷ i ∷ []) h = omega arith
number_of_8 (a ∷ b ∷ c ∷ d ∷ e ∷ f ∷ g ∷ i ∷ j ∷ k) h = absurd (omega arith)

pub eight_is : (c : ℕ) (a : List ℕ) (w : ℕ) → length a ≡ 8 → ((i : ℕ) → get_or a i 0 < 256) → w < 2 ^ 64 → w ≡ bit_xor c (from_le_bytes w64 a) → after_bits 64 w ≡ after_bytes c a
eight_is c a w long small fits is =
    let turns : 64 ≡ 8 * length a = omega (arith, long) in
    ap (after_bits 64) (is ∙ ap (bit_xor c) (sym (number_of_8 a long)))
    ∙ ap (λ k. after_bits k (bit_xor c (number_l 256 a))) turns
    ∙ sym (after_bytes_is a c (Each1-from_get_or (λ b. b < 256) a 0 (λ i lt. small i)))
