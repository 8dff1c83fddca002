-- The tables, each computed once.
use Rattle.std.proofs.Common.{◌≡◌, ℕ, ◌<◌, get_or, map, refl, sym, ap, ◌∙◌, arith}
use Rattle.std.specs.List.{range_with_len}
use Rattle.std.proofs.lemmas.List.{get_or-map}
use Rattle.std.proofs.lemmas.List.FromFn.{get_or-map-range_with_len}
use Rattle.pfc_base.specs.Crc.{after_bits}
use Rattle.pfc_base.proofs.CrcLinear.{after_bits_add}
use Rattle.pfc_base.specs.declared.crc.tables.TheConstants.{T0, T1, T2, T3, T4, T5, T6, T7}

first : T0.now ≡ map (after_bits 8) (range_with_len 0 256)
unfolding after_bits
first = refl

next1 : T1.now ≡ map (after_bits 8) T0.now
unfolding after_bits
next1 = refl

next2 : T2.now ≡ map (after_bits 8) T1.now
unfolding after_bits
next2 = refl

next3 : T3.now ≡ map (after_bits 8) T2.now
unfolding after_bits
next3 = refl

next4 : T4.now ≡ map (after_bits 8) T3.now
unfolding after_bits
next4 = refl

next5 : T5.now ≡ map (after_bits 8) T4.now
unfolding after_bits
next5 = refl

next6 : T6.now ≡ map (after_bits 8) T5.now
unfolding after_bits
next6 = refl

next7 : T7.now ≡ map (after_bits 8) T6.now
unfolding after_bits
next7 = refl

pub at0 : (i : ℕ) → i < 256 → get_or T0.now i 0 ≡ after_bits 8 i
at0 i lt = ap (λ t. get_or t i 0) first ∙ get_or-map-range_with_len (after_bits 8) 0 256 i i 0 lt (omega arith)

pub at1 : (i : ℕ) → i < 256 → get_or T1.now i 0 ≡ after_bits 16 i
at1 i lt = ap (λ t. get_or t i 0) next1 ∙ get_or-map (after_bits 8) T0.now i 0 0 lt ∙ ap (after_bits 8) (at0 i lt) ∙ sym (after_bits_add 8 8 i)

pub at2 : (i : ℕ) → i < 256 → get_or T2.now i 0 ≡ after_bits 24 i
at2 i lt = ap (λ t. get_or t i 0) next2 ∙ get_or-map (after_bits 8) T1.now i 0 0 lt ∙ ap (after_bits 8) (at1 i lt) ∙ sym (after_bits_add 16 8 i)

pub at3 : (i : ℕ) → i < 256 → get_or T3.now i 0 ≡ after_bits 32 i
at3 i lt = ap (λ t. get_or t i 0) next3 ∙ get_or-map (after_bits 8) T2.now i 0 0 lt ∙ ap (after_bits 8) (at2 i lt) ∙ sym (after_bits_add 24 8 i)

pub at4 : (i : ℕ) → i < 256 → get_or T4.now i 0 ≡ after_bits 40 i
at4 i lt = ap (λ t. get_or t i 0) next4 ∙ get_or-map (after_bits 8) T3.now i 0 0 lt ∙ ap (after_bits 8) (at3 i lt) ∙ sym (after_bits_add 32 8 i)

pub at5 : (i : ℕ) → i < 256 → get_or T5.now i 0 ≡ after_bits 48 i
at5 i lt = ap (λ t. get_or t i 0) next5 ∙ get_or-map (after_bits 8) T4.now i 0 0 lt ∙ ap (after_bits 8) (at4 i lt) ∙ sym (after_bits_add 40 8 i)

pub at6 : (i : ℕ) → i < 256 → get_or T6.now i 0 ≡ after_bits 56 i
at6 i lt = ap (λ t. get_or t i 0) next6 ∙ get_or-map (after_bits 8) T5.now i 0 0 lt ∙ ap (after_bits 8) (at5 i lt) ∙ sym (after_bits_add 48 8 i)

pub at7 : (i : ℕ) → i < 256 → get_or T7.now i 0 ≡ after_bits 64 i
at7 i lt = ap (λ t. get_or t i 0) next7 ∙ get_or-map (after_bits 8) T6.now i 0 0 lt ∙ ap (after_bits 8) (at6 i lt) ∙ sym (after_bits_add 56 8 i)
