-- Words whose set bits are set in other words.
use Rattle.std.proofs.Common.{◌≡◌, ◌==◌, ◌↔◌, ℕ, suc, zero, ◌+◌, ◌-◌, ◌*◌, ◌/◌, ◌%◌, ◌^◌, ◌<◌, Bool, true, List, [], ◌∷◌, length, slice_index, bit_and, min, refl, sym, ap, ◌∙◌, arith, inl, inr, w64}
use Rattle.std.specs.Int.{bit_at, bit_not}
use Rattle.std.specs.List.{list_all, zip}
use Rattle.std.proofs.lemmas.Bool.{cases_lt, and_parts, and_from, eqb-true, eq-eqb}
use Rattle.std.proofs.lemmas.List.{get_or_past}
use Rattle.std.proofs.lemmas.Nat.{and_le_l}
use Rattle.std.proofs.lemmas.Nat.Bits.{bit_at-lt, bit_at-zero, bit_at_and, bit_at_not, same_from_bits_below}
use Rattle.pfc_base.specs.Words.{bit_in}
use Rattle.pfc_base.proofs.Bits.{bit_in-at}

-- the bits of the one that the other lacks
abbrev pub lacking : ℕ → ℕ → ℕ
lacking a b = bit_and a (bit_not w64 b)

bit_at-lacking : (a b i : ℕ) → b < 2 ^ 64 → i < 64 → bit_at (lacking a b) i ≡ min (bit_at a i) (1 - bit_at b i)
bit_at-lacking a b i fits h = bit_at_and a (bit_not w64 b) i ∙ ap (min (bit_at a i)) (bit_at_not w64 b i fits h)

lacking-none : (a b i : ℕ) → b < 2 ^ 64 → i < 64 → lacking a b ≡ 0 → bit_at a i ≡ 1 → bit_at b i ≡ 1
lacking-none a b i fits h none one =
    let e : min (bit_at a i) (1 - bit_at b i) ≡ 0 = sym (bit_at-lacking a b i fits h) ∙ ap (λ m. bit_at m i) none ∙ bit_at-zero i in
    omega (arith, e, one, bit_at-lt b i)

none-lacking : (a b : ℕ) → a < 2 ^ 64 → b < 2 ^ 64 → ((i : ℕ) → i < 64 → bit_at a i ≡ 1 → bit_at b i ≡ 1) → lacking a b ≡ 0
none-lacking a b fits fits' all = same_from_bits_below 64 (lacking a b) 0 (omega (arith, and_le_l a (bit_not w64 b))) (omega arith)
    (λ i h. let here : bit_at a i ≡ 1 → bit_at b i ≡ 1 = all i h in
    let e : min (bit_at a i) (1 - bit_at b i) ≡ 0 = elim (cases_lt (bit_at a i) 1) [
      | inl none ↦ omega arith
      | inr some ↦ omega (arith, here (omega (arith, bit_at-lt a i)))
    ] in
    bit_at-lacking a b i fits' h ∙ e ∙ sym (bit_at-zero i))

abbrev pub lacks_none : ℕ × ℕ → Bool
lacks_none p = lacking p.0 p.1 == 0

each-lacks_none : (low high : List ℕ) → length low ≡ length high → list_all lacks_none (zip low high) ≡ true → (k : ℕ) → k < length low → lacking (slice_index low k) (slice_index high k) ≡ 0
each-lacks_none [] high long all k h = absurd (omega arith)
each-lacks_none (x ∷ xs) [] long all k h = absurd (omega arith)
each-lacks_none (x ∷ xs) (y ∷ ys) long all zero h = eqb-true (lacking x y) 0 (and_parts (lacks_none (x, y)) (list_all lacks_none (zip xs ys)) all).0
each-lacks_none (x ∷ xs) (y ∷ ys) long all (suc k) h =
    each-lacks_none xs ys (omega arith) (and_parts (lacks_none (x, y)) (list_all lacks_none (zip xs ys)) all).1 k (omega arith)

all-lack_none : (low high : List ℕ) → length low ≡ length high → ((k : ℕ) → k < length low → lacking (slice_index low k) (slice_index high k) ≡ 0) → list_all lacks_none (zip low high) ≡ true
all-lack_none [] high long each = refl
all-lack_none (x ∷ xs) [] long each = absurd (omega arith)
all-lack_none (x ∷ xs) (y ∷ ys) long each = and_from (lacks_none (x, y)) (list_all lacks_none (zip xs ys))
    (eq-eqb (lacking x y) 0 (each 0 (omega arith))) (all-lack_none xs ys (omega arith) (λ k h. each (suc k) (omega arith)))

pub within-words : (low high : List ℕ) → length low ≡ length high → ((k : ℕ) → slice_index low k < 2 ^ 64) → ((k : ℕ) → slice_index high k < 2 ^ 64) →
    (list_all lacks_none (zip low high) ≡ true) ↔ ((i : ℕ) → bit_in 64 low i ≡ 1 → bit_in 64 high i ≡ 1)
within-words low high long fits fits' = (
  λ all i one. elim (cases_lt (i / 64) (length low)) [
    | inl h ↦ lacking-none (slice_index low (i / 64)) (slice_index high (i / 64)) (i % 64) (fits' (i / 64)) (omega arith) (each-lacks_none low high long all (i / 64) h) one
    | inr past ↦ absurd (omega (arith, sym (ap (λ w. bit_at w (i % 64)) (get_or_past low (i / 64) 0 past) ∙ bit_at-zero (i % 64)) ∙ one))
  ],
  λ bits. all-lack_none low high long (λ k h. none-lacking (slice_index low k) (slice_index high k) (fits k) (fits' k)
      (λ i below one. sym (bit_in-at 64 high k i below) ∙ bits (k * 64 + i) (bit_in-at 64 low k i below ∙ one))),
)
