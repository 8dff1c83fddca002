-- How large digits make a number.
use Rattle.std.proofs.Common.{◌≡◌, inl, inr, ℕ, ◌+◌, ◌-◌, ◌*◌, ◌/◌, ◌^◌, ◌<◌, ◌≤◌, Bool, cond, nat_le, ◌&&◌, true, false, List, [], ◌∷◌, length, Option, Some, None, option_and_then, refl, arith}
use Rattle.std.proofs.Math.Nat.{mul-le-mul_left, pow-succ', pow-le-pow_right, div-lt_iff_lt-mul}
use Rattle.std.proofs.lemmas.Bool.{cases_Bool, lt-ltb}
use Rattle.std.proofs.lemmas.Bool.Decides.{nat_tests}
use Rattle.pfc_base.specs.Number.{is_digit, digits_from, fitting}
use Rattle.pfc_config.specs.Directive.{fraction_of}

next_bound : (m n e p : ℕ) → e ≤ 9 → m < (n * 10 + e + 1) * p → m < (n + 1) * (10 * p)
next_bound m n e p le h =
    let more : (n * 10 + e + 1) ≤ (n + 1) * 10 = omega arith in
    omega (arith, h, mul-le-mul_left p more)

-- each digit makes it at most ten times larger
pub digits_from-below : (n m : ℕ) (ds : List ℕ) → digits_from n ds ≡ Some m → m < (n + 1) * 10 ^ length ds
digits_from-below n m [] h = let e : n ≡ m = cc in omega arith
digits_from-below n m (d ∷ ds) h = elim (cases_Bool (is_digit d)) [
  | inl e ↦
      let below = digits_from-below (n * 10 + (d - 48)) m ds (simp e at h) in
      let digit : d - 48 ≤ 9 = grind (arith, nat_tests) in
      rw pow-succ' (next_bound m n (d - 48) (10 ^ length ds) digit below)
  | inr e ↦ let none : None ≡ Some m = simp e at h in cc
]

few_digits : (m n : ℕ) → n ≤ 6 → m < 1 * 10 ^ n → m < 2 ^ 64
few_digits m n h k =
    let some : 0 < 10 = omega arith in
    omega (arith, pow-le-pow_right some h)

pub digits_from-fitting : (ds : List ℕ) → length ds ≤ 6 → option_and_then fitting (digits_from 0 ds) ≡ digits_from 0 ds
digits_from-fitting ds h = go (digits_from 0 ds) (λ m e. digits_from-below 0 m ds e) where
  go : (o : Option ℕ) → ((m : ℕ) → o ≡ Some m → m < 1 * 10 ^ length ds) → option_and_then fitting o ≡ o
  go None k = refl
  go (Some m) k = rw (lt-ltb m (2 ^ 64) (few_digits m (length ds) h (k m refl))) refl

-- a part of a whole is no larger
pub share-within : (whole n scale : ℕ) → n < scale → whole * n / scale ≤ whole
share-within whole n scale h =
    let le : n ≤ scale = omega arith in
    let pos : 0 < scale = omega arith in
    let below : whole * n < (whole + 1) * scale = omega (arith, mul-le-mul_left whole le) in
    let share : whole * n / scale < whole + 1 = (div-lt_iff_lt-mul pos).1 below in
    omega arith

either_way : (test : Bool) (o : Option ℕ) → o ≡ cond test o o
either_way true o = refl
either_way false o = refl

pub fraction_of-none : (capacity : ℕ) (ds : List ℕ) → digits_from 0 ds ≡ None → None ≡ fraction_of capacity ds
fraction_of-none capacity ds h = rw h (either_way (nat_le 1 (length ds) && nat_le (length ds) 6) None)
