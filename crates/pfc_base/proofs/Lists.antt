-- What `take` and `drop` do to each other, which the library's lemmas don't have.
use Rattle.std.proofs.Common.{◌≡◌, ℕ, zero, suc, ◌+◌, ◌-◌, min, List, [], ◌∷◌, length, take, drop, refl, sym, ap, ◌∙◌, arith}
use Rattle.std.proofs.Math.Seq.{drop-nil}

pub take-nil : (n : ℕ) → take {A = ℕ} n [] ≡ []
take-nil zero = refl
take-nil (suc n) = refl

-- what is taken is as long as it is
pub take-length_take : (n : ℕ) (xs : List ℕ) → take (length (take n xs)) xs ≡ take n xs
take-length_take zero xs = refl
take-length_take (suc n) [] = refl
take-length_take (suc n) (x ∷ xs) = ap (λ l. x ∷ l) (take-length_take n xs)

pub drop-take : (d n : ℕ) (xs : List ℕ) → drop d (take n xs) ≡ take (n - d) (drop d xs)
drop-take zero n xs = let e : n - 0 ≡ n = omega arith in rw e refl
drop-take (suc d) zero xs = let e : 0 - suc d ≡ 0 = omega arith in rw e refl
drop-take (suc d) (suc n) [] = sym (take-nil (suc n - suc d))
drop-take (suc d) (suc n) (x ∷ xs) = let e : suc n - suc d ≡ n - d = omega arith in rw e (drop-take d n xs)

pub take-take_min : (n m : ℕ) (xs : List ℕ) → take n (take m xs) ≡ take (min n m) xs
take-take_min zero m xs = let e : min 0 m ≡ 0 = omega arith in rw e refl
take-take_min (suc n) zero xs = let e : min (suc n) 0 ≡ 0 = omega arith in rw e refl
take-take_min (suc n) (suc m) [] = sym (take-nil (min (suc n) (suc m)))
take-take_min (suc n) (suc m) (x ∷ xs) = let e : min (suc n) (suc m) ≡ suc (min n m) = omega arith in rw e (ap (λ l. x ∷ l) (take-take_min n m xs))

pub drop-drop : (a b : ℕ) (xs : List ℕ) → drop a (drop b xs) ≡ drop (b + a) xs
drop-drop a zero xs = let e : 0 + a ≡ a = omega arith in rw e refl
drop-drop a (suc b) [] = drop-nil a ∙ sym (drop-nil (suc b + a))
drop-drop a (suc b) (x ∷ xs) = let e : suc b + a ≡ suc (b + a) = omega arith in rw e (drop-drop a b xs)
