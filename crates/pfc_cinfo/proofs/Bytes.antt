-- Numbers and the bytes that they are read from.
use Rattle.std.proofs.Common.{◌≡◌, ℕ, zero, suc, ◌+◌, ◌^◌, ◌<◌, ◌≤◌, List, [], ◌∷◌, ◌++◌, length, get_or, take, drop, refl, ap, ◌∙◌, arith, inl, inr}
use Rattle.std.specs.Int.{w32, w64, from_le_bytes}
use Rattle.std.proofs.lemmas.Bool.{cases_lt}
use Rattle.std.proofs.lemmas.Nat.{le_bytes_4, le_bytes_8}
use Rattle.std.proofs.lemmas.List.{length-take, length-drop, get_or-drop, get_or-take, get_or_past}
use Rattle.pfc_base.specs.Cinfo.{four, eight, four_at, eight_at}

abbrev pub IsBytes : List ℕ → Type 0
IsBytes bytes = (i : ℕ) → get_or bytes i 0 < 256

pub IsBytes-drop : (n : ℕ) (bytes : List ℕ) → IsBytes bytes → IsBytes (drop n bytes)
IsBytes-drop n bytes h i = rw get_or-drop (h (n + i))

pub IsBytes-take : (n : ℕ) (bytes : List ℕ) → IsBytes bytes → IsBytes (take n bytes)
IsBytes-take n bytes h i =
    elim (cases_lt i n) [
      | inl lt ↦ rw (get_or-take n bytes i 0 lt) (h i)
      | inr le ↦ rw (get_or_past (take n bytes) i 0 (omega (arith, length-take n bytes))) (omega arith)
    ]

four-lt : (xs : List ℕ) → IsBytes xs → from_le_bytes w32 xs < 2 ^ 32
four-lt xs h = omega (arith, h 0, h 1, h 2, h 3)

eight-lt : (xs : List ℕ) → IsBytes xs → from_le_bytes w64 xs < 2 ^ 64
eight-lt xs h = omega (arith, h 0, h 1, h 2, h 3, h 4, h 5, h 6, h 7)

pub four_at-lt : (bytes : List ℕ) (at : ℕ) → IsBytes bytes → four_at bytes at < 2 ^ 32
four_at-lt bytes at h = four-lt (drop at bytes) (IsBytes-drop at bytes h)

pub eight_at-lt : (bytes : List ℕ) (at : ℕ) → IsBytes bytes → eight_at bytes at < 2 ^ 64
eight_at-lt bytes at h = eight-lt (drop at bytes) (IsBytes-drop at bytes h)

four-take : (xs : List ℕ) → from_le_bytes w32 xs ≡ from_le_bytes w32 (take 4 xs)
four-take [] = refl
four-take (a ∷ []) = refl
four-take (a ∷ b ∷ []) = refl
four-take (a ∷ b ∷ c ∷ []) = refl
four-take (a ∷ b ∷ c ∷ d ∷ xs) = refl

eight-take : (xs : List ℕ) → from_le_bytes w64 xs ≡ from_le_bytes w64 (take 8 xs)
eight-take [] = refl
eight-take (a ∷ []) = refl
eight-take (a ∷ b ∷ []) = refl
eight-take (a ∷ b ∷ c ∷ []) = refl
eight-take (a ∷ b ∷ c ∷ d ∷ []) = refl
eight-take (a ∷ b ∷ c ∷ d ∷ e ∷ []) = refl
eight-take (a ∷ b ∷ c ∷ d ∷ e ∷ f ∷ []) = refl
eight-take (a ∷ b ∷ c ∷ d ∷ e ∷ f ∷ g ∷ []) = refl
eight-take (a ∷ b ∷ c ∷ d ∷ e ∷ f ∷ g ∷ h ∷ xs) = refl

-- a number that was read is spelled by the bytes that it was read from
pub four-back : (bytes : List ℕ) (at n : ℕ) → IsBytes bytes → at + 4 ≤ length bytes → n ≡ four_at bytes at → four n ≡ take 4 (drop at bytes)
four-back bytes at n h room is =
    let part = take 4 (drop at bytes) in
    le_bytes_4 part n (omega (arith, length-take 4 (drop at bytes), length-drop at bytes)) (IsBytes-take 4 (drop at bytes) (IsBytes-drop at bytes h)) (is ∙ four-take (drop at bytes))

pub eight-back : (bytes : List ℕ) (at n : ℕ) → IsBytes bytes → at + 8 ≤ length bytes → n ≡ eight_at bytes at → eight n ≡ take 8 (drop at bytes)
eight-back bytes at n h room is =
    let part = take 8 (drop at bytes) in
    le_bytes_8 part n (omega (arith, length-take 8 (drop at bytes), length-drop at bytes)) (IsBytes-take 8 (drop at bytes) (IsBytes-drop at bytes h)) (is ∙ eight-take (drop at bytes))

-- neighbouring parts are one
pub take-then : (n m : ℕ) (xs : List ℕ) → take n xs ++ take m (drop n xs) ≡ take (n + m) xs
take-then zero m xs = let e : 0 + m ≡ m = omega arith in rw e refl
take-then (suc n) zero [] = let e : suc n + 0 ≡ suc n = omega arith in rw e refl
take-then (suc n) (suc m) [] = let e : suc n + suc m ≡ suc (n + suc m) = omega arith in rw e refl
take-then (suc n) m (x ∷ xs) = let e : suc n + m ≡ suc (n + m) = omega arith in rw e (ap (λ l. x ∷ l) (take-then n m xs))
