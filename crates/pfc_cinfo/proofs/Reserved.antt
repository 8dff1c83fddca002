-- The reserved fields of the records, one record on.
use Rattle.std.proofs.Common.{◌≡◌, ◌≢◌, ℕ, suc, ◌+◌, ◌-◌, ◌<◌, ◌≤◌, Bool, true, false, List, length, take, drop, sym, ap, ◌∙◌, arith, ◌&&◌, ◌==◌, take_all, length-drop}
use Rattle.std.proofs.lemmas.Bool.Decides.{nat_tests}
use Rattle.pfc_base.specs.Cinfo.{four_at, eight_at}
use Rattle.pfc_cinfo.specs.Damage.{are_clear}

both : (a b : ℕ) (rest : Bool) → a ≡ 0 → b ≡ 0 → ((a == 0) && ((b == 0) && rest)) ≡ rest
both a b rest p q = grind (arith, nat_tests)

first : (a b : ℕ) (rest : Bool) → a ≢ 0 → ((a == 0) && ((b == 0) && rest)) ≡ false
first a b rest p = grind (arith, nat_tests)

second : (a b : ℕ) (rest : Bool) → b ≢ 0 → ((a == 0) && ((b == 0) && rest)) ≡ false
second a b rest p = grind (arith, nat_tests)

-- what is behind the first record
behind : (bytes : List ℕ) → take (length bytes - 64) (drop 64 bytes) ≡ drop 64 bytes
behind bytes = take_all (length bytes - 64) (drop 64 bytes) (omega (arith, length-drop 64 bytes))

pub are_clear-step : (count i : ℕ) (bytes : List ℕ) → i < count → four_at bytes 28 ≡ 0 → eight_at bytes 56 ≡ 0 →
    are_clear (count - (i + 1)) (take (length bytes - 64) (drop 64 bytes)) ≡ are_clear (count - i) bytes
unfolding are_clear
are_clear-step count i bytes lt p q =
    let n : count - i ≡ suc (count - (i + 1)) = omega arith in
    ap (are_clear (count - (i + 1))) (behind bytes)
    ∙ sym (ap (λ k. are_clear k bytes) n ∙ both (four_at bytes 28) (eight_at bytes 56) (are_clear (count - (i + 1)) (drop 64 bytes)) p q)

pub are_clear-first : (count i : ℕ) (bytes : List ℕ) → i < count → four_at bytes 28 ≢ 0 → are_clear (count - i) bytes ≡ false
unfolding are_clear
are_clear-first count i bytes lt p =
    let n : count - i ≡ suc (count - (i + 1)) = omega arith in
    ap (λ k. are_clear k bytes) n ∙ first (four_at bytes 28) (eight_at bytes 56) (are_clear (count - (i + 1)) (drop 64 bytes)) p

pub are_clear-second : (count i : ℕ) (bytes : List ℕ) → i < count → eight_at bytes 56 ≢ 0 → are_clear (count - i) bytes ≡ false
unfolding are_clear
are_clear-second count i bytes lt p =
    let n : count - i ≡ suc (count - (i + 1)) = omega arith in
    ap (λ k. are_clear k bytes) n ∙ second (four_at bytes 28) (eight_at bytes 56) (are_clear (count - (i + 1)) (drop 64 bytes)) p

pub are_clear-none : (count i : ℕ) (bytes : List ℕ) → count ≤ i → are_clear (count - i) bytes ≡ true
unfolding are_clear
are_clear-none count i bytes le =
    let n : count - i ≡ 0 = omega arith in
    ap (λ k. are_clear k bytes) n

pub room-step : (count i : ℕ) (bytes : List ℕ) → i < count → 64 ≤ length bytes → length (take (length bytes - 64) (drop 64 bytes)) ≡ length bytes - 64
room-step count i bytes lt h = ap length (behind bytes) ∙ length-drop 64 bytes
