-- How many bytes claimed blocks have, by their number.
use Rattle.std.proofs.Common.{◌≡◌, ℕ, suc, ◌+◌, ◌-◌, ◌*◌, ◌<◌, ◌≤◌, Bool, true, false, List, [], ◌∷◌, ◌++◌, length, take, get_or, cond, sym, ap, ◌∙◌, arith, inl, inr, ◌⊎◌}
use Rattle.std.specs.Prelude.{count_by, if◌then◌else◌}
use Rattle.std.proofs.Math.Nat.{div-mul-le_self, lt-div-mul-add}
use Rattle.std.proofs.lemmas.Bool.{cases_lt}
use Rattle.std.proofs.lemmas.List.{take_all, take_more, length-take}
use Rattle.std.proofs.lemmas.List.Sums.{sum_by-cons, count_by_more_yes, count_by_more_no}
use Rattle.pfc_base.specs.Block.{count_of, block_len_of}
use Rattle.pfc_cinfo.specs.Cinfo.{IsTiled, bytes_from}

abbrev held : List Bool → ℕ
held set = count_by (λ b. b) set

held-cons : (b : Bool) (set : List Bool) → held (b ∷ set) ≡ cond b 1 0 + held set
held-cons b set = sum_by-cons (λ (t : Bool). cond t 1 0) b set

-- blocks that all lie whole in the file
whole : (k size i : ℕ) (set : List Bool) → (i + length set) * k ≤ size → bytes_from k size i set ≡ held set * k
whole k size i [] room = omega arith
whole k size i (true ∷ set) room =
    let rest = whole k size (suc i) set (omega arith) in
    let more = ap (λ n. n * k) (held-cons true set) in
    omega (arith, rest, more)
whole k size i (false ∷ set) room =
    let rest = whole k size (suc i) set (omega arith) in
    let more = ap (λ n. n * k) (held-cons false set) in
    omega (arith, rest, more)

-- one more block at the end
one-more : (k size i : ℕ) (set : List Bool) (b : Bool) → bytes_from k size i (set ++ b ∷ []) ≡ bytes_from k size i set + (if b then block_len_of size k (i + length set) else 0)
one-more k size i [] true = omega arith
one-more k size i [] false = omega arith
one-more k size i (x ∷ set) true =
    let rest = one-more k size (suc i) set true in
    omega (arith, rest)
one-more k size i (x ∷ set) false =
    let rest = one-more k size (suc i) set false in
    omega (arith, rest)

-- the blocks before the last, and the last
parted : (k size m : ℕ) (set : List Bool) (b : Bool) → length set ≡ suc m → get_or set m false ≡ b → m * k ≤ size →
    bytes_from k size 0 set ≡ held (take m set) * k + (if b then block_len_of size k m else 0)
parted k size m set b long last room =
    let n : length (take m set) ≡ m = omega (arith, length-take m set) in
    let all : take (m + 1) set ≡ set = take_all (m + 1) set (omega arith) in
    let cut : set ≡ take m set ++ b ∷ [] = sym all ∙ take_more set m false (omega arith) ∙ ap (λ x. take m set ++ x ∷ []) last in
    let before = whole k size 0 (take m set) (omega (arith, ap (λ j. j * k) n)) in
    ap (bytes_from k size 0) cut ∙ one-more k size 0 (take m set) b
    ∙ (λ i. before i + (if b then block_len_of size k (0 + n i) else 0)) ∙ ap (λ j. held (take m set) * k + (if b then block_len_of size k j else 0)) (omega arith)

pub without-last : (k size m : ℕ) (set : List Bool) → length set ≡ suc m → get_or set m false ≡ false → m * k ≤ size → bytes_from k size 0 set ≡ held set * k
without-last k size m set long last room =
    let all : take (m + 1) set ≡ set = take_all (m + 1) set (omega arith) in
    let count = sym (ap held all) ∙ count_by_more_no (λ b. b) set m false (omega arith) last in
    parted k size m set false long last room ∙ omega (arith, ap (λ n. n * k) count)

pub with-last : (k size m : ℕ) (set : List Bool) → length set ≡ suc m → get_or set m false ≡ true → m * k ≤ size → size ≤ m * k + k →
    bytes_from k size 0 set + (suc m * k - size) ≡ held set * k
with-last k size m set long last room most =
    let all : take (m + 1) set ≡ set = take_all (m + 1) set (omega arith) in
    let count = sym (ap held all) ∙ count_by_more_yes (λ b. b) set m false (omega arith) last in
    let parts = parted k size m set true long last room in
    omega (arith, ap (λ n. n * k) count, parts)

pub none : (k size : ℕ) (set : List Bool) → length set ≡ 0 → bytes_from k size 0 set ≡ held set * k
none k size [] long = omega arith
none k size (b ∷ set) long = absurd (omega arith)

-- what the number of blocks says of the size
pub tiles-within : (k size count : ℕ) → IsTiled k size count → (size ≤ count * k) × (count * k ≤ size + (k - 1))
tiles-within k size count is =
    let pos : 0 < k = omega (arith, is.block.0) in
    let high : size + (k - 1) < count_of size k * k + k = lt-div-mul-add {a = size + (k - 1)} {b = k} pos in
    let low : count_of size k * k ≤ size + (k - 1) = div-mul-le_self (size + (k - 1)) k in
    let e = ap (λ n. n * k) is.whole in
    (omega arith, omega arith)

pub all-whole : (k size count : ℕ) (set : List Bool) → IsTiled k size (length set) → count ≡ held set → (length set ≡ 0) ⊎ (get_or set (length set - 1) false ≡ false) →
    count * k ≡ bytes_from k size 0 set
all-whole k size count set is e (inl long) = ap (λ n. n * k) e ∙ sym (none k size set long)
all-whole k size count set is e (inr last) =
    let t = tiles-within k size (length set) is in
    elim (cases_lt 0 (length set)) [
      | inr empty ↦ ap (λ n. n * k) e ∙ sym (none k size set (omega arith))
      | inl some ↦
          let m = length set - 1 in
          let long : length set ≡ suc m = omega arith in
          ap (λ n. n * k) e ∙ sym (without-last k size m set long last (omega (arith, ap (λ n. n * k) long, is.block.0)))
    ]

pub last-shorter : (k size count : ℕ) (set : List Bool) → IsTiled k size (length set) → count ≡ held set → 0 < length set → get_or set (length set - 1) false ≡ true →
    count * k - (length set * k - size) ≡ bytes_from k size 0 set
last-shorter k size count set is e some last =
    let t = tiles-within k size (length set) is in
    let m = length set - 1 in
    let long : length set ≡ suc m = omega arith in
    let times = ap (λ n. n * k) long in
    let sum = with-last k size m set long last (omega (arith, times, is.block.0)) (omega (arith, times)) in
    omega (arith, ap (λ n. n * k) e, sum, times)
