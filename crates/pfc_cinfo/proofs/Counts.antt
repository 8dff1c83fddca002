-- How many blocks a file has.
use Rattle.std.proofs.Common.{◌≡◌, ℕ, ◌+◌, ◌-◌, ◌*◌, ◌<◌, ◌≤◌, true, false, arith, inl, inr}
use Rattle.std.proofs.Math.Nat.{div-lt_iff_lt-mul}
use Rattle.std.proofs.lemmas.Bool.Decides.{nat_tests}
use Rattle.std.proofs.lemmas.Bool.{cases_lt}
use Rattle.pfc_base.specs.Block.{count_of}
use Rattle.pfc_cinfo.specs.Damage.{is_block_size, is_tiled}

pub count_of-most : (k size : ℕ) → 0 < k → size ≤ k * 16777216 → count_of size k ≤ 16777216
count_of-most k size pos h =
    let below : count_of size k < 16777217 = (div-lt_iff_lt-mul {k = k} {x = size + (k - 1)} {y = 16777217} pos).1 (omega arith) in
    omega arith

pub count_of-over : (k size : ℕ) → 0 < k → k * 16777216 < size → 16777216 < count_of size k
count_of-over k size pos h =
    elim (cases_lt 16777216 (count_of size k)) [
      | inl lt ↦ lt
      | inr le ↦
          let small : size + (k - 1) < 16777217 * k = (div-lt_iff_lt-mul {k = k} {x = size + (k - 1)} {y = 16777217} pos).0 (omega arith) in
          absurd (omega arith)
    ]

is_block_size-some : (k : ℕ) → is_block_size k ≡ true → 0 < k
is_block_size-some k h = grind (arith, nat_tests)

pub is_tiled-true : (k size : ℕ) → is_block_size k ≡ true → size ≤ k * 16777216 → is_tiled k size ≡ true
is_tiled-true k size is h =
    let most = count_of-most k size (is_block_size-some k is) h in
    grind (arith, nat_tests)

pub is_tiled-false : (k size : ℕ) → is_block_size k ≡ true → k * 16777216 < size → is_tiled k size ≡ false
is_tiled-false k size is h =
    let over = count_of-over k size (is_block_size-some k is) h in
    grind (arith, nat_tests)
