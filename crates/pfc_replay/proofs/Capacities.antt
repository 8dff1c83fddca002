-- Which sizes are capacities.
use Rattle.std.proofs.Common.{◌≡◌, ℕ, ◌^◌, ◌<◌, ◌≤◌, arith, sym, ap, ◌∙◌}
use Rattle.std.specs.Prelude.{Option, Some, None}
use Rattle.std.proofs.lemmas.Bool.Decides.{nat_tests}
use Rattle.pfc_replay.specs.Words.{as_capacity}

pub capacity-none : (o : Option ℕ) → None ≡ o → None ≡ as_capacity o
capacity-none o is = ap as_capacity is

pub capacity-some : (o : Option ℕ) (n : ℕ) → Some n ≡ o → 1000 ≤ n → n ≤ 2 ^ 62 → Some n ≡ as_capacity o
capacity-some o n is low high = let e : as_capacity (Some n) ≡ Some n = grind (arith, nat_tests) in sym e ∙ ap as_capacity is

pub capacity-low : (o : Option ℕ) (n : ℕ) → Some n ≡ o → n < 1000 → None ≡ as_capacity o
capacity-low o n is low = let e : as_capacity (Some n) ≡ None = grind (arith, nat_tests) in sym e ∙ ap as_capacity is

pub capacity-high : (o : Option ℕ) (n : ℕ) → Some n ≡ o → 2 ^ 62 < n → None ≡ as_capacity o
capacity-high o n is high = let e : as_capacity (Some n) ≡ None = grind (arith, nat_tests) in sym e ∙ ap as_capacity is
