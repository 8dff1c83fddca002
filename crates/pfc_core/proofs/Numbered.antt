-- The tokens of one kind, by number.
use Rattle.std.proofs.Common.{◌≡◌, ℕ, ◌<◌, List, sym, ap, ◌∙◌, subst, arith, Bool, true, false, Some, None, eq-eqb}
use Rattle.std.proofs.lemmas.Bool.Decides.{nat_tests}
use Rattle.std.specs.Prelude.{count_by, nat_eq, if◌then◌else◌}
use Rattle.std.specs.Map.{keys_of, values_of, lookup}
use Rattle.std.specs.List.{IsDistinct}
use Rattle.pfc_core.specs.declared.held.Held.{Held}
use Rattle.pfc_core.specs.Held.{is_held}
use Rattle.pfc_core.proofs.Entries.{by_bool, sum_found, sum_none}

some_held : (p q : Held) → Some p ≡ Some q → p ≡ q
some_held p q h = cc

pub held_self : (p : Held) → is_held p p ≡ true
held_self p = grind (arith, eq-eqb)

pub held_is : (p q : Held) → is_held p q ≡ true → q ≡ p
held_is p q h = grind (arith, nat_tests)

-- what stands under its number is in the list
pub held_listed : (es : List (ℕ × Held)) (p : Held) → lookup (nat_eq p.number) es ≡ Some p → 0 < count_by (is_held p) (values_of es)
held_listed es p h =
    let s = sum_found (λ (q : Held). if is_held p q then 1 else 0) (nat_eq p.number) es p h in
    let one = ap {B = ℕ} (λ (b : Bool). if b then 1 else 0) (held_self p) in
    omega (arith, s, one)

-- what doesn't stand under its number isn't
pub held_unlisted : (es : List (ℕ × Held)) (p : Held) → IsDistinct nat_eq (keys_of es) → ((i : ℕ) (q : Held) → lookup (nat_eq i) es ≡ Some q → q.number ≡ i) → (lookup (nat_eq p.number) es ≡ Some p → ⊥) → count_by (is_held p) (values_of es) ≡ 0
held_unlisted es p distinct numbered absent = sum_none (λ (q : Held). if is_held p q then 1 else 0) es distinct
    (λ i q h. by_bool (is_held p q)
    (λ yes. let same : q ≡ p = held_is p q yes in
    let there : lookup (nat_eq p.number) es ≡ Some p = subst (λ (k : ℕ). lookup (nat_eq k) es ≡ Some p) (sym (numbered i q h) ∙ ap (λ (r : Held). r.number) same) (h ∙ ap (λ (r : Held). Some r) same) in
    absurd (absent there))
    (λ no. ap {B = ℕ} (λ (b : Bool). if b then 1 else 0) no))

-- a token that stands under its number with other contents isn't the one that is sought
pub held_apart : (es : List (ℕ × Held)) (p q : Held) → lookup (nat_eq p.number) es ≡ Some q → is_held p q ≡ false → lookup (nat_eq p.number) es ≡ Some p → ⊥
held_apart es p q at apart there = let same : q ≡ p = some_held q p (sym at ∙ there) in let clash : true ≡ false = sym (held_self p) ∙ sym (ap (is_held p) same) ∙ apart in cc

pub held_absent : (es : List (ℕ × Held)) (p : Held) → lookup (nat_eq p.number) es ≡ None → lookup (nat_eq p.number) es ≡ Some p → ⊥
held_absent es p at there = let clash : None ≡ Some p = sym at ∙ there in cc
