-- What was read of a configuration says what the whole of it comes to.
use Rattle.std.proofs.Common.{◌≡◌, ℕ, ◌<◌, ◌≤◌, List, length, take, sym, ap, ◌∙◌, arith, take_all, length-take, Bool, true, false, subst, refl}
use Rattle.std.specs.Prelude.{Option, Some, None, Result, IsSomeAnd, nat_le}
use Rattle.std.proofs.lemmas.Bool.Decides.{nat_tests}
use Rattle.pfc_config.specs.declared.config.Config.{Config}
use Rattle.pfc_config.specs.declared.refusal.ConfigRefusal.{ConfigRefusal}
use Rattle.pfc_config.specs.Config.{configured}
use Rattle.pfc_config.proofs.Reading.{configured-long}

pub by_bool : {C : Type 0} → (q : Bool) → (q ≡ true → C) → (q ≡ false → C) → C
by_bool true t f = t refl
by_bool false t f = f refl

-- one byte more than a configuration may have says it all
configured-take : (capacity : ℕ) (all : List ℕ) → configured (take 1048577 all) capacity ≡ configured all capacity
configured-take capacity all = by_bool (nat_le (length all) 1048576)
    (λ h. let short : length all ≤ 1048576 = grind (arith, nat_tests) in ap (λ t. configured t capacity) (take_all 1048577 all (omega arith)))
    (λ h. let long : 1048576 < length all = grind (arith, nat_tests) in
    configured-long (take 1048577 all) capacity (omega (arith, length-take 1048577 all)) ∙ sym (configured-long all capacity long))

pub config-read : (C : Result Config ConfigRefusal → Type 0) (capacity : ℕ) (text : Option (List ℕ)) (read : List ℕ) → IsSomeAnd text (λ all. read ≡ take 1048577 all) →
    C (configured read capacity) → IsSomeAnd text (λ all. C (configured all capacity))
config-read C capacity None read e h = absurd e
config-read C capacity (Some all) read e h = subst C (ap (λ t. configured t capacity) e ∙ configured-take capacity all) h
