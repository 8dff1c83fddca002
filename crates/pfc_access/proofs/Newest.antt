-- The newest record of a list.
use Rattle.std.proofs.Common.{◌≡◌, ℕ, zero, suc, List, [], ◌∷◌, length, get_or, set, refl, ap, arith}
use Rattle.std.specs.Prelude.{max}
use Rattle.pfc_base.specs.Cinfo.{Record}
use Rattle.pfc_access.specs.Records.{end_newest, last_use}

-- it is the one behind all others
pub newest_end : (end : Record → Record) (xs : List Record) (n : ℕ) (d : Record) → length xs ≡ suc n → end_newest end xs ≡ set xs n (end (get_or xs n d))
newest_end end [] n d long = absurd (omega (arith, long))
newest_end end (x ∷ []) zero d long = refl
newest_end end (x ∷ []) (suc n) d long = absurd (omega (arith, long))
newest_end end (x ∷ y ∷ xs) zero d long = absurd (omega (arith, long))
newest_end end (x ∷ y ∷ xs) (suc n) d long = ap (λ rest. x ∷ rest) (newest_end end (y ∷ xs) n d (omega (arith, long)))

pub newest_use : (xs : List Record) (n : ℕ) (d : Record) → length xs ≡ suc n → last_use xs ≡ max (get_or xs n d).attach (get_or xs n d).detach
newest_use [] n d long = absurd (omega (arith, long))
newest_use (x ∷ []) zero d long = refl
newest_use (x ∷ []) (suc n) d long = absurd (omega (arith, long))
newest_use (x ∷ y ∷ xs) zero d long = absurd (omega (arith, long))
newest_use (x ∷ y ∷ xs) (suc n) d long = newest_use (y ∷ xs) n d (omega (arith, long))
