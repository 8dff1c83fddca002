-- How tokens are kept.
use Rattle.std.specs.Prelude.{◌≡◌, ℕ, ◌-◌, ◌^◌, ◌≤◌, min, nat_eq, Some, None}
use Rattle.indexmap.specs.IndexMap.{get, values, spare, IsUnique}
use Rattle.pfc_core.specs.declared.held.Held.{Held}
use Rattle.pfc_core.specs.declared.held.Tokens.TheInside.{Inside}
use Rattle.pfc_core.specs.Held.{TokensView}

abbrev pub tokens_of : Inside → TokensView
tokens_of t = record { list = values t.held; room = min (spare t.held) (2 ^ 64 - 1 - t.next) }

-- each stands under its number, and the numbers so far are below the next one
pub record IsNumbered (t : Inside) : Type 0 where
  pub numbered : (q : ℕ) (p : Held) → get nat_eq t.held q ≡ Some p → p.number ≡ q
  pub fresh : (q : ℕ) → t.next ≤ q → get nat_eq t.held q ≡ None
  pub unique : IsUnique nat_eq t.held
