-- What a core keeps of claims, of visits since, and of the loan that is out.
use Rattle.std.specs.Prelude.{◌≡◌, ℕ, ◌+◌, ◌<◌, ◌≤◌, Bool, true, List, Option, Some, None, IfSome, length, take}
use Rattle.pfc_base.specs.BlockSet.{is_member}
use Rattle.pfc_log.specs.declared.entry.Entry.{Entry}
use Rattle.pfc_log.specs.declared.start.Start.{Start}
use Rattle.pfc_log.specs.Views.{bound, durable, claimed, last_claim}
use Rattle.pfc_log.specs.Positions.{StandsAt}
use Rattle.pfc_log.specs.Lawful.{IsCached}
use Rattle.pfc_core.specs.declared.loan.Lent.{Lent}
use Rattle.pfc_core.specs.Turns.{is_visit}

-- all visits stand below this place, and one just below it
pub record AreVisits (es : List Entry) (n : ℕ) : Type 0 where
  pub past : n ≤ length es
  pub below : (p : ℕ) (e : Entry) → StandsAt es p e → is_visit e ≡ true → p < n
  pub last : (p : ℕ) → p + 1 ≡ n → (e : Entry) × StandsAt es p e × (is_visit e ≡ true)

-- The file of the store that is lent is cached. No claim stands past the place at which it was lent, and what was durable there
-- still is, and nothing more.
pub record IsLentSince (first : Start) (es : List Entry) (l : Lent) : Type 0 where
  pub cached : IsCached first
  pub past : l.at ≤ length es
  pub later : IfSome (last_claim es) (λ q. q ≤ l.at)
  pub since : (i : ℕ) → durable first i (take l.at es) ≡ durable first i es

abbrev pub IsLent : Start → List Entry → Option Lent → Type 0
IsLent first es None = Unit {0}
IsLent first es (Some l) = IsLentSince first es l

-- the set of claimed blocks is what the log says, and so are the place that the last claim names and the place behind the last
-- visit
pub record AreTurns (first : Start) (es : List Entry) (set : List Bool) (loan : Option Lent) (claim : Option ℕ) (visited : ℕ) : Type 0 where
  pub length_is : length set ≡ bound first
  pub claimed_is : (i : ℕ) → is_member set i ≡ claimed first i es
  pub past : IfSome (last_claim es) (λ p. p ≤ length es)
  pub claim_is : claim ≡ last_claim es
  pub visits : AreVisits es visited
  pub lent : IsLent first es loan
