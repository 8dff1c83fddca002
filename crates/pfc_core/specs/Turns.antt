-- What the turns of a sync are for: which blocks and visits are claimed.
use Rattle.std.specs.Prelude.{◌≡◌, ◌≤◌, ◌⊎◌, ℕ, Bool, true, false, List, IfSome}
use Rattle.pfc_log.specs.declared.entry.Entry.{Entry}
use Rattle.pfc_log.specs.declared.entry.Entry.TheVariants.{Opened, Closed}
use Rattle.pfc_log.specs.declared.start.Start.{Start}
use Rattle.pfc_log.specs.Lawful.{IsCached, IsUnfrozen}
use Rattle.pfc_log.specs.Positions.{StandsAt}
use Rattle.pfc_log.specs.Views.{stored, claimed, last_claim}
use Rattle.pfc_core.specs.View.{CoreView}

-- a client comes or goes
abbrev pub is_visit : Entry → Bool
is_visit (Opened n) = true
is_visit (Closed n) = true
is_visit _ = false

-- the cinfo claims each block that can be read, and no other
abbrev pub AreClaimed : Start → List Entry → Type 0
AreClaimed first es = (i : ℕ) → claimed first i es ≡ stored first i es

-- a client came or went since the cinfo was put that stands
pub record VisitIsDue (es : List Entry) : Type 0 where
  pub at : ℕ
  pub entry : Entry
  pub stands : StandsAt es at entry
  pub visits : is_visit entry ≡ true
  pub since : IfSome (last_claim es) (λ q. q ≤ at)

-- the store works, and a block or a record of an access isn't claimed
pub record NeedsSync (v : CoreView) : Type 0 where
  pub cached : IsCached v.first
  pub unfrozen : IsUnfrozen v.entries
  pub due : (AreClaimed v.first v.entries → ⊥) ⊎ VisitIsDue v.entries

-- nothing is left to be claimed: the file isn't cached, the store is frozen, or each block that can be read is claimed
abbrev pub IsSettled : CoreView → Type 0
IsSettled v = IsCached v.first → IsUnfrozen v.entries → AreClaimed v.first v.entries
