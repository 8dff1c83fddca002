-- A pin on a block that is in memory or in flight.
use Rattle.std.specs.Prelude.{◌≡◌, ℕ, true, false, if◌then◌else◌, List}
use Rattle.pfc_log.specs.declared.entry.Entry.{Entry}
use Rattle.pfc_log.specs.declared.entry.Entry.TheVariants.{Join, Hit}
use Rattle.pfc_log.specs.declared.entry.Spot.TheVariants.{Ram}
use Rattle.pfc_core.specs.declared.held.Held.{Held}
use Rattle.pfc_core.specs.declared.slot.Slot.{Slot}
use Rattle.pfc_core.specs.declared.token.Decision.{Decision}
use Rattle.pfc_core.specs.declared.token.Decision.TheVariants.{Direct, Resident, Joined, Stored, Fetch}
use Rattle.pfc_core.specs.Held.{Puts}
use Rattle.pfc_core.specs.Marks.{Mark, PinKind}
use Rattle.pfc_core.specs.Out.{Home, mark_in}

-- the entry of a client that finds the block, or joins its flight
abbrev pub found_by : ℕ → Slot → Entry
found_by n s = if s.landed then Hit s.block Ram n else Join s.ticket s.block n

-- what is kept of the pin
pub record IsPinOn (n : ℕ) (s : Slot) (p : Held) : Type 0 where
  pub client_is : p.client ≡ n
  pub block_is : p.block ≡ s.block
  pub flight_is : p.flight ≡ s.ticket
  pub owner_is : p.owner ≡ s.client

-- the pin is one more in the list
pub record Pins (h : Home) (n : ℕ) (s : Slot) (old new : List Held) (pin : Mark) : Type 0 where
  pub kept : Held
  pub is_on : IsPinOn n s kept
  pub puts : Puts old kept new
  pub pin_is : pin ≡ mark_in PinKind h kept

abbrev pub PinnedBy : {W : Type 0} → Home → ℕ → Slot → List Held → List Held → Decision W → Type 0
PinnedBy h n s old new (Resident pin) = (s.landed ≡ true) × Pins h n s old new pin
PinnedBy h n s old new (Joined pin) = (s.landed ≡ false) × Pins h n s old new pin
PinnedBy h n s old new (Direct leave) = ⊥
PinnedBy h n s old new (Stored disk) = ⊥
PinnedBy h n s old new (Fetch ticket pin) = ⊥
