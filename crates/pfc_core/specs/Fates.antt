-- What has become of a pin, by what a core keeps.
use Rattle.std.specs.Prelude.{◌≡◌, ◌≢◌, ◌<◌, true, false, List, Some, count_by}
use Rattle.pfc_core.specs.declared.held.Held.{Held}
use Rattle.pfc_core.specs.declared.look.Fate.{Fate}
use Rattle.pfc_core.specs.declared.look.Fate.TheVariants.{Stray, Flying, Ready, Lost, Own}
use Rattle.pfc_core.specs.declared.slot.Slot.{Slot}
use Rattle.pfc_core.specs.Held.{is_held}
use Rattle.pfc_core.specs.Slots.{slot_of, ticket_in}

-- the pin's flight has this slot
pub record IsOn (p : Held) (slots : List Slot) (s : Slot) : Type 0 where
  pub at : slot_of p.block slots ≡ Some s
  pub block : s.block ≡ p.block
  pub ticket : s.ticket ≡ p.flight

-- it is out, and its flight has a slot no more
pub record IsBare (p : Held) (slots : List Slot) (pins : List Held) : Type 0 where
  pub held : 0 < count_by (is_held p) pins
  pub apart : ticket_in (slot_of p.block slots) ≡ Some p.flight → ⊥

-- its own client began that flight, or another one did
abbrev pub IsWhose : Held → Fate → Type 0
IsWhose p Lost = p.owner ≢ p.client
IsWhose p Own = p.owner ≡ p.client
IsWhose p _ = ⊥

abbrev pub HasFate : Held → List Slot → List Held → Fate → Type 0
HasFate p slots pins Stray = count_by (is_held p) pins ≡ 0
HasFate p slots pins (Flying s) = (0 < count_by (is_held p) pins) × IsOn p slots s × (s.landed ≡ false)
HasFate p slots pins (Ready s) = (0 < count_by (is_held p) pins) × IsOn p slots s × (s.landed ≡ true)
HasFate p slots pins Lost = IsBare p slots pins × (p.owner ≢ p.client)
HasFate p slots pins Own = IsBare p slots pins × (p.owner ≡ p.client)
