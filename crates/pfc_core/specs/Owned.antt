-- Who began the flights that slots and pins are of.
use Rattle.std.specs.Prelude.{◌≡◌, ℕ, if◌then◌else◌, List, Option, Some, sum_by}
use Rattle.pfc_log.specs.declared.entry.Entry.{Entry}
use Rattle.pfc_log.specs.Owners.{owner, is_client}
use Rattle.pfc_core.specs.declared.slot.Slot.{Slot}
use Rattle.pfc_core.specs.declared.held.Held.{Held}

-- 0 where the client that the pin names began its flight
abbrev pub misowned : List Entry → Held → ℕ
misowned es p = if is_client p.owner (owner p.flight es) then 0 else 1

-- the flight of each slot and of each pin was begun by the client that they name
pub record IsOwned (es : List Entry) (slots : ℕ → Option Slot) (pins : List Held) : Type 0 where
  pub slot : (i : ℕ) (s : Slot) → slots i ≡ Some s → owner s.ticket es ≡ Some s.client
  pub pin : sum_by (misowned es) pins ≡ 0
