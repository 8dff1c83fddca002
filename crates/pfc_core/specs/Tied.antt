-- What ties slots and pins to the log.
use Rattle.std.specs.Prelude.{◌≡◌, ℕ, ◌+◌, ◌<◌, ◌≤◌, ◌⊎◌, true, false, List, Option, Some, None}
use Rattle.pfc_log.specs.declared.entry.Entry.{Entry}
use Rattle.pfc_log.specs.Views.{Away, place, times, begins, is_landed, is_failed, is_lost, is_asked}
use Rattle.pfc_core.specs.declared.slot.Slot.{Slot}
use Rattle.pfc_core.specs.declared.held.Held.{Held}
use Rattle.pfc_core.specs.Slots.{place_of, ticket_in}
use Rattle.pfc_core.specs.Pins.{on, waits}

abbrev pub ended : ℕ → List Entry → ℕ
ended t es = times (is_landed t) es + times (is_failed t) es

-- what is right of a slot of block i
pub record IsFine (es : List Entry) (pins : List Held) (i : ℕ) (s : Slot) : Type 0 where
  pub is : place i es ≡ place_of s
  pub old : s.ticket < begins es
  pub pinned : s.pins ≡ on i s.ticket pins
  pub out : s.landed ≡ false → ended s.ticket es ≡ 0
  pub seen : s.landed ≡ true → 0 < times (is_landed s.ticket) es

abbrev pub Fine : List Entry → List Held → ℕ → Option Slot → Type 0
Fine es pins i None = place i es ≡ Away
Fine es pins i (Some s) = IsFine es pins i s

-- the slots as a map, whatever keeps them
pub record IsTied (es : List Entry) (slots : ℕ → Option Slot) (pins : List Held) : Type 0 where
  pub fine : (i : ℕ) → Fine es pins i (slots i)
  pub unique : (i j t : ℕ) → ticket_in (slots i) ≡ Some t → ticket_in (slots j) ≡ Some t → i ≡ j
  pub once : (t : ℕ) → ended t es ≤ 1
  pub late : (t : ℕ) → begins es ≤ t → ended t es ≡ 0
  pub young : (i t : ℕ) → begins es ≤ t → on i t pins ≡ 0
  pub at : (i t : ℕ) → 0 < on i t pins → (ticket_in (slots i) ≡ Some t) ⊎ (0 < times (is_failed t) es)
  pub owed : (i n t : ℕ) → times (is_landed t) es ≡ 0 → times (is_lost i n t) es + waits i n t pins ≤ times (is_asked i n t) es

-- a block whose job has ended doesn't stay without a pin
abbrev pub IsAlive : Option Slot → Type 0
IsAlive None = Unit {0}
IsAlive (Some s) = s.landed ≡ true → s.job ≡ false → 0 < s.pins
