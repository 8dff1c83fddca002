-- A pin whose flight has no slot.
use Rattle.std.proofs.Common.{◌≡◌, ◌≢◌, ℕ, ◌<◌, ◌≤◌, List, sym, ap, ◌∙◌, inl, inr, arith, Option, Some, None, if◌then◌else◌, tests}
use Rattle.std.specs.Prelude.{count_by}
use Rattle.pfc_log.specs.declared.entry.Entry.{Entry}
use Rattle.pfc_log.specs.declared.start.Start.{Start}
use Rattle.pfc_log.specs.Views.{times, is_failed}
use Rattle.pfc_core.specs.declared.slot.Slot.{Slot}
use Rattle.pfc_core.specs.declared.held.Held.{Held}
use Rattle.pfc_core.specs.Held.{is_held}
use Rattle.pfc_core.specs.Pins.{on, is_on}
use Rattle.pfc_core.specs.Slots.{slot_of, ticket_in}
use Rattle.pfc_core.specs.Kept.{IsHeld}
use Rattle.std.proofs.lemmas.List.Sums.{sum_by-le-sum_by}
use Rattle.pfc_core.proofs.Tied.{some_is}

-- the slot of a block, or none, does not have the pin's ticket
pub apart_none : (p : Held) (o : Option Slot) → o ≡ None → ticket_in o ≡ Some p.flight → ⊥
apart_none p o h e = let no : ticket_in None ≡ Some p.flight = sym (ap ticket_in h) ∙ e in absurd cc

pub apart_other : (p : Held) (o : Option Slot) (x : Slot) → o ≡ Some x → x.ticket ≢ p.flight → ticket_in o ≡ Some p.flight → ⊥
apart_other p o x h n e = n (some_is x.ticket p.flight (sym (ap ticket_in h) ∙ e))

held_on : (p q : Held) → (if is_held p q then 1 else 0) ≤ (if is_on p.block p.flight q then 1 else 0)
held_on p q = grind (arith, tests)

-- a pin that is listed is on its flight
pub listed_on : (p : Held) (pins : List Held) → 0 < count_by (is_held p) pins → 0 < on p.block p.flight pins
listed_on p pins some = let less = sum_by-le-sum_by (λ (q : Held). if is_held p q then 1 else 0) (λ (q : Held). if is_on p.block p.flight q then 1 else 0) pins (λ q. held_on p q) in omega (arith, some, less)

-- its flight failed
pub bare_failed : (first : Start) (es : List Entry) (n : ℕ) (slots : List Slot) (pins : List Held) (p : Held) → IsHeld first es n slots pins → 0 < count_by (is_held p) pins → (ticket_in (slot_of p.block slots) ≡ Some p.flight → ⊥) → 0 < times (is_failed p.flight) es
bare_failed first es n slots pins p held some apart = elim (held.tied.at p.block p.flight (listed_on p pins some)) [ inl w ↦ absurd (apart w) | inr w ↦ w ]
