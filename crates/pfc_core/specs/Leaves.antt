-- Whether a block leaves memory with a pin.
use Rattle.std.specs.Prelude.{ℕ, Bool, false, ◌==◌, ◌&&◌, List, Option, Some, None, count_by}
use Rattle.pfc_log.specs.declared.entry.Entry.{Entry}
use Rattle.pfc_log.specs.Views.{Place, Flying, Here, place}
use Rattle.pfc_core.specs.declared.slot.Slot.{Slot}
use Rattle.pfc_core.specs.Slots.{is_idle}
use Rattle.pfc_core.specs.Marks.{Mark, TicketKind, PinKind, JobKind, kind_code}

-- the block is in flight t
abbrev pub is_flying_at : ℕ → Place → Bool
is_flying_at t (Flying u n) = u == t
is_flying_at t _ = false

-- the block is in memory, from flight t
abbrev pub is_here_at : ℕ → Place → Bool
is_here_at t (Here u d) = u == t
is_here_at t _ = false

-- and was written or dropped since
abbrev pub is_done_at : ℕ → Place → Bool
is_done_at t (Here u d) = u == t && d
is_done_at t _ = false

-- a pin on flight t of block i
abbrev pub is_pin : ℕ → ℕ → Mark → Bool
is_pin i t m = kind_code m.kind == kind_code PinKind && m.block == i && m.flight == t

-- how many pins on flight t of block i are out
abbrev pub pins_on : ℕ → ℕ → List Mark → ℕ
pins_on i t out = count_by (is_pin i t) out

-- the ticket of flight t of block i
abbrev pub is_ticket : ℕ → ℕ → Mark → Bool
is_ticket i t m = kind_code m.kind == kind_code TicketKind && m.block == i && m.flight == t

-- how many tickets of flight t of block i are out
abbrev pub tickets_on : ℕ → ℕ → List Mark → ℕ
tickets_on i t out = count_by (is_ticket i t) out

-- the job of flight t of block i
abbrev pub is_job : ℕ → ℕ → Mark → Bool
is_job i t m = kind_code m.kind == kind_code JobKind && m.block == i && m.flight == t

-- how many jobs of flight t of block i are out
abbrev pub jobs_on : ℕ → ℕ → List Mark → ℕ
jobs_on i t out = count_by (is_job i t) out

-- flight t of block i is here, its job has ended, and one pin is left on it
abbrev pub leaves : List Entry → List Mark → ℕ → ℕ → Bool
leaves es out i t = is_here_at t (place i es) && jobs_on i t out == 0 && pins_on i t out == 1

abbrev pub leaves_slot : ℕ → Option Slot → Bool
leaves_slot t None = false
leaves_slot t (Some s) = s.ticket == t && s.landed && is_idle s && s.pins == 1
