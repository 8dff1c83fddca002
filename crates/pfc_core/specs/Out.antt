-- The marks of what is out, from what is kept of it.
use Rattle.std.specs.Prelude.{ℕ, if◌then◌else◌, List, [], ◌∷◌, ◌++◌, map, flat_map, Option, Some, None}
use Rattle.pfc_core.specs.declared.held.Held.{Held}
use Rattle.pfc_core.specs.declared.loan.Lent.{Lent}
use Rattle.pfc_core.specs.declared.slot.Slot.{Slot}
use Rattle.pfc_core.specs.Marks.{Kind, StayKind, ReadingKind, TicketKind, PinKind, JobKind, DiskKind, LoanKind, Mark}

-- a file with a block size, and the core's number
pub record Home : Type 0 where
  pub instance : ℕ
  pub path : List ℕ
  pub size : ℕ
  pub block_size : ℕ

abbrev pub mark_in : Kind → Home → Held → Mark
mark_in kind h p = record { kind = kind; instance = h.instance; number = p.number; client = p.client; path = h.path; size = h.size; block_size = h.block_size; block = p.block; flight = p.flight; owner = p.owner }

-- what is kept of the ticket and the job of a slot
abbrev pub flight_of : Slot → Held
flight_of s = record { number = s.ticket; client = s.client; block = s.block; flight = s.ticket; owner = s.client }

-- the ticket of a block in flight, the job of one that landed until it ends
abbrev pub flights_at : Home → Slot → List Mark
flights_at h s = if s.landed then (if s.job then mark_in JobKind h (flight_of s) ∷ [] else []) else mark_in TicketKind h (flight_of s) ∷ []

-- what is kept of a loan: for a loan the flight is how many entries the log had, and the owner is 1 where it is of a turn
abbrev pub loan_of : Lent → Held
loan_of l = record { number = l.number; client = 0; block = 0; flight = l.at; owner = if l.turn then 1 else 0 }

-- the loan, where one is out
abbrev pub loan_at : Home → Option Lent → List Mark
loan_at h None = []
loan_at h (Some l) = mark_in LoanKind h (loan_of l) ∷ []

abbrev pub out_of : Home → (stays readings pins disks : List Held) → Option Lent → List Slot → List Mark
out_of h stays readings pins disks loan slots = map (mark_in StayKind h) stays ++ map (mark_in ReadingKind h) readings ++ map (mark_in PinKind h) pins ++ map (mark_in DiskKind h) disks ++ loan_at h loan ++ flat_map (flights_at h) slots
