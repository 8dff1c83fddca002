-- What each call does.
use Rattle.std.specs.Prelude.{◌≡◌, ◌+◌, ◌⊎◌, ℕ, true, false, ◌==◌, ◌&&◌, [], ◌∷◌, ◌++◌, IsTrue, if◌then◌else◌, sum_by, Some}
use Rattle.std.specs.Cmp.Lexicographic.{pointwise}
use Rattle.pfc_log.specs.declared.entry.Entry.{Entry}
use Rattle.pfc_log.specs.declared.entry.Entry.TheVariants.{Opened, Closed, Begin, Join, Hit, Direct, Landed, Failed, Dropped, Left}
use Rattle.pfc_log.specs.declared.entry.Spot.TheVariants.{Ram, Disk}
use Rattle.pfc_log.specs.declared.entry.Way.TheVariants as way
use Rattle.pfc_log.specs.declared.entry.Uncached.{Uncached}
use Rattle.pfc_log.specs.declared.start.Start.TheVariants as start
use Rattle.pfc_base.specs.declared.block.Part.{Part}
use Rattle.pfc_base.specs.BlockSet.{is_member}
use Rattle.pfc_log.specs.declared.entry.Fell.{Fell}
use Rattle.pfc_log.specs.declared.entry.DropCause.{DropCause}
use Rattle.pfc_log.specs.Lawful.{MayDrop, IsCached}
use Rattle.pfc_log.specs.Owners.{owner}
use Rattle.pfc_log.specs.Views.{Away, place, begins}
use Rattle.pfc_core.specs.declared.token.Strayed.{Strayed}
use Rattle.pfc_core.specs.declared.token.Decision.{Decision}
use Rattle.pfc_core.specs.declared.token.Decision.TheVariants.{Resident, Joined, Stored, Fetch}
use Rattle.pfc_core.specs.declared.token.Decision.TheVariants as decision
use Rattle.pfc_core.specs.Leave.{LeaveView}
use Rattle.pfc_core.specs.Leaves.{is_here_at, is_flying_at, leaves, pins_on}
use Rattle.pfc_core.specs.Marks.{Kind, StayKind, ReadingKind, TicketKind, PinKind, JobKind, DiskKind, Mark, listed, Gains, Loses, Swaps}
use Rattle.pfc_core.specs.Access.{come_in, go_out}
use Rattle.pfc_core.specs.View.{CoreView, entered}

-- a token of this kind that the core gave out, for a client
pub record IsOf (v : CoreView) (kind : Kind) (n : ℕ) (m : Mark) : Type 0 where
  pub kind_is : m.kind ≡ kind
  pub instance_is : m.instance ≡ v.instance
  pub path_is : m.path ≡ v.path
  pub size_is : m.size ≡ v.size
  pub block_size_is : m.block_size ≡ v.block_size
  pub client_is : m.client ≡ n

-- the token comes back, with its numbers and the core's, and nothing has changed: the core's list has no such mark
pub record Strays {T : Type 0} (old : CoreView) (token : T) (m : Mark) (s : Strayed T) (new : CoreView) : Type 0 where
  pub back : s.token ≡ token
  pub why_is : s.why ≡ record { token = record { instance = m.instance; number = m.number }; instance = old.instance }
  pub unlisted : listed m old.out ≡ 0
  pub unchanged : new ≡ old

-- 0 where the core gave it out
abbrev pub foreign : CoreView → Mark → ℕ
foreign v m = if m.instance == v.instance && pointwise ◌==◌ m.path v.path && m.size == v.size && m.block_size == v.block_size then 0 else 1

-- a client opens the file at a moment
pub record Attaches (old : CoreView) (n now : ℕ) (stay : Mark) (new : CoreView) : Type 0 where
  pub stays : IsOf old StayKind n stay
  pub gains : Gains old.out stay new.out
  pub enters : new ≡ record (entered old (Opened n) new.out) { access = come_in now old.out old.access }

-- and closes it at a moment
pub record Detaches (old : CoreView) (now : ℕ) (stay : Mark) (new : CoreView) : Type 0 where
  pub loses : Loses old.out stay new.out
  pub enters : new ≡ record (entered old (Closed stay.client) new.out) { access = go_out now new.out old.access }

-- no entry, but the room for one
pub record Begins (old : CoreView) (n : ℕ) (reading : Mark) (new : CoreView) : Type 0 where
  pub reads : IsOf old ReadingKind n reading
  pub gains : Gains old.out reading new.out
  pub rest : new ≡ record old { out = new.out }

-- a pin for a client on a block whose flight the pin's owner began, with an entry
pub record PinsOn (old : CoreView) (n i : ℕ) (pin : Mark) (e : Entry) (new : CoreView) : Type 0 where
  pub pins : IsOf old PinKind n pin
  pub block_is : pin.block ≡ i
  pub owner_is : owner pin.flight old.entries ≡ Some pin.owner
  pub gains : Gains old.out pin new.out
  pub enters : new ≡ entered old e new.out

-- the file isn't cached: a leave for a client, with an entry
pub record GoesDirect (old : CoreView) (n : ℕ) (part : Part) (leave : LeaveView) (new : CoreView) : Type 0 where
  pub why : Uncached
  pub uncached : old.first ≡ start.Uncached why
  pub leave_is : leave ≡ record { client = n; path = old.path; size = old.size; block_size = old.block_size; part = part }
  pub enters : new ≡ entered old (Direct part.block n (way.Uncached why)) old.out

-- a token for a client on a block that is on disk, and neither in memory nor in flight, with an entry
pub record FindsOnDisk (old : CoreView) (n i : ℕ) (disk : Mark) (new : CoreView) : Type 0 where
  pub cached : IsCached old.first
  pub away : place i old.entries ≡ Away
  pub stored : is_member old.stored i ≡ true
  pub found : IsOf old DiskKind n disk
  pub block_is : disk.block ≡ i
  pub gains : Gains old.out disk new.out
  pub enters : new ≡ entered old (Hit i Disk n) new.out

-- a ticket and a pin for a client on a block that was neither in memory, nor in flight, nor on disk, with an entry
pub record Fetches (old : CoreView) (n i : ℕ) (ticket pin : Mark) (new : CoreView) : Type 0 where
  pub cached : IsCached old.first
  pub away : place i old.entries ≡ Away
  pub absent : is_member old.stored i ≡ false
  pub fetches : IsOf old TicketKind n ticket
  pub pins : IsOf old PinKind n pin
  pub ticket_block : ticket.block ≡ i
  pub pin_block : pin.block ≡ i
  pub number_is : ticket.number ≡ begins old.entries
  pub ticket_flight : ticket.flight ≡ ticket.number
  pub pin_flight : pin.flight ≡ ticket.number
  pub ticket_owner : ticket.owner ≡ n
  pub pin_owner : pin.owner ≡ n
  pub gains : (w : Mark → ℕ) → sum_by w new.out ≡ sum_by w old.out + w ticket + w pin
  pub enters : new ≡ entered old (Begin ticket.number i n) new.out

-- the first that fits: the file isn't cached; the block is in memory, in flight, on disk, or none of these
abbrev pub Decides : {W : Type 0} → CoreView → ℕ → Part → Decision W → CoreView → Type 0
Decides old n part (decision.Direct leave) new = GoesDirect old n part leave new
Decides old n part (Resident pin) new = IsCached old.first × IsTrue (is_here_at pin.flight (place part.block old.entries)) × PinsOn old n part.block pin (Hit part.block Ram n) new
Decides old n part (Joined pin) new = IsCached old.first × IsTrue (is_flying_at pin.flight (place part.block old.entries)) × PinsOn old n part.block pin (Join pin.flight part.block n) new
Decides old n part (Stored disk) new = FindsOnDisk old n part.block disk new
Decides old n part (Fetch ticket pin) new = Fetches old n part.block ticket pin new

-- the ticket's job in its place, with an entry; the client of the ticket began the flight
pub record Lands (old : CoreView) (ticket job : Mark) (new : CoreView) : Type 0 where
  pub owner_is : owner ticket.number old.entries ≡ Some ticket.client
  pub job_is : job ≡ record ticket { kind = JobKind }
  pub swaps : Swaps old.out ticket job new.out
  pub enters : new ≡ entered old (Landed ticket.number) new.out

pub record Fails (old : CoreView) (ticket : Mark) (why : Fell) (new : CoreView) : Type 0 where
  pub owner_is : owner ticket.number old.entries ≡ Some ticket.client
  pub loses : Loses old.out ticket new.out
  pub enters : new ≡ entered old (Failed ticket.number why) new.out

-- one pin less; with the last one on a block whose job has ended the block leaves memory
pub record Unpins (old : CoreView) (pin : Mark) (new : CoreView) : Type 0 where
  pub loses : Loses old.out pin new.out
  pub enters : new ≡ record old { entries = if leaves old.entries old.out pin.block pin.flight then old.entries ++ Left pin.block ∷ [] else old.entries; out = new.out }

-- the job ends unwritten; where no pin is on the block it leaves memory at once
pub record Drops (old : CoreView) (job : Mark) (why : DropCause) (new : CoreView) : Type 0 where
  pub may : MayDrop old.entries why
  pub loses : Loses old.out job new.out
  pub enters : new ≡ record old { entries = if 0 == pins_on job.block job.flight old.out then old.entries ++ Dropped job.block why ∷ [] ++ Left job.block ∷ [] else old.entries ++ Dropped job.block why ∷ []; out = new.out }

-- as `Strays`, or the store is neither frozen nor written off
pub record StraysJob {T : Type 0} (old : CoreView) (token : T) (m : Mark) (why : DropCause) (s : Strayed T) (new : CoreView) : Type 0 where
  pub back : s.token ≡ token
  pub why_is : s.why ≡ record { token = record { instance = m.instance; number = m.number }; instance = old.instance }
  pub cause : (listed m old.out ≡ 0) ⊎ (MayDrop old.entries why → ⊥)
  pub unchanged : new ≡ old
