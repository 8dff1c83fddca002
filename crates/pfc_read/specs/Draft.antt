-- The decisions for the parts of a read, one by one.
use Rattle.std.specs.Prelude.{◌≡◌, ◌+◌, ◌*◌, ◌<◌, ◌≤◌, ◌==◌, ℕ, false, List, [], ◌∷◌, ◌++◌, length, take, map, reverse, slice_index_or, sum_by, vec_len, vec_capacity, All, Option, Some, None, ◌⊎◌}
use Rattle.pfc_base.specs.declared.block.Part.{Part}
use Rattle.pfc_log.specs.declared.entry.Fell.{Fell}
use Rattle.pfc_log.specs.declared.entry.Fell.TheVariants.{Memory}
use Rattle.pfc_log.specs.Tallies.{tally}
use Rattle.pfc_span.specs.Tiling.{part_len}
use Rattle.pfc_core.specs.declared.token.Decision.{Decision}
use Rattle.pfc_core.specs.declared.token.Decision.TheVariants as d
use Rattle.pfc_core.specs.Calls.{Decides, IsOf}
use Rattle.pfc_core.specs.Marks.{TicketKind, PinKind, DiskKind, Mark}
use Rattle.pfc_core.specs.View.{CoreView}
use Rattle.pfc_read.specs.declared.segment.Source.{Source}
use Rattle.pfc_read.specs.declared.segment.Source.TheVariants as source
use Rattle.pfc_read.specs.declared.segment.Segment.{Segment}
use Rattle.pfc_read.specs.declared.segment.Found.{Found}
use Rattle.pfc_read.specs.declared.segment.Owed.{Owed}
use Rattle.pfc_read.specs.declared.segment.Pending.{Pending}
use Rattle.pfc_read.specs.declared.draft.Draft.{Draft}
use Rattle.pfc_read.specs.Segments.{IsPlaced, len_in, covers, len_from, Waiting, weigh, pin_in, disk_in}
use Rattle.pfc_read.specs.Plans.{DecidesAll, with_asked}

abbrev pub segment_at : Part → ℕ → Source → Segment
segment_at part at from = record { part = part; at = at; source = from }

-- what a decision gives, for a part at its place of the reply
abbrev pub tickets_of : {W : Type 0} → Decision W → List Mark
tickets_of (d.Fetch ticket pin) = ticket ∷ []
tickets_of _ = []

abbrev pub pendings_of : {W : Type 0} → Decision W → Part → ℕ → List (Pending W)
pendings_of (d.Resident pin) part at = record { pin = pin; segment = segment_at part at source.Cache } ∷ []
pendings_of (d.Joined pin) part at = record { pin = pin; segment = segment_at part at source.Flight } ∷ []
pendings_of (d.Fetch ticket pin) part at = record { pin = pin; segment = segment_at part at source.Flight } ∷ []
pendings_of _ part at = []

abbrev pub disks_of : {W : Type 0} → Decision W → Part → ℕ → List (Found W)
disks_of (d.Stored disk) part at = record { disk = disk; segment = segment_at part at source.Cache } ∷ []
disks_of _ part at = []

abbrev pub owed_of : {W : Type 0} → Decision W → Part → ℕ → List (Owed W)
owed_of (d.Direct leave) part at = record { leave = leave; segment = segment_at part at source.Origin } ∷ []
owed_of _ part at = []

-- a block in memory or on disk is a hit
abbrev pub hits_of : {W : Type 0} → Decision W → ℕ
hits_of (d.Resident pin) = 1
hits_of (d.Stored disk) = 1
hits_of _ = 0

abbrev pub waits_of : {W : Type 0} → Decision W → ℕ
waits_of (d.Joined pin) = 1
waits_of (d.Fetch ticket pin) = 1
waits_of _ = 0

abbrev pub directs_of : {W : Type 0} → Decision W → ℕ
directs_of (d.Direct leave) = 1
directs_of _ = 0

abbrev pub waiting_in : {W : Type 0} → Draft W → Waiting W
waiting_in d = record { pendings = d.pendings.items; disks = d.disks.items; owed = d.owed.items }

-- nothing is decided, and there is room for so many parts
pub record IsEmptyFor {W : Type 0} (parts : ℕ) (d : Draft W) : Type 0 where
  pub tickets : d.tickets.items ≡ []
  pub pendings : d.pendings.items ≡ []
  pub disks : d.disks.items ≡ []
  pub owed : d.owed.items ≡ []
  pub counts : d.counts ≡ record { hits = 0; waits = 0; directs = 0; failed = 0 }
  pub ticket_room : parts ≤ vec_capacity d.tickets
  pub pending_room : parts ≤ vec_capacity d.pendings
  pub disk_room : parts ≤ vec_capacity d.disks
  pub owed_room : parts ≤ vec_capacity d.owed

-- there is room for one part more, whatever is decided
pub record HasRoom {W : Type 0} (d : Draft W) : Type 0 where
  pub tickets : vec_len d.tickets < vec_capacity d.tickets
  pub pendings : vec_len d.pendings < vec_capacity d.pendings
  pub disks : vec_len d.disks < vec_capacity d.disks
  pub owed : vec_len d.owed < vec_capacity d.owed

pub record SameRoom {W : Type 0} (before after : Draft W) : Type 0 where
  pub tickets : vec_capacity after.tickets ≡ vec_capacity before.tickets
  pub pendings : vec_capacity after.pendings ≡ vec_capacity before.pendings
  pub disks : vec_capacity after.disks ≡ vec_capacity before.disks
  pub owed : vec_capacity after.owed ≡ vec_capacity before.owed

-- each list stands the other way round
pub record IsTurned {W : Type 0} (before after : Draft W) : Type 0 where
  pub tickets : after.tickets.items ≡ reverse before.tickets.items
  pub pendings : after.pendings.items ≡ reverse before.pendings.items
  pub disks : after.disks.items ≡ reverse before.disks.items
  pub owed : after.owed.items ≡ reverse before.owed.items
  pub counts : after.counts ≡ before.counts
  pub room : SameRoom before after

-- one part more is decided, and what the decision gave is kept
pub record Asks {W : Type 0} (old : CoreView) (n : ℕ) (part : Part) (at : ℕ) (before after : Draft W) (new : CoreView) : Type 0 where
  pub decision : Decision W
  pub decides : Decides old n part decision new
  pub tickets : after.tickets.items ≡ before.tickets.items ++ tickets_of decision
  pub pendings : after.pendings.items ≡ before.pendings.items ++ pendings_of decision part at
  pub disks : after.disks.items ≡ before.disks.items ++ disks_of decision part at
  pub owed : after.owed.items ≡ before.owed.items ++ owed_of decision part at
  pub hits : after.counts.hits ≡ before.counts.hits + hits_of decision
  pub waits : after.counts.waits ≡ before.counts.waits + waits_of decision
  pub directs : after.counts.directs ≡ before.counts.directs + directs_of decision
  pub failed : after.counts.failed ≡ before.counts.failed
  pub room : SameRoom before after

-- a pin of the client on the block of its segment
pub record IsAsked {W : Type 0} (v : CoreView) (n : ℕ) (spot_at : ℕ → ℕ) (total : ℕ) (p : Pending W) : Type 0 where
  pub pin_of : IsOf v PinKind n p.pin
  pub block_is : p.pin.block ≡ p.segment.part.block
  pub placed : IsPlaced v.size v.block_size spot_at total p.segment

-- a right of the client to read the block of its segment from disk
pub record IsStored {W : Type 0} (v : CoreView) (n : ℕ) (spot_at : ℕ → ℕ) (total : ℕ) (x : Found W) : Type 0 where
  pub disk_of : IsOf v DiskKind n x.disk
  pub block_is : x.disk.block ≡ x.segment.part.block
  pub placed : IsPlaced v.size v.block_size spot_at total x.segment

-- a leave of the client for the part of its segment
pub record IsSent {W : Type 0} (v : CoreView) (n : ℕ) (spot_at : ℕ → ℕ) (total : ℕ) (owed : Owed W) : Type 0 where
  pub leave_is : owed.leave ≡ record { client = n; path = v.path; size = v.size; block_size = v.block_size; part = owed.segment.part }
  pub source_is : owed.segment.source ≡ source.Origin
  pub placed : IsPlaced v.size v.block_size spot_at total owed.segment

pub record AreAll {W : Type 0} (v : CoreView) (n : ℕ) (spot_at : ℕ → ℕ) (total : ℕ) (w : Waiting W) : Type 0 where
  pub pendings : All (IsAsked v n spot_at total) w.pendings
  pub disks : All (IsStored v n spot_at total) w.disks
  pub owed : All (IsSent v n spot_at total) w.owed

-- each byte of parts that are read one behind the other stands where this says in the file, by its place in the reply
abbrev pub StandAt : ℕ → (ℕ → ℕ) → List Part → Type 0
StandAt k spot_at parts = (i : ℕ) (d : Part) (x : ℕ) → i < length parts → x < (slice_index_or parts i d).len →
    (slice_index_or parts i d).block * k + (slice_index_or parts i d).from + x ≡ spot_at (sum_by part_len (take i parts) + x)

-- what this draft is to the core, by which so many of the parts are decided
pub record AreAsked {W : Type 0} (old : CoreView) (n : ℕ) (parts : List Part) (number : ℕ) (draft : Draft W) (new : CoreView) : Type 0 where
  pub decides : DecidesAll old n (take number parts) new
  pub unchanged : new ≡ record old { entries = new.entries; out = new.out }
  pub tickets_are : All (IsOf old TicketKind n) draft.tickets.items
  pub waiting_are : (spot_at : ℕ → ℕ) → StandAt old.block_size spot_at parts → AreAll old n spot_at (sum_by part_len parts) (waiting_in draft)
  pub gains : (w : Mark → ℕ) → sum_by w new.out ≡ sum_by w old.out + sum_by w draft.tickets.items + sum_by w (map pin_in draft.pendings.items) + sum_by w (map disk_in draft.disks.items)
  pub number_is : length draft.pendings.items + length draft.disks.items + length draft.owed.items ≡ number
  pub counts : draft.counts.hits + draft.counts.waits + draft.counts.directs ≡ number
  pub leaves_is : length draft.owed.items ≡ draft.counts.directs
  pub failed_is : draft.counts.failed ≡ 0
  pub few : length draft.tickets.items ≤ draft.counts.waits
  pub lens : weigh len_in (waiting_in draft) ≡ sum_by part_len (take number parts)
  pub cache_lens : weigh (len_from source.Cache) (waiting_in draft) ≤ old.block_size * draft.counts.hits
  pub flight_lens : weigh (len_from source.Flight) (waiting_in draft) ≤ old.block_size * draft.counts.waits
  pub origin_lens : weigh (len_from source.Origin) (waiting_in draft) ≤ old.block_size * draft.counts.directs
  pub covered : (j : ℕ) → j < sum_by part_len (take number parts) → 0 < weigh (covers j) (waiting_in draft)
  pub mine : tally n new.entries ≡ with_asked (tally n old.entries) draft.counts.hits draft.counts.waits draft.counts.directs
  pub others : (m : ℕ) → (n == m) ≡ false → tally m new.entries ≡ tally m old.entries

-- a front of the parts is decided, and all of them unless memory was refused
pub record AsksAll {W : Type 0} (old : CoreView) (n : ℕ) (parts : List Part) (draft : Draft W) (met : Option Fell) (new : CoreView) : Type 0 where
  pub number : ℕ
  pub within : number ≤ length parts
  pub asked : AreAsked old n parts number draft new
  pub all : met ≡ None → number ≡ length parts
  pub met_is : (met ≡ None) ⊎ (met ≡ Some Memory)
  pub pending_room : length parts ≤ vec_capacity draft.pendings
  pub owed_room : length parts ≤ vec_capacity draft.owed
