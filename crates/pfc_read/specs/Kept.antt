-- What the fields of a read are.
use Rattle.std.specs.Prelude.{◌≡◌, ◌<◌, ◌≤◌, ◌+◌, ◌*◌, ◌⊎◌, ℕ, Bool, IsTrue, List, [], ◌++◌, length, map, vec_capacity, All, Option, Some, None, slice_index}
use Rattle.pfc_log.specs.declared.entry.Fell.{Fell}
use Rattle.pfc_log.specs.declared.entry.Fell.TheVariants.{Fault}
use Rattle.pfc_log.specs.declared.entry.Served.{Served}
use Rattle.pfc_world.specs.Files.{Files, file_at, HasSize}
use Rattle.pfc_span.specs.declared.pieces.Pieces.{Pieces}
use Rattle.pfc_span.specs.Pieces.{pieces_in, asked_of, total_of, spot}
use Rattle.pfc_core.specs.Marks.{Mark, TicketKind, PinKind}
use Rattle.pfc_read.specs.declared.segment.Source.TheVariants as source
use Rattle.pfc_read.specs.declared.segment.Segment.{Segment}
use Rattle.pfc_read.specs.declared.segment.Hand.{Hand}
use Rattle.pfc_read.specs.declared.segment.Hand.TheVariants as hand
use Rattle.pfc_read.specs.declared.segment.Counts.{Counts}
use Rattle.pfc_read.specs.declared.segment.Found.{Found}
use Rattle.pfc_read.specs.declared.segment.Owed.{Owed}
use Rattle.pfc_read.specs.declared.segment.Pending.{Pending}
use Rattle.pfc_read.specs.declared.op.ReadOp.TheInside.{Inside}
use Rattle.pfc_read.specs.OpView.{Given, Nothing, ToRun, ToFill, ToLook, ToRead, ToEnd, OpView}
use Rattle.pfc_read.specs.Segments.{IsPlaced, len_in, covers, len_from, Waiting, weigh, in_hand, pin_in, disk_in}
use Rattle.pfc_read.specs.Steps.{IsTokenOf, IsLeaveOf, IsPinFor, IsDiskFor}

abbrev pub given_of : Hand → Given
given_of hand.Nothing = Nothing
given_of hand.Ticket = ToRun
given_of (hand.Leave s) = ToFill s.part
given_of (hand.Pin s) = ToLook s.part
given_of (hand.Disk s) = ToRead s.part
given_of hand.End = ToEnd

abbrev pub view_of : {W : Type 0} → Inside W → OpView
view_of s = record {
  pieces = s.pieces;
  reading = s.reading;
  tickets = s.tickets.items;
  pins = map pin_in s.pendings.items ++ s.pins.items;
  looks = length s.pendings.items;
  disks = map disk_in s.disks.items;
  leaves = length s.owed.items;
  hits = s.counts.hits;
  waits = s.counts.waits;
  directs = s.counts.directs;
  failed = s.counts.failed;
  met = s.met;
  given = given_of s.hand;
}

-- where in the file the byte at a place of the reply stands
abbrev pub spots_of : {W : Type 0} → Inside W → ℕ → ℕ
spots_of s = spot s.reading.size (pieces_in s.pieces)

abbrev pub waiting_of : {W : Type 0} → Inside W → Waiting W
waiting_of s = record { pendings = s.pendings.items; disks = s.disks.items; owed = s.owed.items }

-- all parts that are still to be read, weighed
abbrev pub weight_in : {W : Type 0} → (Segment → ℕ) → Waiting W → Hand → ℕ
weight_in f w hand = weigh f w + in_hand f hand

abbrev pub is_run : Hand → ℕ
is_run hand.Ticket = 1
is_run _ = 0

abbrev pub is_look : Hand → ℕ
is_look (hand.Pin s) = 1
is_look _ = 0

-- 1 where the part that is given out may yet be owed a direct read
abbrev pub is_open : Hand → ℕ
is_open (hand.Pin s) = 1
is_open (hand.Disk s) = 1
is_open _ = 0

-- a pin for its segment
pub record IsFit {W : Type 0} (reading : Mark) (spot_at : ℕ → ℕ) (total : ℕ) (p : Pending W) : Type 0 where
  pub pin_for : IsPinFor reading p.segment.part p.pin
  pub placed : IsPlaced reading.size reading.block_size spot_at total p.segment

-- the right to read its segment from disk
pub record IsFound {W : Type 0} (reading : Mark) (spot_at : ℕ → ℕ) (total : ℕ) (x : Found W) : Type 0 where
  pub disk_for : IsDiskFor reading x.segment.part x.disk
  pub placed : IsPlaced reading.size reading.block_size spot_at total x.segment

-- a leave for its segment
pub record IsOwed {W : Type 0} (reading : Mark) (spot_at : ℕ → ℕ) (total : ℕ) (owed : Owed W) : Type 0 where
  pub leave_of : IsLeaveOf reading owed.leave
  pub part_is : owed.leave.part ≡ owed.segment.part
  pub placed : IsPlaced reading.size reading.block_size spot_at total owed.segment
  pub source_is : owed.segment.source ≡ source.Origin

abbrev pub FitsHand : (reading : Mark) (spot_at : ℕ → ℕ) (total : ℕ) → Hand → Type 0
FitsHand reading spot_at total (hand.Leave s) = IsPlaced reading.size reading.block_size spot_at total s × (s.source ≡ source.Origin)
FitsHand reading spot_at total (hand.Pin s) = IsPlaced reading.size reading.block_size spot_at total s
FitsHand reading spot_at total (hand.Disk s) = IsPlaced reading.size reading.block_size spot_at total s
FitsHand reading spot_at total _ = Unit {0}

-- all tokens are for the client and the file of the reading, and each part has its place in the reply
pub record AreOwn {W : Type 0} (reading : Mark) (spot_at : ℕ → ℕ) (total : ℕ) (tickets pins : List Mark) (w : Waiting W) (hand : Hand) : Type 0 where
  pub tickets_are : All (IsTokenOf reading TicketKind) tickets
  pub pins_are : All (IsTokenOf reading PinKind) pins
  pub pendings_are : All (IsFit reading spot_at total) w.pendings
  pub disks_are : All (IsFound reading spot_at total) w.disks
  pub owed_are : All (IsOwed reading spot_at total) w.owed
  pub hand_is : FitsHand reading spot_at total hand

abbrev pub served_sum : Served → ℕ
served_sum s = s.hit + s.missed + s.bypassed

-- What came and what is still to come fill the reply, unless something kept the read from data; each by its source is no
-- more than whole blocks.
pub record AreCounted {W : Type 0} (k total : ℕ) (tickets : List Mark) (w : Waiting W) (hand : Hand) (counts : Counts) (served : Served) (met : Option Fell) : Type 0 where
  pub within : served_sum served + weight_in len_in w hand ≤ total
  pub whole : met ≡ None → served_sum served + weight_in len_in w hand ≡ total
  pub hit : served.hit + weight_in (len_from source.Cache) w hand ≤ k * counts.hits
  pub missed : served.missed + weight_in (len_from source.Flight) w hand ≤ k * counts.waits
  pub bypassed : served.bypassed + weight_in (len_from source.Origin) w hand ≤ k * counts.directs
  pub parts : counts.hits + counts.waits ≤ total
  pub flights : counts.failed + length tickets + is_run hand ≤ counts.waits
  pub directs : counts.directs + length w.pendings + length w.disks + is_open hand ≤ total

-- but for these places, each byte is the file's where this says
abbrev pub Agrees : List ℕ → (ℕ → ℕ) → List ℕ → (ℕ → ℕ) → Type 0
Agrees file spot_at bytes pending = (j : ℕ) → j < length bytes → pending j ≡ 0 → slice_index bytes j ≡ slice_index file (spot_at j)

-- the reply has the pieces' length, and the file's bytes where no part is still to be read
pub record IsSound {W : Type 0} (told : Bool) (files : Files) (reading : Mark) (pieces : Pieces) (bytes : List ℕ) (w : Waiting W) (hand : Hand) (met : Option Fell) : Type 0 where
  pub short : asked_of (pieces_in pieces) ≤ 16777216
  pub least : 4096 ≤ reading.block_size
  pub most : reading.block_size ≤ 16777216
  pub sized : HasSize told files reading.path reading.size
  pub long : length bytes ≡ total_of reading.size (pieces_in pieces)
  pub agrees : IsTrue told → met ≡ None → (file : List ℕ) → file_at files reading.path ≡ Some file → Agrees file (spot reading.size (pieces_in pieces)) bytes (λ j. weight_in (covers j) w hand)

abbrev pub Stands : {W : Type 0} → List Mark → Waiting W → ℕ → Hand → Type 0
Stands tickets w failed hand.End = (tickets ≡ []) × (w.owed ≡ []) × (((w.pendings ≡ []) × (w.disks ≡ [])) ⊎ (0 < failed))
Stands tickets w failed _ = Unit {0}

-- what is done at the end, that a failed flight keeps the read from data, and that the origin fails only where there are
-- bytes to read
pub record IsStaged {W : Type 0} (total : ℕ) (tickets : List Mark) (w : Waiting W) (hand : Hand) (failed : ℕ) (met : Option Fell) : Type 0 where
  pub hurt : 0 < failed → met ≡ None → ⊥
  pub fetch : met ≡ Some Fault → 0 < total
  pub stands : Stands tickets w failed hand

-- A pin that is given out finds room in either list, and a part that is given out among those that are owed a direct read.
-- What isn't read from disk finds room at the end.
pub record IsRoomy {W : Type 0} (s : Inside W) : Type 0 where
  pub back : length s.pendings.items + is_look s.hand ≤ vec_capacity s.pendings
  pub on : length s.pins.items + length s.pendings.items + is_look s.hand ≤ vec_capacity s.pins
  pub late : length s.owed.items + length s.pendings.items + length s.disks.items + is_open s.hand ≤ vec_capacity s.owed
  pub none : s.unread.items ≡ []
  pub unread : length s.disks.items ≤ vec_capacity s.unread

pub record IsKept {W : Type 0} (told : Bool) (files : Files) (s : Inside W) : Type 0 where
  pub own : AreOwn s.reading (spots_of s) (length s.bytes.items) s.tickets.items s.pins.items (waiting_of s) s.hand
  pub counted : AreCounted s.reading.block_size (length s.bytes.items) s.tickets.items (waiting_of s) s.hand s.counts s.served s.met
  pub size_is : s.size ≡ s.reading.size
  pub sound : IsSound told files s.reading s.pieces s.bytes.items (waiting_of s) s.hand s.met
  pub staged : IsStaged (length s.bytes.items) s.tickets.items (waiting_of s) s.hand s.counts.failed s.met
  pub roomy : IsRoomy s
