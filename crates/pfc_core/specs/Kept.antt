-- What the fields of a core are.
use Rattle.std.specs.Prelude.{◌≡◌, ℕ, ◌+◌, ◌≤◌, ◌<◌, Bool, true, false, ◌==◌, ◌&&◌, if◌then◌else◌, List, Option, Some, None, length, sum_by, count_by}
use Rattle.pfc_base.specs.Block.{count_of}
use Rattle.pfc_base.specs.BlockSet.{is_member}
use Rattle.pfc_log.specs.declared.entry.Entry.{Entry}
use Rattle.pfc_log.specs.declared.start.Start.{Start}
use Rattle.pfc_log.specs.Views.{begins, kept, stored, durable, opened, closed, bound, times, is_frozen, is_device, is_disk_hit}
use Rattle.pfc_log.specs.Lawful.{Lawful, IsCached, IsOn}
use Rattle.pfc_core.specs.declared.slot.Slot.{Slot}
use Rattle.pfc_core.specs.declared.held.Held.{Held}
use Rattle.pfc_core.specs.declared.loan.Lent.{Lent}
use Rattle.pfc_core.specs.declared.file.FileCore.TheInside.{Inside}
use Rattle.pfc_core.specs.Pins.{is_guest}
use Rattle.pfc_core.specs.Slots.{slot_of, room_of}
use Rattle.pfc_core.specs.Tied.{IsTied, IsAlive}
use Rattle.pfc_core.specs.Owned.{IsOwned}
use Rattle.pfc_core.specs.Out.{out_of}
use Rattle.pfc_core.specs.Homes.{home_of}
use Rattle.pfc_core.specs.Sets.{SetsView}
use Rattle.pfc_core.specs.Turned.{AreTurns}
use Rattle.pfc_core.specs.View.{CoreView}

abbrev pub view_of : {W : Type 0} → Inside W → CoreView
view_of s = record { instance = s.instance; path = s.shelf.path; size = s.shelf.size; block_size = s.shelf.block_size; first = s.log.first; entries = s.log.entries; out = out_of (home_of s.instance s.shelf) s.stays.list s.readings.list s.pins.list s.disks.list s.loan s.shelf.slots; stored = s.sets.stored; durable = s.sets.durable; claimed = s.sets.claimed; access = s.access }

-- each client is in as often as it has stays
pub record AreIn (es : List Entry) (stays : List Held) : Type 0 where
  pub each : (n : ℕ) → count_by (is_guest n) stays + closed n es ≡ opened n es

-- what is right of the log alone
pub record IsWell (first : Start) (es : List Entry) (begun : ℕ) : Type 0 where
  pub lawful : Lawful first es
  pub is_on : IsOn es
  pub begun_is : begun ≡ begins es

-- the `wrote` of a slot that was written stands in the log
abbrev pub IsSaved : Start → List Entry → ℕ → Option Slot → Type 0
IsSaved first es i None = Unit {0}
IsSaved first es i (Some s) = s.written ≡ true → (kept first i es).written ≡ true

-- and of slots and pins beside it
pub record IsHeld (first : Start) (es : List Entry) (begun : ℕ) (slots : List Slot) (pins : List Held) : Type 0 where
  pub well : IsWell first es begun
  pub tied : IsTied es (λ i. slot_of i slots) pins
  pub alive : (i : ℕ) → IsAlive (slot_of i slots)
  pub owned : IsOwned es (λ i. slot_of i slots) pins
  pub saved : (i : ℕ) → IsSaved first es i (slot_of i slots)

-- the blocks are small enough, and a file that is cached is too; its start set is as long as it has blocks
pub record IsSized (first : Start) (size k : ℕ) : Type 0 where
  pub some : 0 < k
  pub most : k ≤ 16777216
  pub blocks : IsCached first → count_of size k ≤ 16777216
  pub start : IsCached first → bound first ≡ count_of size k

-- the sets are what the log says
pub record AreSaid (first : Start) (es : List Entry) (s : SetsView) : Type 0 where
  pub length_is : length s.stored ≡ bound first
  pub long_is : length s.durable ≡ bound first
  pub stored_is : (i : ℕ) → is_member s.stored i ≡ stored first i es
  pub durable_is : (i : ℕ) → is_member s.durable i ≡ durable first i es
  pub frozen_is : s.frozen ≡ (if 0 == times is_frozen es then false else true)

-- how many of a client's tokens for a block on disk are out
abbrev pub is_found : ℕ → ℕ → Held → Bool
is_found i n p = p.block == i && p.client == n

-- a client went to the origin for a failing disk, or still may, at most as often as it found the block there
pub record AreFound (es : List Entry) (disks : List Held) : Type 0 where
  pub each : (i n : ℕ) → times (is_device i n) es + count_by (is_found i n) disks ≤ times (is_disk_hit i n) es

-- room for `frozen`, unless it stands
abbrev pub alarm : SetsView → ℕ
alarm s = if s.frozen then 0 else 1

-- room for the entry of a turn
abbrev pub turn_room : Option Lent → ℕ
turn_room None = 0
turn_room (Some l) = if l.turn then 1 else 0

pub record IsKept {W : Type 0} (s : Inside W) : Type 0 where
  pub held : IsHeld s.log.first s.log.entries s.begun s.shelf.slots s.pins.list
  pub guests : AreIn s.log.entries s.stays.list
  pub found : AreFound s.log.entries s.disks.list
  pub said : AreSaid s.log.first s.log.entries s.sets
  pub room : length s.stays.list + length s.readings.list + length s.pins.list + length s.disks.list + sum_by room_of s.shelf.slots + alarm s.sets + turn_room s.loan ≤ s.log.room
  pub sized : IsSized s.log.first s.shelf.size s.shelf.block_size
  pub turns : AreTurns s.log.first s.log.entries s.sets.claimed s.loan s.claim s.visited
