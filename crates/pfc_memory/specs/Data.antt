-- A data device in memory as a crash sees it, and what each of its calls leaves, done or failed.
use Rattle.std.specs.Prelude.{◌≡◌, ◌≢◌, ◌<◌, ◌≤◌, ◌+◌, ℕ, true, false, List, [], length, min, max, slice_index}
use Rattle.pfc_world.specs.Disk.{Disk, unsettled, left_over, IsImage, LiesBetween, LiesOutside, Write, Sync, Loosened, Firm, not_settled}
use Rattle.pfc_memory.specs.Places.{place_of, place_at, synced_place, lost_place}
use Rattle.pfc_memory.specs.declared.place.Place.{Place}
use Rattle.pfc_memory.specs.declared.lay.DiskState.{DiskState}
use Rattle.pfc_world.specs.Run.{Run}
use Rattle.pfc_memory.specs.History.{run_of}
use Rattle.pfc_memory.specs.declared.history.Sides.{Sides}
use Rattle.pfc_memory.specs.declared.data.MemoryData.{MemoryData}

abbrev pub disk_with : List ℕ → List Place → Disk
disk_with bytes places = record { reads = bytes; places = λ p. place_of (place_at places p) }

abbrev pub disk_of : DiskState → Disk
disk_of state = disk_with state.bytes.items state.places.items

-- these bytes are laid over the list from a place on, with zeros in a gap before it
pub record Laid (at : ℕ) (bytes old new : List ℕ) : Type 0 where
  pub long : length new ≡ max (length old) (at + length bytes)
  pub inside : (p : ℕ) → p < length bytes → slice_index new (at + p) ≡ slice_index bytes p
  pub outside : (p : ℕ) → LiesOutside at (at + length bytes) p → slice_index new p ≡ slice_index old p

-- each list that a crash could leave, it may leave still
abbrev pub KeepsImages : Disk → Disk → Type 0
KeepsImages old new = (image : List ℕ) → IsImage old image → IsImage new image

-- the range, and a gap before it, are unsettled, and no other place changes
pub record Unsettles (at len : ℕ) (old new : Disk) : Type 0 where
  pub inside : (p : ℕ) → LiesBetween (min at (length old.reads)) (at + len) p → new.places p ≡ unsettled
  pub outside : (p : ℕ) → LiesOutside (min at (length old.reads)) (at + len) p → new.places p ≡ old.places p

-- A write that failed: a crash may leave each list that it could leave before, and each of these with the bytes laid over
-- it.
pub record MayWrite (at : ℕ) (bytes : List ℕ) (old new : Disk) : Type 0 where
  pub keeps : KeepsImages old new
  pub lays : (image : List ℕ) → IsImage old image → (other : List ℕ) → Laid at bytes image other → IsImage new other
  pub unsettles : Unsettles at (length bytes) old new

-- a sync settles what is unsettled, and nothing that is left over
abbrev pub Settled : Disk → Disk → Type 0
Settled old new = (p : ℕ) → new.places p ≡ synced_place (old.places p)

-- a sync that failed: no image is lost, and what was unsettled is left over
pub record MaySync (old new : Disk) : Type 0 where
  pub keeps : KeepsImages old new
  pub left : (p : ℕ) → new.places p ≡ lost_place (old.places p)

-- a clear that failed: a crash may leave each list that it could leave before, and the empty one, and all is left over
pub record MayClear (old new : Disk) : Type 0 where
  pub keeps : KeepsImages old new
  pub none : IsImage new []
  pub left : (p : ℕ) → p < length old.reads → new.places p ≡ left_over
  pub past : (p : ℕ) → length old.reads ≤ p → new.places p ≡ lost_place (old.places p)

-- what a write leaves
pub record Writes (at : ℕ) (bytes : List ℕ) (old : DiskState) (sides : Sides DiskState) : Type 0 where
  pub done : Write at bytes true (disk_of old) (disk_of sides.done)
  pub unsettles : Unsettles at (length bytes) (disk_of old) (disk_of sides.done)
  pub failed : Write at bytes false (disk_of old) (disk_of sides.doubtful)
  pub both : MayWrite at bytes (disk_of old) (disk_of sides.doubtful)

-- what a sync leaves
pub record Syncs (old : DiskState) (sides : Sides DiskState) : Type 0 where
  pub done : Sync true (disk_of old) (disk_of sides.done)
  pub settles : Settled (disk_of old) (disk_of sides.done)
  pub failed : Sync false (disk_of old) (disk_of sides.doubtful)
  pub both : MaySync (disk_of old) (disk_of sides.doubtful)

-- what a clear leaves
pub record Clears (old : DiskState) (sides : Sides DiskState) : Type 0 where
  pub empty : sides.done.bytes.items ≡ []
  pub clean : (p : ℕ) → Firm (disk_of sides.done) p
  pub failed : Loosened (disk_of old) (disk_of sides.doubtful)
  pub both : MayClear (disk_of old) (disk_of sides.doubtful)

-- what a device holds and held
abbrev pub data_run : MemoryData → Run Disk
data_run device = run_of disk_of device.history

-- a crash may leave bytes
abbrev pub MayHold : Disk → Type 0
MayHold disk = (image : List ℕ) × IsImage disk image × (image ≢ [])

-- the places below a number that are settled lie below the other
abbrev pub FirmBelow : ℕ → List Place → ℕ → Type 0
FirmBelow count places len = (p : ℕ) → p < count → not_settled (place_of (place_at places p)) ≡ false → p < len

-- as many bytes, which are the same where their places are settled
pub record SameWhereFirm (places : List Place) (old new : List ℕ) : Type 0 where
  pub long : length new ≡ length old
  pub same : (p : ℕ) → not_settled (place_of (place_at places p)) ≡ false → slice_index new p ≡ slice_index old p
