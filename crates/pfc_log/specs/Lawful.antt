-- Which logs are lawful: each entry may stand after the entries before it.
use Rattle.std.specs.Prelude.{◌≡◌, ℕ, ◌+◌, ◌<◌, ◌≤◌, ◌⊎◌, ⊤, true, IsTrue, IsFalse, List, take, length, slice_get, Some, IfSome}
use Rattle.pfc_log.specs.declared.entry.Entry.{Entry}
use Rattle.pfc_log.specs.declared.entry.Entry.TheVariants.{Opened, Closed, Begin, Join, Hit, Direct, Landed, Failed, Dropped, Wrote, Left, Synced, Claimed, Frozen, WrittenOff, Served}
use Rattle.pfc_log.specs.declared.entry.Spot.{Spot}
use Rattle.pfc_log.specs.declared.entry.Spot.TheVariants.{Ram, Disk}
use Rattle.pfc_log.specs.declared.entry.Way.{Way}
use Rattle.pfc_log.specs.declared.entry.Way.TheVariants as way
use Rattle.pfc_log.specs.declared.entry.DropCause.{DropCause}
use Rattle.pfc_log.specs.declared.entry.DropCause.TheVariants as cause
use Rattle.pfc_log.specs.declared.entry.Uncached.{Uncached}
use Rattle.pfc_log.specs.declared.entry.Uncached.TheVariants.{Strayed}
use Rattle.pfc_log.specs.declared.start.Start.{Start}
use Rattle.pfc_log.specs.declared.start.Start.TheVariants as start
use Rattle.pfc_log.specs.Owners.{owner, is_client}
use Rattle.pfc_log.specs.Views.{Away, Flying, Here, place, is_here, IsFlying, times, is_asked, is_lost, is_failed, is_device, is_disk_hit, is_frozen, is_written_off, opened, closed, begins, durable, stored, count_below, bound, last_claim}

-- the log starts with a store
abbrev pub IsCached : Start → Type 0
IsCached (start.Stored set) = ⊤
IsCached (start.Uncached why) = ⊥

-- no `frozen` stands
abbrev pub IsUnfrozen : List Entry → Type 0
IsUnfrozen es = times is_frozen es ≡ 0

-- no `written_off` stands
abbrev pub IsOn : List Entry → Type 0
IsOn es = times is_written_off es ≡ 0

-- the file is uncached for this cause: from the start, or since its store was written off after a strayed loan
abbrev pub IsUncached : Start → List Entry → Uncached → Type 0
IsUncached first es (Strayed who) = (first ≡ start.Uncached (Strayed who)) ⊎ (0 < times is_written_off es)
IsUncached first es why = first ≡ start.Uncached why

-- flight t of block i failed client n: it failed, another client had begun it, and the client has read less often from the
-- origin for that than it asked
pub record IsLost (es : List Entry) (i n t : ℕ) : Type 0 where
  pub failed : 0 < times (is_failed t) es
  pub fewer : times (is_lost i n t) es < times (is_asked i n t) es
  pub other : IsFalse (is_client n (owner t es))

-- Client n may read block i from the origin, by the cause: the budget had no room for the block; a flight of another client
-- for which the client waited failed; a block that the client found on disk couldn't be read, and it has read less often
-- for that than it found it; the file is uncached.
abbrev pub GoesDirect : Start → List Entry → ℕ → ℕ → Way → Type 0
GoesDirect first es i n (way.Full found want limit) = IsCached first × (limit < found + want)
GoesDirect first es i n (way.Lost t) = IsLost es i n t
GoesDirect first es i n way.Device = times (is_device i n) es < times (is_disk_hit i n) es
GoesDirect first es i n (way.Uncached why) = IsUncached first es why

abbrev pub MayDrop : List Entry → DropCause → Type 0
MayDrop es cause.Frozen = 0 < times is_frozen es + times is_written_off es
MayDrop es (cause.Full capacity) = ⊤
MayDrop es cause.There = ⊤

-- block i is found in memory, or else on disk
abbrev pub IsHit : Start → List Entry → ℕ → Spot → Type 0
IsHit first es i Ram = IsTrue (is_here (place i es))
IsHit first es i Disk = IsTrue (stored first i es) × IsFalse (is_here (place i es))

-- a flight of block i may begin, as number t: the block is the file's, not on disk, not in memory and not in flight
pub record MayBegin (first : Start) (es : List Entry) (t i : ℕ) : Type 0 where
  pub cached : IsCached first
  pub on : IsOn es
  pub within : i < bound first
  pub absent : IsFalse (stored first i es)
  pub away : place i es ≡ Away
  pub number : t ≡ begins es

-- block i may be written: it is in memory and not on disk, and the store is neither frozen nor written off
pub record MayWrite (first : Start) (es : List Entry) (i : ℕ) : Type 0 where
  pub here : IsTrue (is_here (place i es))
  pub absent : IsFalse (stored first i es)
  pub unfrozen : IsUnfrozen es
  pub on : IsOn es

-- the store is there, neither frozen nor written off
pub record IsWorking (first : Start) (es : List Entry) : Type 0 where
  pub cached : IsCached first
  pub unfrozen : IsUnfrozen es
  pub on : IsOn es

-- a cinfo may claim c blocks: they are those that were durable at place p, which isn't before that of an earlier claim
pub record MayClaim (first : Start) (es : List Entry) (p c : ℕ) : Type 0 where
  pub working : IsWorking first es
  pub past : p ≤ length es
  pub later : IfSome (last_claim es) (λ q. q ≤ p)
  pub number : c ≡ count_below (λ i. durable first i (take p es)) (bound first)

-- whether the entry may stand after those
abbrev pub Row : Start → List Entry → Entry → Type 0
Row first es (Opened n) = ⊤
Row first es (Closed n) = closed n es < opened n es
Row first es (Begin t i n) = MayBegin first es t i
Row first es (Join t i n) = IsOn es × ((m : ℕ) × (place i es ≡ Flying t m))
Row first es (Hit i spot n) = IsOn es × IsHit first es i spot
Row first es (Direct i n why) = GoesDirect first es i n why
Row first es (Landed t) = IsFlying t es
Row first es (Failed t why) = IsFlying t es
Row first es (Dropped i why) = IsTrue (is_here (place i es)) × MayDrop es why
Row first es (Wrote i) = MayWrite first es i
Row first es (Left i) = (t : ℕ) × (place i es ≡ Here t true)
Row first es Synced = IsWorking first es
Row first es (Claimed p c) = MayClaim first es p c
Row first es Frozen = IsWorking first es
Row first es WrittenOff = IsCached first × IsOn es
Row first es (Served n served) = ⊤

-- each entry may stand after the entries before it
pub record Lawful (first : Start) (es : List Entry) : Type 0 where
  pub rows : (p : ℕ) (e : Entry) → slice_get es p ≡ Some e → Row first (take p es) e

-- lawful, with nothing in flight or in memory at the end, and each client has closed as often as it opened
pub record IsComplete (first : Start) (es : List Entry) : Type 0 where
  pub lawful : Lawful first es
  pub empty : (i : ℕ) → place i es ≡ Away
  pub shut : (n : ℕ) → closed n es ≡ opened n es
