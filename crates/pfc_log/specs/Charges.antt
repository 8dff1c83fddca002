-- What a log says of devices that failed.
use Rattle.std.specs.Prelude.{◌≡◌, ℕ, ◌+◌, ◌==◌, ◌&&◌, ◌||◌, not, Bool, true, false, if◌then◌else◌, List, [], ◌∷◌, ◌++◌, All}
use Rattle.pfc_log.specs.declared.entry.Entry.{Entry}
use Rattle.pfc_log.specs.declared.entry.Entry.TheVariants.{Direct, Dropped, Frozen}
use Rattle.pfc_log.specs.declared.entry.DropCause.{DropCause}
use Rattle.pfc_log.specs.declared.entry.DropCause.TheVariants.{There}
use Rattle.pfc_log.specs.declared.entry.Uncached.{Uncached}
use Rattle.pfc_log.specs.declared.entry.Uncached.TheVariants.{Volume}
use Rattle.pfc_log.specs.declared.start.Start.{Start}
use Rattle.pfc_log.specs.declared.start.Start.TheVariants as start
use Rattle.pfc_log.specs.Views.{times, is_frozen, is_device_way, durable}

-- the block was on disk already as it was to be written
abbrev pub is_there_cause : DropCause → Bool
is_there_cause There = true
is_there_cause _ = false

abbrev pub is_there : Entry → Bool
is_there (Dropped i why) = is_there_cause why
is_there _ = false

-- A read of block i that its store refuses has a failed call of its own, unless the store was frozen by then and the block
-- isn't durable: then the store refuses it without a call.
abbrev pub is_charged : Start → List Entry → ℕ → Bool
is_charged first es i = 0 == times is_frozen es || durable first i es

-- how many failed calls of devices an entry shows, behind these entries
abbrev pub charge : Start → List Entry → Entry → ℕ
charge first es Frozen = 1
charge first es (Direct i n why) = if is_device_way why && is_charged first es i then 1 else 0
charge first es _ = 0

abbrev pub charges_after : Start → List Entry → List Entry → ℕ
charges_after first before [] = 0
charges_after first before (e ∷ es) = charge first before e + charges_after first (before ++ e ∷ []) es

abbrev pub is_volume : Uncached → Bool
is_volume Volume = true
is_volume _ = false

-- the volume of a file that isn't cached for its sake couldn't be taken or opened
abbrev pub start_charge : Start → ℕ
start_charge (start.Stored set) = 0
start_charge (start.Uncached why) = if is_volume why then 1 else 0

-- how many failed calls of devices, or of the depot, a log shows
abbrev pub charges : Start → List Entry → ℕ
charges first es = start_charge first + charges_after first [] es

-- the entry shows no failed call, whatever stands before it, and no block that was to be written though it was on disk
abbrev pub is_calm : Entry → Bool
is_calm Frozen = false
is_calm (Direct i n why) = not (is_device_way why)
is_calm (Dropped i why) = not (is_there_cause why)
is_calm _ = true

-- the log grew by such entries alone
pub record GrowsCalmly (old new : List Entry) : Type 0 where
  pub more : List Entry
  pub is : new ≡ old ++ more
  pub calm : All (λ e. is_calm e ≡ true) more
