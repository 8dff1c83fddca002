-- An info device in memory as a crash sees it, and what each of its calls leaves, done or failed.
use Rattle.std.specs.Prelude.{◌≡◌, ◌⊎◌, ℕ, Any, Bool, true, false, List, [], ◌∷◌, ◌++◌, Option, Some, None, map, Vec, IsSome, Result, Ok, Err, ◌↔◌, if◌then◌else◌, ⊤}
use Rattle.std.specs.declared.alloc.Global.{Global}
use Rattle.pfc_world.specs.Run.{Run}
use Rattle.pfc_world.specs.Info.{Info, IsMain, bytes_of, WriteTemp, SyncTemp, Rename, Remove, Settle}
use Rattle.pfc_world.specs.Info as info
use Rattle.pfc_world.specs.Counts.{add_count}
use Rattle.pfc_world.specs.declared.refusal.Refusal.{Refusal}
use Rattle.pfc_world.specs.declared.refusal.Refusal.TheVariants as refusal
use Rattle.pfc_memory.specs.declared.main_file.Temporary.{Temporary}
use Rattle.pfc_memory.specs.declared.main_file.Temporary.TheVariants.{Ragged, Whole, Stable}
use Rattle.pfc_memory.specs.declared.main_file.MainState.{MainState}
use Rattle.pfc_memory.specs.declared.numbers.Turn.TheVariants.{Passes}
use Rattle.pfc_memory.specs.declared.history.DeviceCalls.{DeviceCalls}
use Rattle.pfc_memory.specs.declared.history.Sides.{Sides}
use Rattle.pfc_memory.specs.declared.info.MemoryInfo.{MemoryInfo}
use Rattle.pfc_memory.specs.History.{run_of, turn_between, burnt_after}

abbrev pub temporary_of : Temporary → info.Temporary
temporary_of Ragged = info.ragged
temporary_of (Whole bytes) = info.whole bytes.items
temporary_of (Stable bytes) = info.stable bytes.items

abbrev pub mains_of : List (Option (Vec ℕ Global)) → List (Option (List ℕ))
mains_of mains = map bytes_of mains

abbrev pub info_of : MainState → Info
info_of state = record {
  shown = bytes_of state.shown;
  others = mains_of state.others.items;
  torn = state.torn;
  temporary = temporary_of state.temporary;
  settled = state.settled;
}

-- a main file of which a crash leaves what reads, or anything if it may be torn
abbrev pub certain_of : Option (List ℕ) → Bool → info.Temporary → Info
certain_of shown torn temporary = record { shown = shown; others = []; torn = torn; temporary = temporary; settled = true }

-- another main file, of which a crash may leave the old one too
abbrev pub uncertain_of : Info → Option (List ℕ) → Bool → info.Temporary → Info
uncertain_of old shown torn temporary = record { shown = shown; others = old.others ++ old.shown ∷ []; torn = torn; temporary = temporary; settled = false }

-- a temporary that a crash leaves as it is
abbrev pub is_stable : info.Temporary → Bool
is_stable info.ragged = false
is_stable (info.whole bytes) = false
is_stable (info.stable bytes) = true

-- what a device holds and held
abbrev pub info_run : MemoryInfo → Run Info
info_run device = run_of info_of device.history

-- each main file that a crash could leave, it may leave still
abbrev pub KeepsMains : Info → Info → Type 0
KeepsMains old new = (main : Option (List ℕ)) → IsMain old main → IsMain new main

-- these may be the bytes of the temporary
abbrev pub MayBe : info.Temporary → List ℕ → Type 0
MayBe info.ragged bytes = ⊤
MayBe (info.whole other) bytes = ⊤
MayBe (info.stable other) bytes = bytes ≡ other

-- a crash may leave a main file with the temporary's bytes
abbrev pub Brings : Info → Info → Type 0
Brings old new = (bytes : List ℕ) → MayBe old.temporary bytes → IsMain new (Some bytes)

-- the temporary may hold anything, and the main file stays as it was
pub record MaySpoilTemp (old new : Info) : Type 0 where
  pub keeps : KeepsMains old new
  pub spoilt : new.temporary ≡ info.ragged

-- a crash may leave each main file that it could leave before, and one with the temporary's bytes
pub record MayRename (old new : Info) : Type 0 where
  pub keeps : KeepsMains old new
  pub brings : Brings old new
  pub unsettled : new.settled ≡ false

-- a crash may leave each main file that it could leave before, and none
pub record MayRemove (old new : Info) : Type 0 where
  pub keeps : KeepsMains old new
  pub none : IsMain new None
  pub unsettled : new.settled ≡ false

-- the temporary after a sync
abbrev pub Synced : Temporary → Temporary → Type 0
Synced old new = (bytes : List ℕ) → temporary_of old ≡ info.whole bytes → temporary_of new ≡ info.stable bytes

-- what a stable temporary brings
abbrev pub Brought : Temporary → List ℕ → Type 0
Brought temporary bytes = (other : List ℕ) → temporary_of temporary ≡ info.stable other → bytes ≡ other

pub record WritesTemp (bytes : List ℕ) (old : MainState) (sides : Sides MainState) : Type 0 where
  pub done : WriteTemp bytes true (info_of old) (info_of sides.done)
  pub keeps : KeepsMains (info_of old) (info_of sides.done)
  pub failed : WriteTemp bytes false (info_of old) (info_of sides.doubtful)
  pub both : MaySpoilTemp (info_of old) (info_of sides.doubtful)

pub record SyncsTemp (old : MainState) (sides : Sides MainState) : Type 0 where
  pub done : SyncTemp true (info_of old) (info_of sides.done)
  pub keeps : KeepsMains (info_of old) (info_of sides.done)
  pub failed : SyncTemp false (info_of old) (info_of sides.doubtful)
  pub both : MaySpoilTemp (info_of old) (info_of sides.doubtful)

pub record Renames (old : MainState) (sides : Sides MainState) : Type 0 where
  pub done : Rename true (info_of old) (info_of sides.done)
  pub brings : Brings (info_of old) (info_of sides.done)
  pub failed : Rename false (info_of old) (info_of sides.doubtful)
  pub both : MayRename (info_of old) (info_of sides.doubtful)

pub record Removes (old : MainState) (sides : Sides MainState) : Type 0 where
  pub done : Remove true (info_of old) (info_of sides.done)
  pub failed : Remove false (info_of old) (info_of sides.doubtful)
  pub both : MayRemove (info_of old) (info_of sides.doubtful)

pub record Settles (old : MainState) (sides : Sides MainState) : Type 0 where
  pub done : Settle true (info_of old) (info_of sides.done)
  pub failed : Settle false (info_of old) (info_of sides.doubtful)
  pub both : KeepsMains (info_of old) (info_of sides.doubtful)

-- a crash may leave a main file
abbrev pub MayHaveMain : Info → Type 0
MayHaveMain state = (main : Option (List ℕ)) × IsMain state main × IsSome main

-- it is the answer of a call that failed
abbrev pub is_fault : {T : Type 0} → Result T Refusal → Bool
is_fault (Ok x) = false
is_fault (Err refusal.Fault) = true
is_fault (Err refusal.Memory) = false

-- One read of a main file, which is made in any case: it fails, and counts a fault, exactly where its number doesn't pass.
pub record CountsRead {T : Type 0} (old new : DeviceCalls) (result : Result T Refusal) : Type 0 where
  pub numbers : new.numbers ≡ old.numbers
  pub burnt : new.burnt ≡ burnt_after old new.last
  pub made : IsSome new.last
  pub faults : new.faults ≡ (if is_fault result then add_count old.faults 1 else old.faults)
  pub exactly : (is_fault result ≡ false) ↔ (turn_between old new ≡ Some Passes)

-- it is this main file, or one of these
abbrev pub Among : Option (List ℕ) → List (Option (List ℕ)) → Option (List ℕ) → Type 0
Among shown others main = (main ≡ shown) ⊎ Any (λ other. main ≡ other) others

-- the first of these, or the one that reads where there is no other
abbrev pub oldest_of : Option (List ℕ) → List (Option (List ℕ)) → Option (List ℕ)
oldest_of shown [] = shown
oldest_of shown (other ∷ others) = other
