-- What a scan finds on the volumes of a depot, and how it leaves them. What is home is said by two tests for each path: whether a
-- list is an image of its data, and whether an absent or present list is one of its main file.
use Rattle.std.specs.Prelude.{◌≡◌, ◌↔◌, ◌⊎◌, ◌≤◌, ℕ, ◌&&◌, Bool, true, false, not, IsTrue, List, Option, Some, None, Contains, length, Result, Ok, Err}
use Rattle.std.specs.List.{count_by, list_any}
use Rattle.pfc_base.specs.Cinfo.{Cinfo, IsCinfo}
use Rattle.pfc_cinfo.specs.Cinfo.{claimed_bytes}
use Rattle.pfc_access.specs.Records.{last_use}
use Rattle.pfc_world.specs.Counts.{Rose}
use Rattle.pfc_world.specs.Depot.{AllSound, Fewer}
use Rattle.pfc_world.specs.Files.{Files}
use Rattle.pfc_store.specs.Claims.{Says}
use Rattle.pfc_store.specs.declared.broken.SurveyRefusal.{SurveyRefusal}
use Rattle.pfc_store.specs.declared.broken.SurveyRefusal.TheVariants as refused
use Rattle.pfc_store.specs.declared.found.Found.{Found}
use Rattle.pfc_store.specs.declared.found.Found.TheVariants.{Valid, Cleared}
use Rattle.pfc_base.specs.declared.memory.Memory.{Memory}
use Rattle.pfc_catalog.specs.declared.entry.Entry.{Entry}
use Rattle.pfc_catalog.specs.declared.entry.State.TheVariants.{Home}
use Rattle.pfc_catalog.specs.declared.scanning.Looked.{Looked}
use Rattle.pfc_catalog.specs.declared.scanning.Looked.TheVariants.{Out, Broken, Known}
use Rattle.pfc_catalog.specs.declared.scanning.ScanRefusal.{ScanRefusal}
use Rattle.pfc_catalog.specs.declared.scanning.ScanRefusal.TheVariants as refusal
use Rattle.pfc_catalog.specs.Entry.{known_entry}
use Rattle.pfc_catalog.specs.Files.{same_path}

-- ---- the depot

-- each volume that is home is sound
abbrev pub IsSoundAtHome : Bool → Bool → Files → (List ℕ → List ℕ → Type 0) → (List ℕ → Option (List ℕ) → Type 0) → Type 0
IsSoundAtHome told told_data files IsData IsMain = IsTrue told → IsTrue told_data → (path : List ℕ) → AllSound files path (IsData path) (IsMain path)

-- the same paths are out, and the counts of each are those with which it was taken
pub record StaysOut (out : List (List ℕ)) (lent : List ℕ → ℕ × ℕ) (new_out : List (List ℕ)) (new_lent : List ℕ → ℕ × ℕ) : Type 0 where
  pub same : (path : List ℕ) → Contains new_out path ↔ Contains out path
  pub count : length new_out ≡ length out
  pub lent_is : (path : List ℕ) → Contains out path → new_lent path ≡ lent path

-- each image of a main file was one before, or is absent
abbrev pub KeepsMains : (List ℕ → Option (List ℕ) → Type 0) → (List ℕ → Option (List ℕ) → Type 0) → Type 0
KeepsMains OldMain NewMain = (path : List ℕ) (main : Option (List ℕ)) → NewMain path main → OldMain path main ⊎ (main ≡ None)

-- each image of the main file is a cinfo
abbrev pub IsCached : (Option (List ℕ) → Type 0) → Type 0
IsCached IsMain = (main : Option (List ℕ)) → IsMain main → (c : Cinfo) × Says main c

-- where each image of a main file was a cinfo, no other has come, and no other image of its data
abbrev pub KeepsCached : (List ℕ → List ℕ → Type 0) → (List ℕ → Option (List ℕ) → Type 0) → (List ℕ → List ℕ → Type 0) → (List ℕ → Option (List ℕ) → Type 0) → Type 0
KeepsCached OldData OldMain NewData NewMain = (path : List ℕ) → IsCached (OldMain path) → Fewer (OldData path) (NewData path) × Fewer (OldMain path) (NewMain path)

-- ---- an entry

-- what an image of a main file says of usage and last access: both are 0 where there is none
abbrev pub Tells : Option (List ℕ) → ℕ → ℕ → Type 0
Tells None usage last = (usage ≡ 0) × (last ≡ 0)
Tells (Some bytes) usage last = (c : Cinfo) × IsCinfo bytes c × (usage ≡ claimed_bytes c) × (last ≡ last_use c.head.records)

-- The entry of a path: nobody holds the file; if its volume is out it is marked; a marked one has neither usage nor last access, and
-- one that isn't marked has those of its main file.
pub record IsFoundAs (tells : Bool) (IsMain : Option (List ℕ) → Type 0) (IsOut : Type 0) (e : Entry) : Type 0 where
  pub home : e.state ≡ Home
  pub away : IsOut → e.marked ≡ true
  pub marked : e.marked ≡ true → (e.usage ≡ 0) × (e.last ≡ 0)
  pub told : e.marked ≡ false → IsTrue tells → (main : Option (List ℕ)) → IsMain main → Tells main e.usage e.last

abbrev pub is_among : List (List ℕ) → List ℕ → Bool
is_among paths path = list_any (same_path path) paths

-- it is marked, and its volume isn't out
abbrev pub is_broken : List (List ℕ) → List ℕ × Entry → Bool
is_broken out f = f.1.marked && not (is_among out f.0)

-- how many files couldn't be read
abbrev pub broken_in : List (List ℕ) → List (List ℕ × Entry) → ℕ
broken_in out files = count_by (is_broken out) files

-- ---- causes

-- Fault only where a listing failed, which is counted
abbrev pub ScanCause : {T : Type 0} → ℕ → ℕ → Result T ScanRefusal → Type 0
ScanCause before after (Ok x) = after ≡ before
ScanCause before after (Err refusal.Fault) = (before ≤ after) × Rose before after
ScanCause before after (Err refusal.Memory) = after ≡ before

-- ---- a look at one volume

-- the entry of what was seen
abbrev pub entry_of : Looked → Entry
entry_of Out = known_entry 0 0 true
entry_of Broken = known_entry 0 0 true
entry_of (Known usage last) = known_entry usage last false

abbrev pub is_away : Looked → Bool
is_away Out = true
is_away Broken = false
is_away (Known usage last) = false

-- what is known is what each image of the main file says
abbrev pub Sees : (Option (List ℕ) → Type 0) → Looked → Type 0
Sees IsMain Out = Unit {0}
Sees IsMain Broken = Unit {0}
Sees IsMain (Known usage last) = (main : Option (List ℕ)) → IsMain main → Tells main usage last

-- the count never falls, and what couldn't be seen raised it
abbrev pub LookCause : ℕ → ℕ → Result Looked Memory → Type 0
LookCause before after (Ok Out) = before ≤ after
LookCause before after (Ok Broken) = (before ≤ after) × Rose before after
LookCause before after (Ok (Known usage last)) = before ≤ after
LookCause before after (Err memory) = before ≤ after

-- what a survey found, in short
abbrev pub Weighs : Result Found SurveyRefusal → Result Looked Memory → Type 0
Weighs (Ok (Valid c)) result = result ≡ Ok (Known (claimed_bytes c) (last_use c.head.records))
Weighs (Ok Cleared) result = result ≡ Ok (Known 0 0)
Weighs (Err (refused.Device broken)) result = result ≡ Ok Broken
Weighs (Err refused.Memory) result = (memory : Memory) × (result ≡ Err memory)
