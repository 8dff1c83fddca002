-- What the calls on a volume do that isn't open: both devices of a path, settled, read, emptied.
use Rattle.std.specs.Prelude.{◌≡◌, ◌≤◌, ◌⊎◌, ℕ, Bool, true, false, List, Option, None, Result, Ok, Err, IsTrue, MatchOption}
use Rattle.pfc_base.specs.Cinfo.{Cinfo}
use Rattle.pfc_world.specs.Counts.{Rose}
use Rattle.pfc_world.specs.Run.{Run, Throughout}
use Rattle.pfc_world.specs.Disk.{Disk, IsImage, Clear}
use Rattle.pfc_world.specs.Info.{Info, IsMain, FewerMains}
use Rattle.pfc_store.specs.declared.broken.Broken.{Broken}
use Rattle.pfc_store.specs.declared.broken.SurveyRefusal.{SurveyRefusal}
use Rattle.pfc_store.specs.declared.broken.SurveyRefusal.TheVariants.{Device, Memory}
use Rattle.pfc_store.specs.declared.bare.Stripped.{Stripped}
use Rattle.pfc_store.specs.declared.found.Found.{Found}
use Rattle.pfc_store.specs.declared.found.Found.TheVariants.{Valid, Cleared}
use Rattle.pfc_store.specs.Claims.{Says, Replaces}
use Rattle.pfc_store.specs.Views.{BareView}

-- at each moment from old to new, an image was one before
abbrev pub KeepsImages : Run Disk → Run Disk → Type 0
KeepsImages old new = Throughout (λ disk. (image : List ℕ) → IsImage disk image → IsImage old.now image) old new

-- at each moment a main file was one before
abbrev pub KeepsMains : Run Info → Run Info → Type 0
KeepsMains old new = Throughout (λ info. FewerMains old.now info) old new

-- at each moment a main file was one before or is absent
abbrev pub TakesMain : Run Info → Run Info → Type 0
TakesMain old new = Replaces None old new

-- a crash leaves no main file
abbrev pub IsGone : Info → Type 0
IsGone info = (main : Option (List ℕ)) → IsMain info main → main ≡ None

-- the main file is there and is no cinfo, or isn't there
abbrev pub SaysNothing : Option (List ℕ) → Type 0
SaysNothing main = (c : Cinfo) → ¬ Says main c

-- the counts of the device before and after one of the calls on it, the last, which rose in that call
pub record BreaksIn (before after : ℕ) (broken : Broken) : Type 0 where
  pub later : before ≤ broken.before
  pub after_is : broken.after ≡ after
  pub rose : Rose broken.before broken.after

-- a count never falls, and a failure came only where it rose
abbrev pub BreaksAt : {T : Type 0} → ℕ → ℕ → Result T Broken → Type 0
BreaksAt before after (Ok x) = before ≤ after
BreaksAt before after (Err broken) = (before ≤ after) × BreaksIn before after broken

abbrev pub RefusedAt : {T : Type 0} → ℕ → ℕ → Result T SurveyRefusal → Type 0
RefusedAt before after (Ok x) = before ≤ after
RefusedAt before after (Err (Device broken)) = (before ≤ after) × BreaksIn before after broken
RefusedAt before after (Err Memory) = before ≤ after

-- ---- stripping and surveying

-- the devices that come back
abbrev pub pair_of : {D I : Type 0} → Result (BareView D I) (Stripped D I) → D × I
pair_of (Ok bare) = (bare.first, bare.second)
pair_of (Err stripped) = (stripped.first, stripped.second)

-- what was shown is the only main file, and this is what it says
abbrev pub Judges : Option (List ℕ) → Info → Option Cinfo → Type 0
Judges shown info found = ((main : Option (List ℕ)) → IsMain info main → main ≡ shown) × (info.shown ≡ shown) × MatchOption found (SaysNothing shown) (λ c. Says shown c)

-- a valid main file stays and is the only one; one that is no cinfo is gone
abbrev pub Finds : Option (List ℕ) → Info → Found → Type 0
Finds shown info (Valid c) = Says shown c × ((main : Option (List ℕ)) → IsMain info main → main ≡ shown)
Finds shown info Cleared = SaysNothing shown × IsGone info

-- the data is cleared, unless it wasn't touched
abbrev pub EmptiesData : {D : Type 0} → Bool → (D → Run Disk) → D → Result Unit Broken → D → Type 0
EmptiesData tells run old (Ok u) new = IsTrue tells → Clear true (run old) (run new)
EmptiesData tells run old (Err broken) new = (new ≡ old) ⊎ (IsTrue tells → Clear false (run old) (run new))

-- What becomes of the data. No call is made on its device but to clear it.
abbrev pub SurveysData : {D : Type 0} → Bool → (D → Run Disk) → D → Result Found SurveyRefusal → D → Type 0
SurveysData tells run old (Ok (Valid c)) new = new ≡ old
SurveysData tells run old (Ok Cleared) new = IsTrue tells → Clear true (run old) (run new)
SurveysData tells run old (Err (Device broken)) new = (new ≡ old) ⊎ (IsTrue tells → Clear false (run old) (run new))
SurveysData tells run old (Err Memory) new = new ≡ old

-- counts never fall, and a failure came only where that of one device rose
abbrev pub SurveyCause : {T : Type 0} → ℕ → ℕ → ℕ → ℕ → Result T SurveyRefusal → Type 0
SurveyCause first first_now second second_now (Ok x) = (first ≤ first_now) × (second ≤ second_now)
SurveyCause first first_now second second_now (Err (Device broken)) = (first ≤ first_now) × (second ≤ second_now) × (BreaksIn first first_now broken ⊎ BreaksIn second second_now broken)
SurveyCause first first_now second second_now (Err Memory) = (first ≤ first_now) × (second ≤ second_now)

abbrev pub EmptyCause : {T : Type 0} → ℕ → ℕ → ℕ → ℕ → Result T Broken → Type 0
EmptyCause first first_now second second_now (Ok x) = (first ≤ first_now) × (second ≤ second_now)
EmptyCause first first_now second second_now (Err broken) = (first ≤ first_now) × (second ≤ second_now) × (BreaksIn first first_now broken ⊎ BreaksIn second second_now broken)
