-- What a depot has at home, what is out of it, and what a call changes of that. What is home is said by two tests for
-- each path: whether a list is an image of its data device, and whether an absent or present list is one of its main
-- file.
use Rattle.std.specs.Prelude.{◌≡◌, ◌≢◌, ◌⊎◌, ◌↔◌, ◌≤◌, ◌+◌, ℕ, suc, Bool, true, false, List, [], Option, Some, Contains, AllPairs, IsSome, length, Result, Ok, Err}
use Rattle.std.specs.Ordering.{nat_cmp}
use Rattle.std.specs.Cmp.Lexicographic.{slice_cmp}
use Rattle.std.specs.declared.cmp.Ordering.TheVariants.{Less}
use Rattle.pfc_base.specs.Cinfo.{IsSound}
use Rattle.pfc_world.specs.Counts.{Rose, rise}
use Rattle.pfc_world.specs.Files.{Files, file_at}
use Rattle.pfc_world.specs.declared.depot.Taken.{Taken}
use Rattle.pfc_world.specs.declared.depot.Taken.TheVariants.{Volume, Out, Fault, Memory}
use Rattle.pfc_world.specs.declared.refusal.Refusal.{Refusal}
use Rattle.pfc_world.specs.declared.refusal.Refusal.TheVariants as refusal

-- Each pair of images is sound for the path's file. Of a path that the origin doesn't have, each is.
abbrev pub AllSound : Files → List ℕ → (List ℕ → Type 0) → (Option (List ℕ) → Type 0) → Type 0
AllSound files path IsData IsMain =
    (file : List ℕ) → file_at files path ≡ Some file → (image : List ℕ) (main : Option (List ℕ)) → IsData image → IsMain main → IsSound image main file

-- ---- tests before and after

abbrev pub Fewer : {X : Type 0} → (X → Type 0) → (X → Type 0) → Type 0
Fewer Old New = (x : _) → New x → Old x

abbrev pub Same : {X : Type 0} → (X → Type 0) → (X → Type 0) → Type 0
Same Old New = (x : _) → New x ↔ Old x

abbrev pub Nothing : {X : Type 0} → (X → Type 0) → Type 0
Nothing P = (x : _) → ¬ P x

-- each image at home was one before
abbrev pub FewerAtHome : (List ℕ → List ℕ → Type 0) → (List ℕ → Option (List ℕ) → Type 0) → (List ℕ → List ℕ → Type 0) → (List ℕ → Option (List ℕ) → Type 0) → Type 0
FewerAtHome OldData OldMain NewData NewMain = (path : List ℕ) → Fewer (OldData path) (NewData path) × Fewer (OldMain path) (NewMain path)

-- every other path is as it was
abbrev pub SameElsewhere : List ℕ → (List ℕ → List ℕ → Type 0) → (List ℕ → Option (List ℕ) → Type 0) → (List ℕ → List ℕ → Type 0) → (List ℕ → Option (List ℕ) → Type 0) → Type 0
SameElsewhere path OldData OldMain NewData NewMain = (other : List ℕ) → other ≢ path → Same (OldData other) (NewData other) × Same (OldMain other) (NewMain other)

-- ---- the list of paths

-- a crash may leave a data file that isn't empty, or a main file
abbrev pub HasVolume : (List ℕ → Type 0) → (Option (List ℕ) → Type 0) → Type 0
HasVolume IsData IsMain = ((image : List ℕ) × IsData image × (image ≢ [])) ⊎ ((main : Option (List ℕ)) × IsMain main × IsSome main)

-- each once, in the order of their bytes
abbrev pub InByteOrder : List (List ℕ) → Type 0
InByteOrder paths = AllPairs (λ low high. slice_cmp nat_cmp low high ≡ Less) paths

-- a count of the calls that failed: it rises with each and stands still else
abbrev pub CountsFaults : {T : Type 0} → ℕ → ℕ → Result T Refusal → Type 0
CountsFaults before after (Ok x) = after ≡ before
CountsFaults before after (Err refusal.Fault) = (before ≤ after) × Rose before after
CountsFaults before after (Err refusal.Memory) = after ≡ before

-- ---- what is out

-- the path is one more
pub record Gains (path : List ℕ) (old new : List (List ℕ)) : Type 0 where
  pub here : Contains new path
  pub others : (other : List ℕ) → other ≢ path → Contains new other ↔ Contains old other
  pub count : length new ≡ suc (length old)

-- the path is one less
pub record Loses (path : List ℕ) (old new : List (List ℕ)) : Type 0 where
  pub gone : ¬ Contains new path
  pub others : (other : List ℕ) → other ≢ path → Contains new other ↔ Contains old other
  pub count : length old ≡ suc (length new)

-- how far two counts rose since they were these
abbrev pub risen : ℕ × ℕ → ℕ → ℕ → ℕ
risen before first second = rise before.0 first + rise before.1 second

-- ---- what take answers

abbrev pub IfVolume : {D I : Type 0} → Taken D I → (D → I → Type 0) → Type 0
IfVolume (Volume first second) P = P first second
IfVolume Out P = Unit {0}
IfVolume Fault P = Unit {0}
IfVolume Memory P = Unit {0}

abbrev pub UnlessVolume : {D I : Type 0} → Taken D I → Type 0 → Type 0
UnlessVolume (Volume first second) P = Unit {0}
UnlessVolume Out P = P
UnlessVolume Fault P = P
UnlessVolume Memory P = P

abbrev pub is_out : {D I : Type 0} → Taken D I → Bool
is_out (Volume first second) = false
is_out Out = true
is_out Fault = false
is_out Memory = false

-- a fault comes only where the count rose, and the count never falls
abbrev pub TakenCause : {D I : Type 0} → ℕ → ℕ → Taken D I → Type 0
TakenCause before after (Volume first second) = before ≤ after
TakenCause before after Out = before ≤ after
TakenCause before after Fault = (before ≤ after) × Rose before after
TakenCause before after Memory = before ≤ after
