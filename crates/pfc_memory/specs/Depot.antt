-- What the depot in memory has at home, and what is out of it.
use Rattle.std.specs.Prelude.{◌≡◌, ◌≢◌, ◌↔◌, ◌+◌, ◌<◌, ◌≤◌, ℕ, Bool, List, [], ◌∷◌, ◌==◌, Option, Some, None, if◌then◌else◌, map, filter, is_none, Contains, ⊤, IsFalse, length, take, drop, HoldsAt}
use Rattle.std.specs.List.{AllWithin}
use Rattle.std.specs.Cmp.Lexicographic.{pointwise, slice_cmp}
use Rattle.std.specs.Ordering.{nat_cmp}
use Rattle.std.specs.declared.cmp.Ordering.TheVariants.{Less, Greater}
use Rattle.pfc_world.specs.Depot.{HasVolume, Fewer, Gains, Loses}
use Rattle.pfc_world.specs.Disk.{IsImage, Firm}
use Rattle.pfc_world.specs.Info.{IsMain}
use Rattle.pfc_memory.specs.Data.{data_run}
use Rattle.pfc_memory.specs.Mains.{info_run}
use Rattle.pfc_memory.specs.Numbers.{fails_of, fuse_of}
use Rattle.pfc_memory.specs.declared.numbers.Numbers.{Numbers}
use Rattle.pfc_memory.specs.declared.history.DeviceCalls.{DeviceCalls}
use Rattle.pfc_memory.specs.declared.data.MemoryData.{MemoryData}
use Rattle.pfc_memory.specs.declared.info.MemoryInfo.{MemoryInfo}
use Rattle.pfc_memory.specs.declared.volume.Volume.{Volume}
use Rattle.pfc_memory.specs.declared.volume.Devices.{Devices}

-- the volume of this path
abbrev pub volume_of : List Volume → List ℕ → Option Volume
volume_of [] path = None
volume_of (volume ∷ volumes) path = if pointwise ◌==◌ path volume.path then Some volume else volume_of volumes path

-- the paths in their order
abbrev pub paths_of : List Volume → List (List ℕ)
paths_of volumes = map (λ volume. volume.path) volumes

-- the paths whose volumes are out
abbrev pub out_of : List Volume → List (List ℕ)
out_of volumes = paths_of (filter (λ volume. is_none volume.home) volumes)

-- the counts with which a path's volume was lent last
abbrev pub lent_of : Option Volume → ℕ × ℕ
lent_of None = (0, 0)
lent_of (Some volume) = volume.lent

-- the images of two devices that are home; where none are, there is no image
abbrev pub IsDataAt : Option Devices → List ℕ → Type 0
IsDataAt None image = ⊥
IsDataAt (Some devices) image = IsImage (data_run devices.data).now image

abbrev pub IsMainAt : Option Devices → Option (List ℕ) → Type 0
IsMainAt None main = ⊥
IsMainAt (Some devices) main = IsMain (info_run devices.info).now main

-- the images of a path's volume; one that was never there is empty, without a main file
abbrev pub IsDataOf : Option Volume → List ℕ → Type 0
IsDataOf None image = image ≡ []
IsDataOf (Some volume) image = IsDataAt volume.home image

abbrev pub IsMainOf : Option Volume → Option (List ℕ) → Type 0
IsMainOf None main = main ≡ None
IsMainOf (Some volume) main = IsMainAt volume.home main

-- for each path
abbrev pub data_home : List Volume → List ℕ → List ℕ → Type 0
data_home volumes path = IsDataOf (volume_of volumes path)

abbrev pub main_home : List Volume → List ℕ → Option (List ℕ) → Type 0
main_home volumes path = IsMainOf (volume_of volumes path)

-- what is empty has no image but the empty one
abbrev pub IsEmptied : (List ℕ → Type 0) → Type 0
IsEmptied IsData = (image : List ℕ) → IsData image ↔ (image ≡ [])

abbrev pub IsBare : (Option (List ℕ) → Type 0) → Type 0
IsBare IsMain = (main : Option (List ℕ)) → IsMain main ↔ (main ≡ None)

-- no call was made yet on a device, which has a share of this numbering
pub record IsFresh (numbers : Numbers) (calls : DeviceCalls) : Type 0 where
  pub fails : fails_of calls.numbers ≡ fails_of numbers
  pub fuse : fuse_of calls.numbers ≡ fuse_of numbers
  pub unburnt : IsFalse calls.burnt
  pub none : calls.faults ≡ 0

pub record AreFresh (numbers : Numbers) (devices : Devices) : Type 0 where
  pub of_data : IsFresh numbers devices.data.calls
  pub of_info : IsFresh numbers devices.info.calls

-- the path's own devices, or fresh ones where it has none
abbrev pub Gives : Numbers → Option Volume → MemoryData → MemoryInfo → Type 0
Gives numbers None first second = AreFresh numbers (record { «data» = first; info = second })
Gives numbers (Some volume) first second = volume.home ≡ Some (record { «data» = first; info = second })

-- the same devices without their histories
pub record IsForgot (first : MemoryData) (second : MemoryInfo) (devices : Devices) : Type 0 where
  pub data_past : (data_run devices.data).past ≡ []
  pub info_past : (info_run devices.info).past ≡ []
  pub data_calls : devices.data.calls ≡ first.calls
  pub info_calls : devices.info.calls ≡ second.calls
  pub data_now : (data_run devices.data).now ≡ (data_run first).now
  pub info_now : (info_run devices.info).now ≡ (info_run second).now

-- a path's volume is home and has these devices, without their histories
abbrev pub IsKeptAt : Option Devices → MemoryData → MemoryInfo → Type 0
IsKeptAt None first second = ⊥
IsKeptAt (Some devices) first second = IsForgot first second devices

abbrev pub IsKept : Option Volume → MemoryData → MemoryInfo → Type 0
IsKept None first second = ⊥
IsKept (Some volume) first second = IsKeptAt volume.home first second

-- ---- places among the volumes

-- the path's volume stands there and nowhere else
pub record IsPlaceOf (volumes : List Volume) (path : List ℕ) (at : ℕ) : Type 0 where
  pub within : at < length volumes
  pub here : HoldsAt (λ volume. volume.path ≡ path) volumes at
  pub before : volume_of (take at volumes) path ≡ None
  pub after : volume_of (drop (at + 1) volumes) path ≡ None

-- the path has no volume; it comes after those below and before the others
pub record IsGapFor (volumes : List Volume) (path : List ℕ) (at : ℕ) : Type 0 where
  pub within : at ≤ length volumes
  pub below : AllWithin (λ volume. slice_cmp nat_cmp volume.path path ≡ Less) volumes 0 at
  pub above : AllWithin (λ volume. slice_cmp nat_cmp volume.path path ≡ Greater) volumes at (length volumes)

-- these are the paths of the volumes of which a crash may leave something
abbrev pub Lists : List Volume → List (List ℕ) → Type 0
Lists volumes paths = (path : List ℕ) → Contains paths path ↔ HasVolume (data_home volumes path) (main_home volumes path)

-- ---- lending

abbrev pub SameBut : List ℕ → List Volume → List Volume → Type 0
SameBut path old new = (other : List ℕ) → other ≢ path → volume_of new other ≡ volume_of old other

-- the path's volume is given away
pub record Lends (path : List ℕ) (old new : List Volume) (first : MemoryData) (second : MemoryInfo) : Type 0 where
  pub was_data : Fewer (data_home old path) (IsImage (data_run first).now)
  pub was_main : Fewer (main_home old path) (IsMain (info_run second).now)
  pub away : volume_of new path ≡ Some (record { path = path; home = None; lent = (first.calls.faults, second.calls.faults) })
  pub elsewhere : SameBut path old new
  pub out : Gains path (out_of old) (out_of new)

-- it comes home, without its history
pub record Returns (path : List ℕ) (old new : List Volume) (first : MemoryData) (second : MemoryInfo) : Type 0 where
  pub home_data : (image : List ℕ) → data_home new path image ↔ IsImage (data_run first).now image
  pub home_main : (main : Option (List ℕ)) → main_home new path main ↔ IsMain (info_run second).now main
  pub kept : IsKept (volume_of new path) first second
  pub elsewhere : SameBut path old new
  pub out : Loses path (out_of old) (out_of new)

-- ---- crashes

-- exactly one is left of those before
pub record LeavesOne {X : Type 0} (Old New : X → Type 0) : Type 0 where
  pub left : X
  pub before : Old left
  pub one : (other : X) → New other ↔ (other ≡ left)

-- what a crash leaves of two devices
pub record IsLeftOf (numbers : Numbers) (old new : Devices) : Type 0 where
  pub fresh : AreFresh numbers new
  pub left_data : LeavesOne (IsDataAt (Some old)) (IsDataAt (Some new))
  pub left_main : LeavesOne (IsMainAt (Some old)) (IsMainAt (Some new))

abbrev pub IsHomeLeftOf : Numbers → Option Devices → Option Devices → Type 0
IsHomeLeftOf numbers None None = ⊤
IsHomeLeftOf numbers None (Some new) = ⊥
IsHomeLeftOf numbers (Some old) None = ⊥
IsHomeLeftOf numbers (Some old) (Some new) = IsLeftOf numbers old new

pub record IsVolumeLeftOf (numbers : Numbers) (old new : Volume) : Type 0 where
  pub path : new.path ≡ old.path
  pub lent : new.lent ≡ old.lent
  pub home : IsHomeLeftOf numbers old.home new.home

-- a path's images before, and the one that is left
pub record IsLeftAt (path : List ℕ) (old new : List Volume) : Type 0 where
  pub at_data : LeavesOne (data_home old path) (data_home new path)
  pub at_main : LeavesOne (main_home old path) (main_home new path)

-- the devices of a path's volume, if they are home, are fresh
abbrev pub AreFreshAt : Numbers → Option Devices → Type 0
AreFreshAt numbers None = ⊤
AreFreshAt numbers (Some devices) = AreFresh numbers devices

abbrev pub HasFresh : Numbers → Option Volume → Type 0
HasFresh numbers None = ⊤
HasFresh numbers (Some volume) = AreFreshAt numbers volume.home
