-- What a wipe leaves of a volume, and what holds at every moment of it.
use Rattle.std.specs.Prelude.{◌≡◌, ℕ, Bool, false, List, IsTrue}
use Rattle.pfc_world.specs.Counts.{Rose}
use Rattle.pfc_world.specs.Disk.{Disk, Clear}
use Rattle.pfc_world.specs.Files.{Files}
use Rattle.pfc_world.specs.Info.{Info}
use Rattle.pfc_world.specs.Run.{Run}
use Rattle.pfc_store.specs.Moments.{SoundSince}
use Rattle.pfc_store.specs.Volume.{IsGone}
use Rattle.pfc_purge.specs.declared.wiped.Wiped.{Wiped}

-- the main file couldn't be taken away, and the data was left alone
pub record StripFails {D I : Type 0} (faults : I → ℕ) (first : D) (second : I) (wiped : Wiped D I) : Type 0 where
  pub rose : Rose (faults second) (faults wiped.second)
  pub same : wiped.first ≡ first

-- the main file is gone, and the data couldn't be cleared
pub record ClearFails {D I : Type 0} (tells_data tells_info : Bool) (data_run : D → Run Disk) (info_run : I → Run Info) (faults : D → ℕ) (first : D) (wiped : Wiped D I) : Type 0 where
  pub rose : Rose (faults first) (faults wiped.first)
  pub gone : IsTrue tells_info → IsGone (info_run wiped.second).now
  pub clears : IsTrue tells_data → Clear false (data_run first) (data_run wiped.first)

-- Each pair of images is sound, each of the two at a moment of its own: while the main file is taken away, with the data
-- as it was; and once that is done, with whatever becomes of the data.
pub record SoundInTurn (files : Files) (path : List ℕ) (disk disk_now : Run Disk) (info info_now : Run Info) : Type 0 where
  pub stripping : SoundSince files path disk disk info info_now
  pub clearing : SoundSince files path disk disk_now info_now info_now
