-- What holds at every moment of a call on a store, whatever a crash in it leaves.
use Rattle.std.specs.Prelude.{Bool, List, ℕ, IsTrue}
use Rattle.pfc_world.specs.Files.{Files}
use Rattle.pfc_world.specs.Run.{Run, moment}
use Rattle.pfc_world.specs.Disk.{Disk, ImageSince}
use Rattle.pfc_world.specs.Info.{Info, MainSince}
use Rattle.pfc_world.specs.Depot.{AllSound}
use Rattle.pfc_store.specs.Blocks.{OfFile, SolidSince}
use Rattle.pfc_store.specs.Claims.{WithinSince}
use Rattle.pfc_store.specs.Views.{StoreView}

-- each pair of images since the call's start is sound, each of the two at a moment of its own
abbrev pub SoundSince : Files → List ℕ → Run Disk → Run Disk → Run Info → Run Info → Type 0
SoundSince files path disk disk_now info info_now = AllSound files path (ImageSince disk_now (moment disk)) (MainSince info_now (moment info))

-- The data has each block that was durable before; a main file claims what was claimed before and nothing that wasn't
-- durable; and so each pair is sound.
pub record StaysSound {D I : Type 0} (told : Bool) (files : Files) (tells_data tells_info : Bool) (data_run : D → Run Disk) (info_run : I → Run Info) (old new : StoreView D I) : Type 0 where
  pub solid : OfFile told files old.path (λ file. IsTrue tells_data → SolidSince file old.block_size old.durable (data_run new.first) (moment (data_run old.first)))
  pub claims : IsTrue tells_info → WithinSince old.size old.block_size old.claimed old.durable (info_run new.second) (moment (info_run old.second))
  pub sound : IsTrue told → IsTrue tells_data → IsTrue tells_info → SoundSince files old.path (data_run old.first) (data_run new.first) (info_run old.second) (info_run new.second)
