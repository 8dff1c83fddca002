-- What a crash leaves of a volume that is wiped.
use Rattle.std.proofs.Common.{inl, List, ℕ}
use Rattle.pfc_world.specs.Depot.{AllSound}
use Rattle.pfc_world.specs.Disk.{Disk, IsImage, ImageSince}
use Rattle.pfc_world.specs.Files.{Files}
use Rattle.pfc_world.specs.Info.{Info, IsMain}
use Rattle.pfc_world.specs.Run.{Run, moment}
use Rattle.pfc_store.specs.Moments.{SoundSince}
use Rattle.pfc_store.specs.Volume.{TakesMain, IsGone}
use Rattle.pfc_store.proofs.Volumes.{images_stay, mains_stay, sound_pairs, sound_gone}
use Rattle.pfc_purge.specs.Wiped.{SoundInTurn}

-- pairs of one moment are among those since
now_of : (files : Files) (path : List ℕ) (disk disk_now : Run Disk) (info info_now : Run Info) → SoundSince files path disk disk_now info info_now → AllSound files path (IsImage disk_now.now) (IsMain info_now.now)
now_of files path disk disk_now info info_now since file is image main is_image is_main = since file is image main (inl is_image) (inl is_main)

pub in_turn_now : (files : Files) (path : List ℕ) (disk disk_now : Run Disk) (info info_now : Run Info) → SoundInTurn files path disk disk_now info info_now → AllSound files path (IsImage disk_now.now) (IsMain info_now.now)
in_turn_now files path disk disk_now info info_now turns = now_of files path disk disk_now info_now info_now turns.clearing

module _ (files : Files) (path : List ℕ) (disk : Run Disk) (info info_now : Run Info) (mains : TakesMain info info_now) (sound : AllSound files path (IsImage disk.now) (IsMain info.now)) where
  stripped : SoundSince files path disk disk info info_now
  stripped = sound_pairs files path disk disk info info_now (images_stay disk) mains sound

  -- the data was left alone
  pub kept_in_turn : SoundInTurn files path disk disk info info_now
  kept_in_turn = record {
    stripping = stripped;
    clearing = sound_pairs files path disk disk info_now info_now (images_stay disk) (mains_stay info_now) (now_of files path disk disk info info_now stripped);
  }

  -- the main file is gone
  pub gone_in_turn : (disk_now : Run Disk) → IsGone info_now.now → SoundInTurn files path disk disk_now info info_now
  gone_in_turn disk_now gone = record {
    stripping = stripped;
    clearing = sound_gone files path (ImageSince disk_now (moment disk)) info_now gone;
  }
