-- Blocks of a file on a data device, and what a crash leaves of them.
use Rattle.std.specs.Prelude.{◌≡◌, ◌<◌, ◌+◌, ◌*◌, ℕ, Bool, true, false, List, Option, Some, IsTrue, is_none, length}
use Rattle.pfc_base.specs.Block.{block_of}
use Rattle.pfc_base.specs.BlockSet.{is_member, IsWithin}
use Rattle.pfc_cinfo.specs.Cinfo.{IsTiled}
use Rattle.pfc_world.specs.Files.{Files, file_at}
use Rattle.pfc_world.specs.Run.{Run}
use Rattle.pfc_world.specs.Disk.{Disk, Firm, is_left_over, StandsAt, ImageSince}
use Rattle.pfc_store.specs.declared.broken.Broken.{Broken}

-- where the world is told, this is so of the path's file
abbrev pub OfFile : Bool → Files → List ℕ → (List ℕ → Type 0) → Type 0
OfFile told files path P = IsTrue told → (file : List ℕ) → file_at files path ≡ Some file → P file

-- each block of the set stands at its place in the list
abbrev pub HasBlocks : List ℕ → ℕ → List Bool → List ℕ → Type 0
HasBlocks file k blocks list = (i : ℕ) → is_member blocks i ≡ true → StandsAt (i * k) (block_of file k i) list

-- Solid: each list that a crash may leave, at that moment or later, has each block of the set.
abbrev pub SolidSince : List ℕ → ℕ → List Bool → Run Disk → ℕ → Type 0
SolidSince file k blocks run t = (image : List ℕ) → ImageSince run t image → HasBlocks file k blocks image

-- each place of these blocks is so
abbrev pub OnPlaces : List ℕ → ℕ → List Bool → (ℕ → Type 0) → Type 0
OnPlaces file k blocks P = (i p : ℕ) → is_member blocks i ≡ true → p < length (block_of file k i) → P (i * k + p)

-- What a disk has of a file: durable blocks stand there and are settled. While no call has failed the written ones stand
-- there too, and the next sync settles them.
pub record HasStored (file : List ℕ) (k : ℕ) (durable written : List Bool) (whole : Bool) (disk : Disk) : Type 0 where
  pub stands : HasBlocks file k durable disk.reads
  pub settled : OnPlaces file k durable (Firm disk)
  pub reads : IsTrue whole → HasBlocks file k written disk.reads
  pub renewed : IsTrue whole → OnPlaces file k written (λ p. is_left_over (disk.places p) ≡ false)

-- what a half with the data keeps
pub record IsDataHalf (told : Bool) (files : Files) (tells : Bool) (path : List ℕ) (size k : ℕ) (durable written : List Bool) (frozen : Option Broken) (disk : Disk) : Type 0 where
  pub tiled : IsTiled k size (length written)
  pub bounds : length durable ≡ length written
  pub nested : IsWithin durable written
  pub stored : OfFile told files path (λ file. IsTrue tells → HasStored file k durable written (is_none frozen) disk)
