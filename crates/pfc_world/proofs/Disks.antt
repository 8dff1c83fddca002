-- Images of devices.
use Rattle.std.proofs.Common.{◌≡◌, inl, ℕ, true, refl, arith}
use Rattle.pfc_world.specs.Disk.{Disk, Place, settled, unsettled, left_over, not_settled, is_left_over, IsImage, Loose, LeftOver}
use Rattle.pfc_world.specs.Info.{Info, IsMain}

-- what is left over isn't settled
left_place : (place : Place) → is_left_over place ≡ true → not_settled place ≡ true
left_place settled left = left
left_place unsettled left = refl
left_place left_over left = refl

pub left_loose : (disk : Disk) (p : ℕ) → LeftOver disk p → Loose disk p
left_loose disk p left = left_place (disk.places p) left

-- what a device reads is an image of it
pub reads_image : (disk : Disk) → IsImage disk disk.reads
reads_image disk = record { long = λ p below firm. below; kept = λ p below firm. refl; past = λ p past below. absurd (omega arith) }

pub shown_main : (info : Info) → IsMain info info.shown
shown_main info = inl refl
