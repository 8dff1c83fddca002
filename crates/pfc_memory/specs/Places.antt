-- How durable each place of a data device in memory is.
use Rattle.std.specs.Prelude.{◌≡◌, ◌<◌, ◌≤◌, ℕ, List, slice_index_or}
use Rattle.pfc_world.specs.Disk.{LiesBetween, LiesOutside}
use Rattle.pfc_world.specs.Disk as disk
use Rattle.pfc_memory.specs.declared.place.Place.{Place}
use Rattle.pfc_memory.specs.declared.place.Place.TheVariants.{Settled, Unsettled, LeftOver}

abbrev pub after_sync : Place → Place
after_sync Settled = Settled
after_sync Unsettled = Settled
after_sync LeftOver = LeftOver

-- after a sync that failed, and a clear that failed
abbrev pub after_loss : Place → Place
after_loss Settled = Settled
after_loss Unsettled = LeftOver
after_loss LeftOver = LeftOver

abbrev pub place_of : Place → disk.Place
place_of Settled = disk.settled
place_of Unsettled = disk.unsettled
place_of LeftOver = disk.left_over

-- the same of the places that a crash sees
abbrev pub synced_place : disk.Place → disk.Place
synced_place disk.settled = disk.settled
synced_place disk.unsettled = disk.settled
synced_place disk.left_over = disk.left_over

abbrev pub lost_place : disk.Place → disk.Place
lost_place disk.settled = disk.settled
lost_place disk.unsettled = disk.left_over
lost_place disk.left_over = disk.left_over

-- the place with this number; one past the list is settled
abbrev pub place_at : List Place → ℕ → Place
place_at places p = slice_index_or places p Settled

-- those of a range are unsettled
pub record Marked (from to : ℕ) (old new : List Place) : Type 0 where
  pub inside : (p : ℕ) → LiesBetween from to p → place_at new p ≡ Unsettled
  pub outside : (p : ℕ) → LiesOutside from to p → place_at new p ≡ place_at old p

-- the first ones are left over, and the others as after a sync that failed
pub record Loses (count : ℕ) (old new : List Place) : Type 0 where
  pub inside : (p : ℕ) → p < count → place_at new p ≡ LeftOver
  pub outside : (p : ℕ) → count ≤ p → place_at new p ≡ after_loss (place_at old p)
