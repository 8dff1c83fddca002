-- How slots and blocks are kept.
use Rattle.std.specs.Prelude.{◌≡◌, ℕ, nat_eq, true, List, map, Option, Some, None}
use Rattle.std.specs.Arc.{arc_value}
use Rattle.std.specs.declared.sync.Arc.{Arc}
use Rattle.indexmap.specs.IndexMap.{get, values, IsUnique}
use Rattle.pfc_world.specs.declared.origin.World.{Ghosts}
use Rattle.pfc_world.specs.declared.known.Block.{Block}
use Rattle.pfc_core.specs.declared.slot.Slot.{Slot}
use Rattle.pfc_core.specs.declared.shelf.Place.{Place}
use Rattle.pfc_core.specs.declared.shelf.Shelf.TheInside.{Inside}
use Rattle.pfc_core.specs.Slots.{ShelfView}

-- block i of this file
pub record IsBlock {W : Type 0} {g : Ghosts W} (path : List ℕ) (size k i : ℕ) (block : Block W g) : Type 0 where
  pub path_is : block.known.path ≡ path
  pub size_is : block.known.size ≡ size
  pub block_size : block.block_size ≡ k
  pub number : block.number ≡ i

abbrev pub slot_in : {W : Type 0} {g : Ghosts W} → Place W g → Slot
slot_in p = p.slot

-- the block that landed is there
abbrev pub HasBlock : {W : Type 0} {g : Ghosts W} {A : Type 0} → List ℕ → ℕ → ℕ → ℕ → Option (Arc (Block W g) A) → Type 0
HasBlock path size k i None = ⊥
HasBlock path size k i (Some a) = IsBlock path size k i (arc_value a)

-- the slot stands under its block's number, with the block where it landed
pub record IsPlaced {W : Type 0} {g : Ghosts W} (path : List ℕ) (size k i : ℕ) (p : Place W g) : Type 0 where
  pub number : p.slot.block ≡ i
  pub block : p.slot.landed ≡ true → HasBlock path size k i p.block

abbrev pub shelf_of : {W : Type 0} {g : Ghosts W} → Inside W g → ShelfView
shelf_of s = record { path = s.known.path; size = s.known.size; block_size = s.block_size; slots = map slot_in (values s.places) }

pub record IsShelf {W : Type 0} {g : Ghosts W} (s : Inside W g) : Type 0 where
  pub kept : (i : ℕ) (p : Place W g) → get nat_eq s.places i ≡ Some p → IsPlaced s.known.path s.known.size s.block_size i p
  pub unique : IsUnique nat_eq s.places
