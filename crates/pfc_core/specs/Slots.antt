-- The slots of a file's blocks.
use Rattle.std.specs.Prelude.{◌≡◌, ℕ, ◌+◌, ◌-◌, ◌||◌, Bool, not, true, false, ◌==◌, if◌then◌else◌, List, [], ◌∷◌, Option, Some, None, sum_by}
use Rattle.pfc_log.specs.Views.{Place, Flying, Here}
use Rattle.pfc_core.specs.declared.slot.Slot.{Slot}

-- the slots of one file
pub record ShelfView : Type 0 where
  pub path : List ℕ
  pub size : ℕ
  pub block_size : ℕ
  pub slots : List Slot

-- the slot of block i
abbrev pub slot_of : ℕ → List Slot → Option Slot
slot_of i [] = None
slot_of i (s ∷ ss) = if s.block == i then Some s else slot_of i ss

-- no two are of one block
abbrev pub IsSingle : List Slot → Type 0
IsSingle [] = Unit {0}
IsSingle (s ∷ ss) = (slot_of s.block ss ≡ None) × IsSingle ss

abbrev pub weight_in : (Slot → ℕ) → Option Slot → ℕ
weight_in w None = 0
weight_in w (Some s) = w s

-- block b has one slot in place of another, and nothing else changes
pub record Changes (b : ℕ) (was is : Option Slot) (old new : ShelfView) : Type 0 where
  pub path : new.path ≡ old.path
  pub size : new.size ≡ old.size
  pub block_size : new.block_size ≡ old.block_size
  pub at : (i : ℕ) → slot_of i new.slots ≡ (if b == i then is else slot_of i old.slots)
  pub weighs : (w : Slot → ℕ) → sum_by w new.slots + weight_in w was ≡ sum_by w old.slots + weight_in w is

-- where the slot's block is
abbrev pub place_of : Slot → Place
place_of s = if s.landed then Here s.ticket (s.written || not s.job) else Flying s.ticket s.client

abbrev pub ticket_in : Option Slot → Option ℕ
ticket_in None = None
ticket_in (Some s) = Some s.ticket

-- the job isn't out
abbrev pub is_idle : Slot → Bool
is_idle s = not s.job

-- How many entries a slot may still cause: the block lands, is written, is dropped, and leaves.
abbrev pub room_of : Slot → ℕ
room_of s = if s.landed then (if s.written then 0 else 1) + (if s.job then 1 else 0) + 1 else 4

-- a block that goes into flight, with the pin of who began it
abbrev pub fresh_slot : (b t n : ℕ) → Slot
fresh_slot b t n = record { block = b; ticket = t; client = n; landed = false; written = false; job = false; pins = 1 }

-- it landed
abbrev pub landed_slot : Slot → Slot
landed_slot s = record s { landed = true; written = false; job = true }

-- the block was written
abbrev pub written_slot : Slot → Slot
written_slot s = record s { written = true }

-- its job ended
abbrev pub ended_slot : Slot → Slot
ended_slot s = record s { job = false }

-- one pin more
abbrev pub bumped : Slot → Slot
bumped s = record s { pins = s.pins + 1 }

-- one pin less
abbrev pub lowered : Slot → Slot
lowered s = record s { pins = s.pins - 1 }
