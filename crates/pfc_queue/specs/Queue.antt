-- What a contract sees of a queue and its passes.
use Rattle.std.specs.Prelude.{◌≡◌, ℕ, Bool, List, ◌∷◌, ◌++◌, Option, Some, None}
use Rattle.crossbeam_queue.specs.Passes.{view, ruled_capacity}
use Rattle.crossbeam_queue.specs.Passes as ruled
use Rattle.crossbeam_queue.specs.Fifo.{Held}
use Rattle.pfc_queue.specs.declared.queue.Queue.{Queue}
use Rattle.pfc_queue.specs.declared.queue.QueuePass.{QueuePass}
use Rattle.pfc_queue.specs.Rule.{MayHold}

module _ {T : Type 0} where
  abbrev pub put_by : QueuePass T → List T
  put_by p = (view p.seat).put

  abbrev pub taken_by : QueuePass T → List T
  taken_by p = (view p.seat).taken

  -- no other pass was ever made
  abbrev pub is_alone : QueuePass T → Bool
  is_alone p = (view p.seat).alone

  abbrev pub capacity_of : Queue T → ℕ
  capacity_of q = ruled_capacity q.line

  abbrev pub IsPassOf : Queue T → QueuePass T → Type 0
  IsPassOf q p = ruled.IsPassOf q.line p.seat

  -- at one moment of the call the queue held as many items as it has places
  abbrev pub WasFull : Queue T → QueuePass T → Type 0
  WasFull q p = Held (capacity_of q) (MayHold (view p.seat))

  -- at one moment of the call it held none
  abbrev pub WasEmpty : QueuePass T → Type 0
  WasEmpty p = Held 0 (MayHold (view p.seat))

  -- at one moment of the call the item stood at its front
  abbrev pub WasFirst : QueuePass T → T → Type 0
  WasFirst p x = (rest : List T) × MayHold (view p.seat) (x ∷ rest)

  -- what the pass put and has not taken yet begins with this item, or is nothing
  abbrev pub IsNext : QueuePass T → Option T → Type 0
  IsNext p None = put_by p ≡ taken_by p
  IsNext p (Some x) = (rest : List T) × (put_by p ≡ taken_by p ++ x ∷ rest)
