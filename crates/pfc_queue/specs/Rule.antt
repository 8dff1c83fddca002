-- The rule over the queue and its passes: first in first out, and each pass put and took what its lists say, in that order.
use Rattle.std.specs.Prelude.{◌≡◌, ℕ, ◌+◌, ◌≤◌, ◌==◌, Bool, IsTrue, List, [], ◌∷◌, ◌++◌, length, if◌then◌else◌}
use mathlib.Core.Option.{some}
use lib.ListN.{get_elem?}
use Rattle.pfc_queue.specs.declared.protocol.Hand.{Hand}

module _ {T : Type 0} where
  abbrev pub hand : List T → List T → Bool → Hand T
  hand put taken alone = record { put = put; taken = taken; alone = alone }

  -- A history is a list of items, each with the number of the pass that put it, or took it, in the order of the steps.
  -- Its items
  abbrev pub items_of : List (ℕ × T) → List T
  items_of [] = []
  items_of (step ∷ steps) = step.1 ∷ items_of steps

  abbrev pub step_by : ℕ → ℕ × T → List T
  step_by pass step = if pass == step.0 then step.1 ∷ [] else []

  -- the part of one pass
  abbrev pub part_of : ℕ → List (ℕ × T) → List T
  part_of pass [] = []
  part_of pass (step ∷ steps) = step_by pass step ++ part_of pass steps

  -- what was put is what was taken and then what the queue holds, in one order, and each pass has its own part of both
  pub record InOrder (items : List T) (views : List (Hand T)) : Type 0 where
    pub puts : List (ℕ × T)
    pub takes : List (ℕ × T)
    pub first_out : items_of puts ≡ items_of takes ++ items
    pub put : (pass : ℕ) (v : Hand T) → get_elem? views pass ≡ some v → v.put ≡ part_of pass puts
    pub taken : (pass : ℕ) (v : Hand T) → get_elem? views pass ≡ some v → v.taken ≡ part_of pass takes
    pub no_other : (pass : ℕ) → length views ≤ pass → (part_of pass puts ≡ []) × (part_of pass takes ≡ [])
    pub alone : (pass : ℕ) (v : Hand T) → get_elem? views pass ≡ some v → IsTrue v.alone → length views ≡ 1

  -- the queue may hold these items, for a pass that knows this hand
  abbrev pub MayHold : Hand T → List T → Type 0
  MayHold v items = (views : List (Hand T)) × (pass : ℕ) × (get_elem? views pass ≡ some v) × InOrder items views

  abbrev pub PutOne : Hand T → T → Hand T → Type 0
  PutOne v x w = w ≡ hand (v.put ++ x ∷ []) v.taken v.alone

  abbrev pub TookOne : Hand T → T → Hand T → Type 0
  TookOne v x w = (w ≡ hand v.put (v.taken ++ x ∷ []) v.alone) × ((rest : List T) × MayHold v (x ∷ rest))

  -- the weights of the items, added up. With the weight 1 for one item and 0 for the others it is how often that one stands in the list
  abbrev pub weigh : (T → ℕ) → List T → ℕ
  weigh h [] = 0
  weigh h (x ∷ xs) = h x + weigh h xs

  abbrev pub all_put : (T → ℕ) → List (Hand T) → ℕ
  all_put h [] = 0
  all_put h (v ∷ vs) = weigh h v.put + all_put h vs

  abbrev pub all_taken : (T → ℕ) → List (Hand T) → ℕ
  all_taken h [] = 0
  all_taken h (v ∷ vs) = weigh h v.taken + all_taken h vs
