-- How many tokens there are, and for how many entries the log must have room.
use Rattle.std.proofs.Common.{◌≡◌, ℕ, ◌+◌, ◌≤◌, ◌*◌, List, [], ◌∷◌, length, sym, refl, ap, ◌∙◌, arith, Bool, true, false, Some, if◌then◌else◌, ◌==◌}
use Rattle.std.specs.Prelude.{sum_by}
use Rattle.std.proofs.lemmas.List.Sums.{sum_by-cons}
use Rattle.pfc_core.specs.declared.slot.Slot.{Slot}
use Rattle.pfc_core.specs.declared.held.Held.{Held}
use Rattle.pfc_core.specs.Held.{Puts, Takes}
use Rattle.pfc_core.specs.Slots.{slot_of, room_of, ended_slot, written_slot}
use Rattle.pfc_core.proofs.Tied.{by_bool}
use Rattle.pfc_core.specs.Sets.{SetsView}
use Rattle.pfc_core.specs.Kept.{alarm}

room_most : (s : Slot) → room_of s ≤ 4
room_most s = grind arith

pub room_at_most : (slots : List Slot) → sum_by room_of slots ≤ 4 * length slots
room_at_most [] = omega arith
room_at_most (s ∷ ss) = let r = room_at_most ss in let m = room_most s in omega (arith, sum_by-cons room_of s ss, r, m)

length_sum : {X : Type 0} (xs : List X) → sum_by (λ (x : X). 1) xs ≡ length xs
length_sum [] = refl
length_sum (x ∷ xs) = omega (arith, sum_by-cons (λ y. 1) x xs, length_sum xs)

pub puts_length : (p : Held) (old new : List Held) → Puts old p new → length new ≡ length old + 1
puts_length p old new put = sym (length_sum new) ∙ put.each (λ (q : Held). 1) ∙ ap (λ (n : ℕ). n + 1) (length_sum old)

pub takes_length : (p : Held) (old new : List Held) → Takes p old new → length new + 1 ≡ length old
takes_length p old new take = ap (λ (n : ℕ). n + 1) (sym (length_sum new)) ∙ take.each (λ (q : Held). 1) ∙ length_sum old

pub room_flying : (x : Slot) → x.landed ≡ false → room_of x ≡ 4
room_flying x h = ap (λ (q : Bool). if q then (if x.written then 0 else 1) + (if x.job then 1 else 0) + 1 else 4) h

room_here : (x : Slot) → x.landed ≡ true → room_of x ≡ (if x.written then 0 else 1) + (if x.job then 1 else 0) + 1
room_here x h = ap (λ (q : Bool). if q then (if x.written then 0 else 1) + (if x.job then 1 else 0) + 1 else 4) h

-- a job that is out: one entry ends it, and one more has the block leave
pub room_waits : (x : Slot) → x.landed ≡ true → x.job ≡ true → 2 ≤ room_of x
room_waits x l j = let all = room_here x l in let one = ap {B = ℕ} (λ (q : Bool). if q then 1 else 0) j in omega (arith, all, one)

pub room_ended : (x : Slot) → x.landed ≡ true → x.job ≡ true → room_of (ended_slot x) + 1 ≡ room_of x
room_ended x l j = let all = room_here x l in let less = room_here (ended_slot x) l in let one = ap {B = ℕ} (λ (q : Bool). if q then 1 else 0) j in omega (arith, all, less, one)

pub room_written : (x : Slot) → x.landed ≡ true → x.written ≡ false → room_of (written_slot x) + 1 ≡ room_of x
room_written x l w = let all = room_here x l in let less = room_here (written_slot x) l in let one = ap {B = ℕ} (λ (q : Bool). if q then 0 else 1) w in omega (arith, all, less, one)

pub room_some : (x : Slot) → 1 ≤ room_of x
room_some x = grind arith

-- a slot is in each sum over the slots
pub slot_in_sum : (f : Slot → ℕ) (b : ℕ) (slots : List Slot) (x : Slot) → slot_of b slots ≡ Some x → f x ≤ sum_by f slots
slot_in_sum f b [] x at = absurd cc
slot_in_sum f b (s ∷ ss) x at = by_bool (s.block == b)
    (λ yes. let same : s ≡ x = first_is (ap (λ (q : Bool). if q then Some s else slot_of b ss) (sym yes) ∙ at) in let e = ap f same in omega (arith, e, sum_by-cons f s ss))
    (λ off. let rest = slot_in_sum f b ss x (ap (λ (q : Bool). if q then Some s else slot_of b ss) (sym off) ∙ at) in omega (arith, rest, sum_by-cons f s ss))
  where
    first_is : Some s ≡ Some x → s ≡ x
    first_is h = cc

-- room for `frozen`
pub alarm_most : (s : SetsView) → alarm s ≤ 1
alarm_most s = grind arith
