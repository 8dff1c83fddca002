-- What follows from the rule: nothing is lost, and a pass that is alone knows what the queue holds.
use Rattle.std.proofs.Common.{◌≡◌, ◌≢◌, ℕ, zero, suc, ◌+◌, ◌<◌, ◌≤◌, List, [], ◌∷◌, ◌++◌, length, sym, refl, ap, ◌∙◌, arith, append-nil, length-append}
use mathlib.Core.Logic.{dite}
use mathlib.Core.List.{cons-ne-nil}
use mathlib.Core.Option.{some}
use native.Mathlib.Decide.{dec_lt}
use lib.ListN.{get_elem?}
use Rattle.std.specs.Prelude.{IsTrue, Option, Some, None, MatchOption}
use Rattle.crossbeam_queue.specs.Passes.{view}
use Rattle.pfc_queue.specs.declared.protocol.Hand.{Hand}
use Rattle.pfc_queue.specs.declared.queue.Queue.{Queue}
use Rattle.pfc_queue.specs.declared.queue.QueuePass.{QueuePass}
use Rattle.pfc_queue.specs.Queue.{put_by, taken_by, is_alone, capacity_of, WasFull, WasEmpty, IsNext}
use Rattle.pfc_queue.specs.Rule.{items_of, step_by, part_of, InOrder, MayHold, TookOne, weigh, all_put, all_taken}
use Rattle.pfc_queue.proofs.Keeps.{at_below, step_own, step_other}

from_zero : (i : ℕ) → i ≡ 0 + i
from_zero i = omega arith

module _ {T : Type 0} where
  weigh_append : (h : T → ℕ) (xs ys : List T) → weigh h (xs ++ ys) ≡ weigh h xs + weigh h ys
  weigh_append h [] ys = omega arith
  weigh_append h (x ∷ xs) ys = let r = weigh_append h xs ys in omega arith

  empty_right : (xs ys : List T) → xs ++ ys ≡ [] → ys ≡ []
  empty_right [] ys e = e
  empty_right (x ∷ xs) ys e = absurd (cons-ne-nil _ _ e)

  -- the parts of the passes from k on, n of them
  abbrev weigh_parts : (T → ℕ) → ℕ → ℕ → List (ℕ × T) → ℕ
  weigh_parts h k zero steps = 0
  weigh_parts h k (suc n) steps = weigh h (part_of k steps) + weigh_parts h (suc k) n steps

  no_parts : (h : T → ℕ) (k n : ℕ) → weigh_parts h k n [] ≡ 0
  no_parts h k zero = refl
  no_parts h k (suc n) = let r = no_parts h (suc k) n in omega arith

  part_head : (h : T → ℕ) (k i : ℕ) (x : T) (steps : List (ℕ × T)) → k ≡ i → weigh h (part_of k ((i, x) ∷ steps)) ≡ h x + weigh h (part_of k steps)
  part_head h k i x steps e = ap (λ (l : List T). weigh h (l ++ part_of k steps)) (step_own k i x e)

  part_skip : (h : T → ℕ) (k i : ℕ) (x : T) (steps : List (ℕ × T)) → k ≢ i → weigh h (part_of k ((i, x) ∷ steps)) ≡ weigh h (part_of k steps)
  part_skip h k i x steps e = ap (λ (l : List T). weigh h (l ++ part_of k steps)) (step_other k i x e)

  parts_outside : (h : T → ℕ) (k n i : ℕ) (x : T) (steps : List (ℕ × T)) → i < k → weigh_parts h k n ((i, x) ∷ steps) ≡ weigh_parts h k n steps
  parts_outside h k zero i x steps low = refl
  parts_outside h k (suc n) i x steps low = let one = part_skip h k i x steps (λ e. omega arith) in let r = parts_outside h (suc k) n i x steps (omega arith) in omega arith

  parts_inside : (h : T → ℕ) (k n i : ℕ) (x : T) (steps : List (ℕ × T)) → k ≤ i → i < k + n → weigh_parts h k n ((i, x) ∷ steps) ≡ h x + weigh_parts h k n steps
  parts_inside h k zero i x steps low high = absurd (omega arith)
  parts_inside h k (suc n) i x steps low high = dite (dec_lt k i)
      (λ (less : k < i). let one = part_skip h k i x steps (λ e. omega arith) in let r = parts_inside h (suc k) n i x steps (omega arith) (omega arith) in omega arith)
      (λ not_less. let is : k ≡ i = omega arith in let one = part_head h k i x steps is in let r = parts_outside h (suc k) n i x steps (omega arith) in omega arith)

  no_head : (i : ℕ) (x : T) (steps : List (ℕ × T)) → part_of i ((i, x) ∷ steps) ≢ []
  no_head i x steps e = cons-ne-nil _ _ (sym (ap (λ (l : List T). l ++ part_of i steps) (step_own i i x refl)) ∙ e)

  -- the parts of all passes together
  parts_all : (h : T → ℕ) (n : ℕ) (steps : List (ℕ × T)) → ((k : ℕ) → n ≤ k → part_of k steps ≡ []) → weigh_parts h 0 n steps ≡ weigh h (items_of steps)
  parts_all h n [] none_else = no_parts h 0 n
  parts_all h n ((i, x) ∷ steps) none_else = dite (dec_lt i n)
      (λ (less : i < n). let r = parts_all h n steps (λ k t. empty_right (step_by k (i, x)) (part_of k steps) (none_else k t)) in let one = parts_inside h 0 n i x steps (omega arith) (omega arith) in omega arith)
      (λ not_less. absurd (no_head i x steps (none_else i (omega arith))))

  spread_put : (h : T → ℕ) (views : List (Hand T)) (k : ℕ) (steps : List (ℕ × T)) → ((i : ℕ) (v : Hand T) → get_elem? views i ≡ some v → v.put ≡ part_of (k + i) steps) → all_put h views ≡ weigh_parts h k (length views) steps
  spread_put h [] k steps is = refl
  spread_put h (v ∷ vs) k steps is =
      let one = ap (weigh h) (is 0 v refl ∙ ap (λ (n : ℕ). part_of n steps) (let e : k + 0 ≡ k = omega arith in e)) in
      let r = spread_put h vs (suc k) steps (λ i u e. is (suc i) u e ∙ ap (λ (n : ℕ). part_of n steps) (let e' : k + suc i ≡ suc k + i = omega arith in e')) in omega arith

  spread_taken : (h : T → ℕ) (views : List (Hand T)) (k : ℕ) (steps : List (ℕ × T)) → ((i : ℕ) (v : Hand T) → get_elem? views i ≡ some v → v.taken ≡ part_of (k + i) steps) → all_taken h views ≡ weigh_parts h k (length views) steps
  spread_taken h [] k steps is = refl
  spread_taken h (v ∷ vs) k steps is =
      let one = ap (weigh h) (is 0 v refl ∙ ap (λ (n : ℕ). part_of n steps) (let e : k + 0 ≡ k = omega arith in e)) in
      let r = spread_taken h vs (suc k) steps (λ i u e. is (suc i) u e ∙ ap (λ (n : ℕ). part_of n steps) (let e' : k + suc i ≡ suc k + i = omega arith in e')) in omega arith

  -- each item was put as often as it was taken or is left
  pub balanced : (items : List T) (views : List (Hand T)) → InOrder items views → (h : T → ℕ) → all_put h views ≡ all_taken h views + weigh h items
  balanced items views r h =
      let n = length views in
      let p = spread_put h views 0 r.puts (λ i v e. r.put i v e ∙ ap (λ (k : ℕ). part_of k r.puts) (from_zero i)) ∙ parts_all h n r.puts (λ k t. (r.no_other k t).0) in
      let t = spread_taken h views 0 r.takes (λ i v e. r.taken i v e ∙ ap (λ (k : ℕ). part_of k r.takes) (from_zero i)) ∙ parts_all h n r.takes (λ k t. (r.no_other k t).1) in
      let s = ap (weigh h) r.first_out in let a = weigh_append h (items_of r.takes) items in omega arith

  only_part : (steps : List (ℕ × T)) → ((k : ℕ) → 1 ≤ k → part_of k steps ≡ []) → part_of 0 steps ≡ items_of steps
  only_part [] none_else = refl
  only_part ((zero, x) ∷ steps) none_else = ap (λ (l : List T). x ∷ l) (only_part steps (λ k t. empty_right (step_by k (0, x)) (part_of k steps) (none_else k t)))
  only_part ((suc i, x) ∷ steps) none_else = absurd (no_head (suc i) x steps (none_else (suc i) (omega arith)))

  -- where no other pass was made, the queue holds what this one put and didn't take
  pub alone_holds : (v : Hand T) (items : List T) → MayHold v items → IsTrue v.alone → v.put ≡ v.taken ++ items
  alone_holds v items (views, pass, at, r) only =
      let one = r.alone pass v at only in let low = at_below views pass v at in let is : pass ≡ 0 = omega arith in
      let p = r.put pass v at ∙ ap (λ (n : ℕ). part_of n r.puts) is ∙ only_part r.puts (λ k t. (r.no_other k (omega arith)).0) in
      let t = r.taken pass v at ∙ ap (λ (n : ℕ). part_of n r.takes) is ∙ only_part r.takes (λ k t. (r.no_other k (omega arith)).1) in
      p ∙ r.first_out ∙ ap (λ (l : List T). l ++ items) (sym t)

  empty : (items : List T) → length items ≡ 0 → items ≡ []
  empty [] e = refl
  empty (x ∷ xs) e = absurd (omega arith)

  -- so a take answers what it put first and didn't take
  pub next : (p : QueuePass T) (answer : Option T) (w : Hand T) → MatchOption answer ((w ≡ view p.seat) × WasEmpty p) (λ x. TookOne (view p.seat) x w) → IsTrue (is_alone p) → IsNext p answer
  next p None w told only = let held = told.1 in alone_holds (view p.seat) held.0 held.2 only ∙ ap (λ (l : List T). taken_by p ++ l) (empty held.0 held.1) ∙ append-nil (taken_by p)
  next p (Some x) w told only = (told.1.0, alone_holds (view p.seat) (x ∷ told.1.0) told.1.1 only)

  -- and a put is refused only where it put as many more than it took as there are places
  pub full : (q : Queue T) (p : QueuePass T) → WasFull q p → IsTrue (is_alone p) → length (put_by p) ≡ length (taken_by p) + capacity_of q
  full q p held only = ap length (alone_holds (view p.seat) held.0 held.2 only) ∙ length-append (taken_by p) held.0 ∙ ap (λ (n : ℕ). length (taken_by p) + n) held.1
