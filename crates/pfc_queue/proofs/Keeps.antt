-- Each move keeps the rule of the queue.
use Rattle.std.proofs.Common.{append_assoc, append-nil, ◌≡◌, ◌≢◌, ℕ, zero, suc, ◌<◌, ◌⊎◌, inl, inr, true, false, List, [], ◌∷◌, ◌++◌, length, set, sym, refl, ap, ◌∙◌, arith, length-set, ⊎_elim}
use mathlib.Core.Bool.{true≢false}
use mathlib.Core.Option.{some, some-injective, some-ne-none}
use lib.ListN.{get_elem?}
use Rattle.crossbeam_queue.specs.Fifo.{Pushes, Pops, Forks, Learns}
use Rattle.atomic_table.proofs.Lists.{at_set}
use Rattle.pfc_base.specs.Pieces.{same-test, other-test}
use Rattle.std.specs.Prelude.{IsTrue}
use Rattle.pfc_queue.specs.declared.protocol.Hand.{Hand}
use Rattle.pfc_queue.specs.Rule.{hand, items_of, step_by, part_of, InOrder, MayHold, PutOne, TookOne}

module _ {A : Type 0} where
  pub at_below : (l : List A) (i : ℕ) (a : A) → get_elem? l i ≡ some a → i < length l
  at_below [] i a e = absurd (some-ne-none a (sym e))
  at_below (x ∷ xs) zero a e = omega arith
  at_below (x ∷ xs) (suc i) a e = let r = at_below xs i a e in omega arith

  at_end : (l : List A) (a b : A) (i : ℕ) → get_elem? (l ++ a ∷ []) i ≡ some b → (get_elem? l i ≡ some b) ⊎ ((i ≡ length l) × (a ≡ b))
  at_end [] a b zero e = inr (refl, some-injective a b e)
  at_end [] a b (suc i) e = absurd (some-ne-none b (sym e))
  at_end (x ∷ xs) a b zero e = inl e
  at_end (x ∷ xs) a b (suc i) e = ⊎_elim (λ t. inl t) (λ t. inr (ap suc t.0, t.1)) (at_end xs a b i e)

  length_end : (l : List A) (a : A) → length (l ++ a ∷ []) ≡ suc (length l)
  length_end [] a = refl
  length_end (x ∷ xs) a = ap suc (length_end xs a)

module _ {T : Type 0} where
  items_end : (steps : List (ℕ × T)) (s : ℕ × T) → items_of (steps ++ s ∷ []) ≡ items_of steps ++ s.1 ∷ []
  items_end [] s = refl
  items_end (a ∷ more) s = ap (λ (l : List T). a.1 ∷ l) (items_end more s)

  part_end : (pass : ℕ) (steps : List (ℕ × T)) (s : ℕ × T) → part_of pass (steps ++ s ∷ []) ≡ part_of pass steps ++ step_by pass s
  part_end pass [] s = append-nil (step_by pass s)
  part_end pass (a ∷ more) s = ap (λ (l : List T). step_by pass a ++ l) (part_end pass more s) ∙ sym (append_assoc (step_by pass a) (part_of pass more) (step_by pass s))

  pub step_own : (pass i : ℕ) (x : T) → pass ≡ i → step_by pass (i, x) ≡ x ∷ []
  step_own pass i x e = rw (same-test pass i e) refl

  pub step_other : (pass i : ℕ) (x : T) → pass ≢ i → step_by pass (i, x) ≡ []
  step_other pass i x e = rw (other-test pass i e) refl

  part_own : (pass : ℕ) (steps : List (ℕ × T)) (x : T) → part_of pass (steps ++ (pass, x) ∷ []) ≡ part_of pass steps ++ x ∷ []
  part_own pass steps x = part_end pass steps (pass, x) ∙ ap (λ (l : List T). part_of pass steps ++ l) (step_own pass pass x refl)

  part_other : (pass i : ℕ) (steps : List (ℕ × T)) (x : T) → pass ≢ i → part_of pass (steps ++ (i, x) ∷ []) ≡ part_of pass steps
  part_other pass i steps x e = part_end pass steps (i, x) ∙ ap (λ (l : List T). part_of pass steps ++ l) (step_other pass i x e) ∙ append-nil (part_of pass steps)

  -- each pass has its part of a history
  abbrev Parts : (Hand T → List T) → List (Hand T) → List (ℕ × T) → Type 0
  Parts f views steps = (pass : ℕ) (v : Hand T) → get_elem? views pass ≡ some v → f v ≡ part_of pass steps

  parts_step : (f : Hand T → List T) (views : List (Hand T)) (steps : List (ℕ × T)) (i : ℕ) (v w : Hand T) (x : T) → Parts f views steps → get_elem? views i ≡ some v → f w ≡ f v ++ x ∷ [] → Parts f (set views i w) (steps ++ (i, x) ∷ [])
  parts_step f views steps i v w x h at is pass u e = ⊎_elim
      (λ t. sym (ap f t.1) ∙ is ∙ ap (λ (l : List T). l ++ x ∷ []) (h i v at) ∙ sym (part_own i steps x) ∙ ap (λ (n : ℕ). part_of n (steps ++ (i, x) ∷ [])) (sym t.0))
      (λ t. h pass u t.1 ∙ sym (part_other pass i steps x t.0))
      (at_set views i pass w u e)

  parts_stay : (f : Hand T → List T) (views : List (Hand T)) (steps : List (ℕ × T)) (i : ℕ) (v w : Hand T) → Parts f views steps → get_elem? views i ≡ some v → f w ≡ f v → Parts f (set views i w) steps
  parts_stay f views steps i v w h at is pass u e = ⊎_elim
      (λ t. sym (ap f t.1) ∙ is ∙ h i v at ∙ ap (λ (n : ℕ). part_of n steps) (sym t.0))
      (λ t. h pass u t.1)
      (at_set views i pass w u e)

  parts_more : (f : Hand T → List T) (views : List (Hand T)) (steps : List (ℕ × T)) (w : Hand T) → Parts f views steps → f w ≡ [] → part_of (length views) steps ≡ [] → Parts f (views ++ w ∷ []) steps
  parts_more f views steps w h is none_yet pass u e = ⊎_elim
      (λ t. h pass u t)
      (λ t. sym (ap f t.1) ∙ is ∙ sym none_yet ∙ ap (λ (n : ℕ). part_of n steps) (sym t.0))
      (at_end views w u pass e)

  alone_stay : (views : List (Hand T)) (i : ℕ) (v w : Hand T) → ((pass : ℕ) (u : Hand T) → get_elem? views pass ≡ some u → IsTrue u.alone → length views ≡ 1) → get_elem? views i ≡ some v → w.alone ≡ v.alone
      → (pass : ℕ) (u : Hand T) → get_elem? (set views i w) pass ≡ some u → IsTrue u.alone → length (set views i w) ≡ 1
  alone_stay views i v w h at is pass u e only = length-set views i w ∙ ⊎_elim
      (λ t. h i v at (sym is ∙ ap (λ (z : Hand T). z.alone) t.1 ∙ only))
      (λ t. h pass u t.1 only)
      (at_set views i pass w u e)

  pub begins : InOrder {T = T} [] (hand [] [] true ∷ [])
  begins = record { puts = []; takes = []; first_out = refl; put = first_part (λ (v : Hand T). v.put) refl; taken = first_part (λ (v : Hand T). v.taken) refl; no_other = λ pass h. (refl, refl); alone = λ pass v e only. refl }
    where
      first_part : (f : Hand T → List T) → f (hand [] [] true) ≡ [] → Parts f (hand [] [] true ∷ []) []
      first_part f is zero v e = sym (ap f (some-injective _ v e)) ∙ is
      first_part f is (suc pass) v e = absurd (some-ne-none v (sym e))

  pub puts : (n pass : ℕ) (v : Hand T) (x : T) → Pushes InOrder n pass v x (PutOne v x)
  puts n pass v x items views _ r at = let w = hand (v.put ++ x ∷ []) v.taken v.alone in let low = at_below views pass v at in let same = length-set views pass w in (
    w,
    record {
      puts = r.puts ++ (pass, x) ∷ [];
      takes = r.takes;
      first_out = items_end r.puts (pass, x) ∙ ap (λ (l : List T). l ++ x ∷ []) r.first_out ∙ append_assoc (items_of r.takes) items (x ∷ []);
      put = parts_step (λ (u : Hand T). u.put) views r.puts pass v w x r.put at refl;
      taken = parts_stay (λ (u : Hand T). u.taken) views r.takes pass v w r.taken at refl;
      no_other = λ k h. (part_other k pass r.puts x (omega arith) ∙ (r.no_other k (omega arith)).0, (r.no_other k (omega arith)).1);
      alone = alone_stay views pass v w r.alone at refl;
    },
    refl,
  )

  pub takes : (pass : ℕ) (v : Hand T) → Pops InOrder pass v (TookOne v)
  takes pass v x items views r at = let w = hand v.put (v.taken ++ x ∷ []) v.alone in let low = at_below views pass v at in let same = length-set views pass w in (
    w,
    record {
      puts = r.puts;
      takes = r.takes ++ (pass, x) ∷ [];
      first_out = r.first_out ∙ sym (append_assoc (items_of r.takes) (x ∷ []) items) ∙ ap (λ (l : List T). l ++ items) (sym (items_end r.takes (pass, x)));
      put = parts_stay (λ (u : Hand T). u.put) views r.puts pass v w r.put at refl;
      taken = parts_step (λ (u : Hand T). u.taken) views r.takes pass v w x r.taken at refl;
      no_other = λ k h. ((r.no_other k (omega arith)).0, part_other k pass r.takes x (omega arith) ∙ (r.no_other k (omega arith)).1);
      alone = alone_stay views pass v w r.alone at refl;
    },
    (refl, (items, (views, pass, at, r))),
  )

  pub forks : (pass : ℕ) (v : Hand T) → Forks InOrder pass v (hand v.put v.taken false) (hand [] [] false)
  forks pass v items views r at = let w = hand v.put v.taken false in let same = length-set views pass w in let more = length_end (set views pass w) (hand [] [] false) in record {
    puts = r.puts;
    takes = r.takes;
    first_out = r.first_out;
    put = parts_more (λ (u : Hand T). u.put) (set views pass w) r.puts (hand [] [] false) (parts_stay (λ (u : Hand T). u.put) views r.puts pass v w r.put at refl) refl (r.no_other (length (set views pass w)) (omega arith)).0;
    taken = parts_more (λ (u : Hand T). u.taken) (set views pass w) r.takes (hand [] [] false) (parts_stay (λ (u : Hand T). u.taken) views r.takes pass v w r.taken at refl) refl (r.no_other (length (set views pass w)) (omega arith)).1;
    no_other = λ k h. r.no_other k (omega arith);
    alone = λ k u e only. ⊎_elim
        (λ t. ⊎_elim
        (λ s. absurd (true≢false (sym only ∙ sym (ap (λ (z : Hand T). z.alone) s.1))))
        (λ s. let one = r.alone k u s.1 only in let low = at_below views k u s.1 in let low' = at_below views pass v at in absurd (s.0 (omega arith)))
        (at_set views pass k w u t))
        (λ t. absurd (true≢false (sym only ∙ sym (ap (λ (z : Hand T). z.alone) t.1))))
        (at_end (set views pass w) (hand [] [] false) u k e);
  }

  pub learns : (pass : ℕ) (v : Hand T) → Learns InOrder pass v (MayHold v)
  learns pass v items views r at = (views, pass, at, r)
