-- Each kind of step keeps the rule of a budget.
use Rattle.std.proofs.Common.{◌≡◌, ℕ, zero, suc, ◌+◌, ◌-◌, ◌*◌, ◌%◌, ◌^◌, ◌<◌, ◌≤◌, List, [], ◌∷◌, ◌++◌, slice_index, set, sym, refl, ap, ◌∙◌, subst, arith, length-set, get_or-set_same, ⊎_elim, eq-zero-or-pos, lt_of_not-le}
use mathlib.Core.Logic.{dite}
use mathlib.Core.Option.{none, some, some-injective, some-ne-none}
use native.Mathlib.Decide.{dec_le}
use lib.ListN.{get_elem?}
use Rattle.atomic_table.specs.Table.{State, step, keeps, stepped, Allows, Splits, Joins, opening}
use Rattle.atomic_table.proofs.Lists.{at_set, at_snoc}
use Rattle.pfc_budget.specs.declared.rule.View.{View}
use Rattle.pfc_budget.specs.Rule.{view, total, held_of, pending_of, places_of, Fits, IsBudget, Sitter, Shows, Claimed, Withdrawn, Given, Loaded, keeper, newcomer, joined}

total_set : (f : View → ℕ) (l : List View) (i : ℕ) (v w : View) → get_elem? l i ≡ some v → total f (set l i w) + f v ≡ total f l + f w
total_set f [] i v w e = absurd (some-ne-none v (sym e))
total_set f (x ∷ xs) zero v w e = let is : f x ≡ f v = ap f (some-injective x v e) in omega arith
total_set f (x ∷ xs) (suc i) v w e = let r = total_set f xs i v w e in omega arith

total_snoc : (f : View → ℕ) (l : List View) (v : View) → total f (l ++ v ∷ []) ≡ total f l + f v
total_snoc f [] v = omega arith
total_snoc f (x ∷ xs) v = let r = total_snoc f xs v in omega arith

total_has : (f : View → ℕ) (l : List View) (i : ℕ) (v : View) → get_elem? l i ≡ some v → f v ≤ total f l
total_has f [] i v e = absurd (some-ne-none v (sym e))
total_has f (x ∷ xs) zero v e = let is : f x ≡ f v = ap f (some-injective x v e) in omega arith
total_has f (x ∷ xs) (suc i) v e = let r = total_has f xs i v e in omega arith

-- what is pending is bounded by the places
bounded_one : (limit : ℕ) (v : View) → Fits limit v → v.pending ≤ 16777216 * v.places
bounded_one limit v h = ⊎_elim (λ (none_left : v.places ≡ 0). let p = (h.spent none_left).1 in omega arith) (λ (some_left : 0 < v.places). let p = h.small in omega arith) (eq-zero-or-pos v.places)

bounded : (limit : ℕ) (l : List View) → ((k : ℕ) (v : View) → get_elem? l k ≡ some v → Fits limit v) → total pending_of l ≤ 16777216 * total places_of l
bounded limit [] h = omega arith
bounded limit (x ∷ xs) h = let one = bounded_one limit x (h 0 x refl) in let r = bounded limit xs (λ k v e. h (suc k) v e) in omega arith

-- the same of the others
bounded_rest : (limit : ℕ) (l : List View) (i : ℕ) (v : View) → get_elem? l i ≡ some v → ((k : ℕ) (v : View) → get_elem? l k ≡ some v → Fits limit v)
    → total pending_of l + 16777216 * v.places ≤ v.pending + 16777216 * total places_of l
bounded_rest limit [] i v e h = absurd (some-ne-none v (sym e))
bounded_rest limit (x ∷ xs) zero v e h =
    let is : x.places ≡ v.places = ap places_of (some-injective x v e) in let is' : x.pending ≡ v.pending = ap pending_of (some-injective x v e) in
    let r = bounded limit xs (λ k v e. h (suc k) v e) in omega arith
bounded_rest limit (x ∷ xs) (suc i) v e h = let one = bounded_one limit x (h 0 x refl) in let r = bounded_rest limit xs i v e (λ k v e. h (suc k) v e) in omega arith

each_set : (limit : ℕ) (l : List View) (i : ℕ) (w : View) → ((k : ℕ) (v : View) → get_elem? l k ≡ some v → Fits limit v) → Fits limit w
    → (k : ℕ) (v : View) → get_elem? (set l i w) k ≡ some v → Fits limit v
each_set limit l i w h f k v e = ⊎_elim (λ t. subst (Fits limit) t.1 f) (λ t. h k v t.1) (at_set l i k w v e)

none_rest : (f : View → ℕ) (l : List View) → ((k : ℕ) (v : View) → get_elem? l k ≡ some v → v.places ≡ 0 → f v ≡ 0) → total places_of l ≡ 0 → total f l ≡ 0
none_rest f [] h e = refl
none_rest f (x ∷ xs) h e = let one = h 0 x refl (omega arith) in let r = none_rest f xs (λ k v e. h (suc k) v e) (omega arith) in omega arith

-- where all places are the seat's, the others have nothing
alone_total : (f : View → ℕ) (l : List View) (i : ℕ) (v : View) → get_elem? l i ≡ some v → ((k : ℕ) (v : View) → get_elem? l k ≡ some v → v.places ≡ 0 → f v ≡ 0)
    → total places_of l ≡ v.places → total f l ≡ f v
alone_total f [] i v e h t = absurd (some-ne-none v (sym e))
alone_total f (x ∷ xs) zero v e h t =
    let is : x.places ≡ v.places = ap places_of (some-injective x v e) in let is' : f x ≡ f v = ap f (some-injective x v e) in
    let r = none_rest f xs (λ k v e. h (suc k) v e) (omega arith) in omega arith
alone_total f (x ∷ xs) (suc i) v e h t =
    let more = total_has places_of xs i v e in
    let one = h 0 x refl (omega arith) in let r = alone_total f xs i v e (λ k v e. h (suc k) v e) (omega arith) in omega arith

-- the word stays far below its type's end
pub small_word : (limit : ℕ) (s : State (Unit {0}) View) → IsBudget limit s → slice_index s.words 0 < 2305843009213693952
small_word limit s r = let is = r.word in let b = bounded limit s.views r.each in let all = r.seats in let sum = r.within in let top = r.bounded in omega arith

module _ (limit : ℕ) (s : State (Unit {0}) View) (r : IsBudget limit s) (id : ℕ) (v : View) (at : get_elem? s.views id ≡ some v) where
  pub shows : v.pending ≡ 0 → 0 < v.places → Shows v (slice_index s.words 0)
  shows idle live =
      let is = r.word in let h = total_has held_of s.views id v at in let p = total_has places_of s.views id v at in let b = bounded_rest limit s.views id v at r.each in
      let same = (r.each id v at).one_limit live in let sum = r.within in let all = r.seats in
      record {
        own = omega arith;
        within = omega arith;
        most = omega arith;
        alone = λ whole.
            let hs = alone_total held_of s.views id v at (λ k u e z. ((r.each k u e).spent z).0) (omega arith) in
            let ps = alone_total pending_of s.views id v at (λ k u e z. ((r.each k u e).spent z).1) (omega arith) in omega arith;
      }

  -- the word and a view change together
  placed : (n : ℕ) (c : List (ℕ × Unit {0})) (w : View) → w.places ≡ v.places → Fits limit w → n + (v.held + v.pending) ≡ slice_index s.words 0 + (w.held + w.pending)
      → total held_of s.views + w.held ≤ limit + v.held → IsBudget limit (stepped s 0 n id c w keeps)
  placed n c w same fits moved room =
      let h = total_set held_of s.views id v w at in let p = total_set pending_of s.views id v w at in let q = total_set places_of s.views id v w at in let is = r.word in let all = r.seats in
      record {
        one_word = length-set s.words 0 n ∙ r.one_word;
        word = get_or-set_same s.words 0 n 0 (let one = r.one_word in omega arith) ∙ omega arith;
        within = omega arith;
        bounded = r.bounded;
        seats = omega arith;
        each = each_set limit s.views id w r.each fits;
      }

fits_view : (limit held pending places : ℕ) → 0 < places → pending ≤ 16777216 → Fits limit (view limit held pending places)
fits_view limit held pending places live small = record { one_limit = λ _. refl; small = small; spent = λ none_left. absurd (omega arith) }

module _ (limit slots id : ℕ) (me : Sitter) (live : 0 < me.0.places) where
  pub claims : (want : ℕ) → me.0.pending ≡ 0 → want ≤ 16777216 → Allows (IsBudget limit) slots id me 0 (λ n. (n + want) % 2 ^ 64) (Claimed (step slots 0 want 0 none) me)
  claims want idle modest s r _ at _ =
      let n : ℕ = slice_index s.words 0 in let v = me.0 in let same : v.limit ≡ limit = (r.each id v at).one_limit live in let low = small_word limit s r in
      let is = r.word in let sum : n + want ≡ (n + want) % 18446744073709551616 = omega arith in
      dite (dec_le (n + want) v.limit)
      (λ room. let w = view v.limit (v.held + want) 0 v.places in (
        w,
        keeps,
        tt,
        subst (λ (z : ℕ). IsBudget limit (stepped s 0 z id me.1 w keeps)) sum
            (placed limit s r id v at (n + want) me.1 w refl (subst (λ (z : ℕ). Fits limit (view z (v.held + want) 0 v.places)) (sym same) (fits_view limit (v.held + want) 0 v.places live (omega arith))) (omega arith) (omega arith)),
        record { shows = shows limit s r id v at idle live; fits = λ _. refl; full = λ over. absurd (omega arith); slots = refl },
      ))
      (λ none_left. let over : v.limit < n + want = lt_of_not-le none_left in let w = view v.limit v.held want v.places in (
        w,
        keeps,
        tt,
        subst (λ (z : ℕ). IsBudget limit (stepped s 0 z id me.1 w keeps)) sum
            (placed limit s r id v at (n + want) me.1 w refl (subst (λ (z : ℕ). Fits limit (view z v.held want v.places)) (sym same) (fits_view limit v.held want v.places live modest)) (omega arith) (let top = r.within in omega arith)),
        record { shows = shows limit s r id v at idle live; fits = λ room. absurd (omega arith); full = λ _. refl; slots = refl },
      ))

  lowers : (k h p : ℕ) → k + (h + p) ≡ me.0.held + me.0.pending → h ≤ me.0.held → p ≤ 16777216
      → Allows (IsBudget limit) slots id me 0 (λ n. (n + (2 ^ 64 - k)) % 2 ^ 64) (λ found m'. (m'.0 ≡ view me.0.limit h p me.0.places) × (m'.1 ≡ me.1))
  lowers k h p moved less modest s r _ at _ =
      let n : ℕ = slice_index s.words 0 in let v = me.0 in let same : v.limit ≡ limit = (r.each id v at).one_limit live in let low = small_word limit s r in
      let is = r.word in let hs = total_has held_of s.views id v at in let ps = total_has pending_of s.views id v at in
      let diff : n - k ≡ (n + (18446744073709551616 - k)) % 18446744073709551616 = omega arith in
      let w = view v.limit h p v.places in (
        w,
        keeps,
        tt,
        subst (λ (z : ℕ). IsBudget limit (stepped s 0 z id me.1 w keeps)) diff
            (placed limit s r id v at (n - k) me.1 w refl (subst (λ (z : ℕ). Fits limit (view z h p v.places)) (sym same) (fits_view limit h p v.places live modest)) (omega arith) (let top = r.within in omega arith)),
        (refl, refl),
      )

  pub withdraws : (k : ℕ) → me.0.pending ≡ k → Allows (IsBudget limit) slots id me 0 (λ n. (n + (2 ^ 64 - k)) % 2 ^ 64) (Withdrawn (step slots 0 k 0 none) me)
  withdraws k is = lowers k me.0.held 0 (omega arith) (omega arith) (omega arith)

  pub gives : (k : ℕ) → me.0.pending ≡ 0 → k ≤ me.0.held → Allows (IsBudget limit) slots id me 0 (λ n. (n + (2 ^ 64 - k)) % 2 ^ 64) (Given (step slots 0 k 0 none) me)
  gives k idle less = lowers k (me.0.held - k) 0 (omega arith) (omega arith) (omega arith)

  pub loads : me.0.pending ≡ 0 → Allows (IsBudget limit) slots id me 0 (λ n. n) (Loaded (step slots 0 0 0 none) me)
  loads idle s r _ at _ =
      let n : ℕ = slice_index s.words 0 in let v = me.0 in
      (v, keeps, tt, placed limit s r id v at n me.1 v refl (r.each id v at) refl (let top = r.within in omega arith), (refl, shows limit s r id v at idle live))

pub splits : (limit id : ℕ) (v : View) → 1 < v.places → Splits (IsBudget limit) id v (keeper v) (newcomer v)
splits limit id v room s r at =
    let l = set s.views id (keeper v) in let h = total_set held_of s.views id v (keeper v) at in let p = total_set pending_of s.views id v (keeper v) at in let q = total_set places_of s.views id v (keeper v) at in
    let h' = total_snoc held_of l (newcomer v) in let p' = total_snoc pending_of l (newcomer v) in let q' = total_snoc places_of l (newcomer v) in
    let was = r.each id v at in let same : v.limit ≡ limit = was.one_limit (omega arith) in let is = r.word in let top = r.within in let all = r.seats in
    record {
      one_word = r.one_word;
      word = omega arith;
      within = omega arith;
      bounded = r.bounded;
      seats = omega arith;
      each = λ k u e. ⊎_elim
          (each_set limit s.views id (keeper v) r.each (record { one_limit = λ _. same; small = was.small; spent = λ none_left. absurd (omega arith) }) k u)
          (λ t. subst (Fits limit) t (subst (λ (z : ℕ). Fits limit (view z 0 0 1)) (sym same) (fits_view limit 0 0 1 (omega arith) (omega arith))))
          (at_snoc l (newcomer v) u k e);
    }

pub joins : (limit id : ℕ) (v : View) (other : ℕ) (w : View) → 0 < v.places → 0 < w.places → w.pending ≡ 0 → Joins (IsBudget limit) id v other w (joined v w) (view 0 0 0 0)
joins limit id v other w live there idle s r at apart at' =
    let l = set s.views id (joined v w) in let u = view 0 0 0 0 in
    let h = total_set held_of s.views id v (joined v w) at in let p = total_set pending_of s.views id v (joined v w) at in let q = total_set places_of s.views id v (joined v w) at in
    let h' = total_set held_of l other w u at' in let p' = total_set pending_of l other w u at' in let q' = total_set places_of l other w u at' in
    let was = r.each id v at in let same : v.limit ≡ limit = was.one_limit live in let is = r.word in let top = r.within in let all = r.seats in
    record {
      one_word = r.one_word;
      word = omega arith;
      within = omega arith;
      bounded = r.bounded;
      seats = omega arith;
      each = each_set limit l other u
          (each_set limit s.views id (joined v w) r.each (record { one_limit = λ _. same; small = was.small; spent = λ none_left. absurd (omega arith) }))
          (record { one_limit = λ live. absurd (omega arith); small = omega arith; spent = λ _. (refl, refl) });
    }

pub opens : (limit : ℕ) → limit ≤ 2 ^ 60 → IsBudget limit (opening (0 ∷ []) [] (view limit 0 0 65537))
opens limit low = record {
  one_word = refl;
  word = refl;
  within = omega arith;
  bounded = low;
  seats = refl;
  each = each_one;
}
  where
    each_one : (k : ℕ) (v : View) → get_elem? (view limit 0 0 65537 ∷ []) k ≡ some v → Fits limit v
    each_one zero v e = subst (Fits limit) (some-injective _ v e) (fits_view limit 0 0 65537 (omega arith) (omega arith))
    each_one (suc k) v e = absurd (some-ne-none v (sym e))
