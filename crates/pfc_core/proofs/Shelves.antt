-- Slots and blocks, by number.
use Rattle.std.proofs.Common.{◌≡◌, ℕ, ◌+◌, List, [], ◌∷◌, map, sym, refl, ap, ◌∙◌, subst, arith, Bool, cond, Option, Some, None, ◌==◌, tests, eq-eqb, ne_eqb}
use Rattle.std.specs.Prelude.{IsSome, sum_by, nat_eq, if◌then◌else◌, option_map}
use Rattle.std.specs.Map.{keys_of, values_of, lookup}
use Rattle.std.specs.List.{IsDistinct}
use Rattle.std.specs.Cmp.{nat_eq_equiv}
use Rattle.std.proofs.lemmas.Bool.{eqb-true}
use Rattle.std.proofs.lemmas.Map.{lookup-none}
use Rattle.std.proofs.lemmas.Map.Keys.{IsDistinct-tail}
use Rattle.std.proofs.lemmas.Map.Entries.{none_past_head}
use Rattle.pfc_world.specs.declared.origin.World.{Ghosts}
use Rattle.pfc_core.specs.declared.slot.Slot.{Slot}
use Rattle.pfc_core.specs.declared.shelf.Place.{Place}
use Rattle.pfc_core.specs.Slots.{slot_of, IsSingle, weight_in, Changes}
use Rattle.pfc_core.specs.Shelf.{slot_in, IsPlaced}
use Rattle.pfc_core.proofs.Entries.{by_bool, tail_look, head_look, sum_map}

look_step : {W : Type 0} {g : Ghosts W} (i : ℕ) (e : ℕ × Place W g) (o : Option Slot) (l : Option (Place W g)) → e.1.slot.block ≡ e.0 → o ≡ option_map slot_in l
    → (if e.1.slot.block == i then Some e.1.slot else o) ≡ option_map slot_in (cond (nat_eq i e.0) (Some e.1) l)
look_step i e o l block same = by_bool (nat_eq i e.0)
    (λ yes. ap (λ (b : Bool). if b then Some e.1.slot else o) (eq-eqb e.1.slot.block i (grind (arith, tests))) ∙ sym (ap (λ (b : Bool). option_map slot_in (cond b (Some e.1) l)) yes))
    (λ no. ap (λ (b : Bool). if b then Some e.1.slot else o) (ne_eqb e.1.slot.block i (λ h. absurd (grind (arith, tests)))) ∙ same ∙ sym (ap (λ (b : Bool). option_map slot_in (cond b (Some e.1) l)) no))

-- the slot of a block is what stands under its number
pub slot_look : {W : Type 0} {g : Ghosts W} (i : ℕ) (es : List (ℕ × Place W g)) → IsDistinct nat_eq (keys_of es) → ((j : ℕ) (p : Place W g) → lookup (nat_eq j) es ≡ Some p → p.slot.block ≡ j)
    → slot_of i (map slot_in (values_of es)) ≡ option_map slot_in (lookup (nat_eq i) es)
slot_look i [] distinct keyed = refl
slot_look i (e ∷ es) distinct keyed =
    look_step i e (slot_of i (map slot_in (values_of es))) (lookup (nat_eq i) es) (keyed e.0 e.1 (head_look e es))
    (slot_look i es (IsDistinct-tail nat_eq e.0 (keys_of es) distinct) (λ j p h. keyed j p (tail_look e es j p distinct h)))

pub single : {W : Type 0} {g : Ghosts W} (es : List (ℕ × Place W g)) → IsDistinct nat_eq (keys_of es) → ((j : ℕ) (p : Place W g) → lookup (nat_eq j) es ≡ Some p → p.slot.block ≡ j) → IsSingle (map slot_in (values_of es))
single [] distinct keyed = tt
single (e ∷ es) distinct keyed =
    let rest = IsDistinct-tail nat_eq e.0 (keys_of es) distinct in
    let below = λ (j : ℕ) (p : Place _ _) (h : lookup (nat_eq j) es ≡ Some p). keyed j p (tail_look e es j p distinct h) in
    let block : e.1.slot.block ≡ e.0 = keyed e.0 e.1 (head_look e es) in
    let none : lookup (nat_eq e.0) es ≡ None = lookup-none (nat_eq e.0) es (none_past_head nat_eq_equiv e.0 e es distinct (nat_eq_equiv.refl e.0)) in
    (subst (λ (k : ℕ). slot_of k (map slot_in (values_of es)) ≡ None) (sym block) (slot_look e.0 es rest below ∙ ap (option_map slot_in) none), single es rest below)

abbrev pub place_weight : {W : Type 0} {g : Ghosts W} → (Place W g → ℕ) → Option (Place W g) → ℕ
place_weight v None = 0
place_weight v (Some p) = v p

weight_same : {W : Type 0} {g : Ghosts W} (w : Slot → ℕ) (o : Option (Place W g)) → weight_in w (option_map slot_in o) ≡ place_weight (λ (p : Place W g). w p.slot) o
weight_same w None = refl
weight_same w (Some p) = refl

pub weigh : {W : Type 0} {g : Ghosts W} (w : Slot → ℕ) (es : List (ℕ × Place W g)) → sum_by w (map slot_in (values_of es)) ≡ sum_by (λ (p : Place W g). w p.slot) (values_of es)
weigh w es = sum_map w slot_in (values_of es)

pub none_is : {W : Type 0} {g : Ghosts W} (l : Option (Place W g)) → option_map slot_in l ≡ None → l ≡ None
none_is None h = refl
none_is (Some p) h = absurd cc

pub some_is : {W : Type 0} {g : Ghosts W} (l : Option (Place W g)) (s : Slot) → option_map slot_in l ≡ Some s → (p : Place W g) × (l ≡ Some p) × (p.slot ≡ s)
some_is None s h = absurd cc
some_is (Some p) s h = (p, refl, cc)

-- one place changes
module _ {W : Type 0} {g : Ghosts W} (path : List ℕ) (size k b : ℕ) (is : Option (Place W g)) (es fs : List (ℕ × Place W g))
    (kept : (i : ℕ) (p : Place W g) → lookup (nat_eq i) es ≡ Some p → IsPlaced path size k i p)
    (updates : (q : ℕ) → lookup (nat_eq q) fs ≡ cond (nat_eq b q) is (lookup (nat_eq q) es))
    (placed : (p : Place W g) → is ≡ Some p → IsPlaced path size k b p) where
  pub kept_after : (i : ℕ) (p : Place W g) → lookup (nat_eq i) fs ≡ Some p → IsPlaced path size k i p
  kept_after i p h = by_bool (nat_eq b i)
      (λ yes. subst (λ (j : ℕ). IsPlaced path size k j p) (eqb-true b i yes) (placed p (sym (updates i ∙ ap (λ (q : Bool). cond q is (lookup (nat_eq i) es)) yes) ∙ h)))
      (λ no. kept i p (sym (updates i ∙ ap (λ (q : Bool). cond q is (lookup (nat_eq i) es)) no) ∙ h))

  pub at_after : IsDistinct nat_eq (keys_of es) → IsDistinct nat_eq (keys_of fs) → (i : ℕ) → slot_of i (map slot_in (values_of fs)) ≡ (if b == i then option_map slot_in is else slot_of i (map slot_in (values_of es)))
  at_after one two i =
      slot_look i fs two (λ j p h. (kept_after j p h).number) ∙ ap (option_map slot_in) (updates i) ∙ by_bool (nat_eq b i)
      (λ yes. ap (λ (q : Bool). option_map slot_in (cond q is (lookup (nat_eq i) es))) yes ∙ sym (ap (λ (q : Bool). if q then option_map slot_in is else slot_of i (map slot_in (values_of es))) yes))
      (λ no. ap (λ (q : Bool). option_map slot_in (cond q is (lookup (nat_eq i) es))) no ∙ sym (slot_look i es one (λ j p h. (kept j p h).number)) ∙ sym (ap (λ (q : Bool). if q then option_map slot_in is else slot_of i (map slot_in (values_of es))) no))

  pub changed : (was : Option (Place W g)) → IsDistinct nat_eq (keys_of es) → IsDistinct nat_eq (keys_of fs) → ((v : Place W g → ℕ) → sum_by v (values_of fs) + place_weight v was ≡ sum_by v (values_of es) + place_weight v is)
      → Changes b (option_map slot_in was) (option_map slot_in is) (record { path = path; size = size; block_size = k; slots = map slot_in (values_of es) }) (record { path = path; size = size; block_size = k; slots = map slot_in (values_of fs) })
  changed was one two weighs = record {
    path = refl;
    size = refl;
    block_size = refl;
    at = at_after one two;
    weighs = λ w. let v = λ (p : Place W g). w p.slot in
        omega (arith, weighs v, weigh w es, weigh w fs, weight_same w was, weight_same w is);
  }

pub placed_one : {W : Type 0} {g : Ghosts W} (path : List ℕ) (size k b : ℕ) (w : Place W g) → IsPlaced path size k b w → (p : Place W g) → Some w ≡ Some p → IsPlaced path size k b p
placed_one path size k b w placed p h = let same : w ≡ p = cc in subst (λ (q : Place _ _). IsPlaced path size k b q) same placed

-- the slot of what stands there
pub slot_there : {W : Type 0} {g : Ghosts W} (l : Option (Place W g)) (p : Place W g) (s : Slot) → l ≡ Some p → option_map slot_in l ≡ Some s → p.slot ≡ s
slot_there None p s h there = absurd cc
slot_there (Some q) p s h there = let same : q ≡ p = cc in let is : q.slot ≡ s = cc in sym (ap slot_in same) ∙ is

pub not_there : {W : Type 0} {g : Ghosts W} (l : Option (Place W g)) (s : Slot) → l ≡ None → option_map slot_in l ≡ Some s → ⊥
not_there None s h there = let clash : None ≡ Some s = there in cc
not_there (Some q) s h there = absurd cc

pub some_yes : {X : Type 0} (l : Option X) (x : X) → l ≡ Some x → IsSome l
some_yes None x h = absurd cc
some_yes (Some y) x h = refl
