-- Sums over the values of a list of entries.
use Rattle.std.proofs.Common.{◌≡◌, ℕ, suc, ◌+◌, ◌<◌, ◌≤◌, List, [], ◌∷◌, length, get_or, sym, refl, ap, ◌∙◌, subst, arith, Bool, true, false, cond, Option, Some, None, map}
use Rattle.std.specs.Prelude.{Result, Ok, Err, IsOk, OnOk, sum_by, swap_remove, not, nat_eq, nat_lt}
use Rattle.std.specs.List.{position_or_len}
use Rattle.std.specs.Option.{option_map_or}
use Rattle.std.proofs.lemmas.Bool.{lt-ltb}
use Rattle.std.proofs.lemmas.List.{map-append, length-map}
use Rattle.std.proofs.lemmas.List.Sums.{sum_by-cons, sum_by-swap_remove, sum_by_push}
use Rattle.std.specs.Map.{keys_of, values_of, lookup}
use Rattle.std.specs.List.{IsDistinct}
use Rattle.std.specs.Cmp.{nat_eq_equiv}
use Rattle.std.proofs.lemmas.Map.{lookup-none}
use Rattle.std.proofs.lemmas.Map.Keys.{IsDistinct-tail}
use Rattle.std.proofs.lemmas.Map.Entries.{none_past_head}
use Rattle.indexmap.specs.IndexMap.{IndexMap, get, values, insert_entry, swap_remove_entry}
use Rattle.indexmap.proofs.CallerLemmas.{insert_entry-new}

pub by_bool : {C : Type 0} (q : Bool) → (q ≡ true → C) → (q ≡ false → C) → C
by_bool true y n = y refl
by_bool false y n = n refl

pub sum_map : {X Y : Type 0} (w : Y → ℕ) (f : X → Y) (xs : List X) → sum_by w (map f xs) ≡ sum_by (λ x. w (f x)) xs
sum_map w f [] = refl
sum_map w f (x ∷ xs) = sum_by-cons w (f x) (map f xs) ∙ ap (λ n. w (f x) + n) (sum_map w f xs) ∙ sym (sum_by-cons (λ y. w (f y)) x xs)

at_step : {X : Type 0} (x : X) (d e : ℕ × X) (b : Bool) (es : List (ℕ × X)) (n : ℕ) → (lookup_is : Option X) → (lookup_is ≡ Some x → (n < length es) × ((get_or es n d).1 ≡ x))
    → cond b (Some e.1) lookup_is ≡ Some x → (cond (not b) (1 + n) 0 < length (e ∷ es)) × ((get_or (e ∷ es) (cond (not b) (1 + n) 0) d).1 ≡ x)
at_step x d e true es n l rest h = (omega arith, cc)
at_step x d e false es n l rest h =
    let r = rest h in
    let one : suc n ≡ 1 + n = omega arith in
    (omega (arith, r.0), ap (λ (k : ℕ). (get_or (e ∷ es) k d).1) (sym one) ∙ r.1)

-- what a look-up finds stands at the place of the first key that passes
at_place : {X : Type 0} (test : ℕ → Bool) (es : List (ℕ × X)) (x : X) (d : ℕ × X) → lookup test es ≡ Some x → (position_or_len test (keys_of es) < length es) × ((get_or es (position_or_len test (keys_of es)) d).1 ≡ x)
at_place test [] x d h = absurd cc
at_place test (e ∷ es) x d h = at_step x d e (test e.0) es (position_or_len test (keys_of es)) (lookup test es) (at_place test es x d) h

swap_at : {X : Type 0} (w : X → ℕ) (e : ℕ × X) (es : List (ℕ × X)) (x : X) (i n : ℕ) → n ≡ length (e ∷ es) → i < length (e ∷ es) → (get_or (e ∷ es) i e).1 ≡ x
    → sum_by w (values_of (option_map_or (λ j. swap_remove (e ∷ es) j e) (cond (nat_lt i n) (Some i) None) (e ∷ es))) + w x ≡ sum_by w (values_of (e ∷ es))
swap_at w e es x i n long low is =
    let test : nat_lt i n ≡ true = lt-ltb i n (omega (arith, long, low)) in
    subst (λ (b : Bool). sum_by w (values_of (option_map_or (λ j. swap_remove (e ∷ es) j e) (cond b (Some i) None) (e ∷ es))) + w x ≡ sum_by w (values_of (e ∷ es))) (sym test)
    (let less = sum_by-swap_remove (λ (y : ℕ × _). w y.1) (e ∷ es) i e low in
    let a = sum_map w (λ (y : ℕ × _). y.1) (swap_remove (e ∷ es) i e) in
    let b = sum_map w (λ (y : ℕ × _). y.1) (e ∷ es) in
    let c : w (get_or (e ∷ es) i e).1 ≡ w x = ap w is in
    omega (arith, less, a, b, c))

-- a sum after `swap_remove` of a key that is there
pub sum_swapped : {X : Type 0} (w : X → ℕ) (test : ℕ → Bool) (es : List (ℕ × X)) (x : X) → lookup test es ≡ Some x → sum_by w (values_of (swap_remove_entry test es)) + w x ≡ sum_by w (values_of es)
sum_swapped w test [] x h = absurd cc
sum_swapped w test (e ∷ es) x h =
    let at = at_place test (e ∷ es) x e h in
    swap_at w e es x (position_or_len test (keys_of (e ∷ es))) (length (keys_of (e ∷ es))) (length-map (e ∷ es) (λ y. y.0)) at.0 at.1

-- a sum after `insert` of a new key
pub sum_inserted : {X S : Type 0} (w : X → ℕ) (m : IndexMap ℕ X S) (k : ℕ) (x : X) → get nat_eq m k ≡ None → sum_by w (values_of (insert_entry nat_eq m.entries k x)) ≡ sum_by w (values m) + w x
sum_inserted w m k x none =
    ap (λ (es : List (ℕ × _)). sum_by w (values_of es)) (insert_entry-new nat_eq m k x none)
    ∙ ap (sum_by w) (map-append (λ (e : ℕ × _). e.1) m.entries ((k, x) ∷ []))
    ∙ sum_by_push w (values m) x

-- what a look-up finds is in the sum
pub sum_found : {X : Type 0} (w : X → ℕ) (test : ℕ → Bool) (es : List (ℕ × X)) (x : X) → lookup test es ≡ Some x → w x ≤ sum_by w (values_of es)
sum_found w test es x h = let s = sum_swapped w test es x h in omega (arith, s)

-- a look-up in the rest finds the same in the whole, where no two keys are equal
pub tail_look : {X : Type 0} (e : ℕ × X) (es : List (ℕ × X)) (i : ℕ) (x : X) → IsDistinct nat_eq (keys_of (e ∷ es)) → lookup (nat_eq i) es ≡ Some x → lookup (nat_eq i) (e ∷ es) ≡ Some x
tail_look e es i x distinct h = by_bool (nat_eq i e.0)
    (λ same. let none : lookup (nat_eq i) es ≡ None = lookup-none (nat_eq i) es (none_past_head nat_eq_equiv i e es distinct same) in let clash : None ≡ Some x = sym none ∙ h in absurd cc)
    (λ other. ap (λ (b : Bool). cond b (Some e.1) (lookup (nat_eq i) es)) other ∙ h)

-- the first entry is found under its key
pub head_look : {X : Type 0} (e : ℕ × X) (es : List (ℕ × X)) → lookup (nat_eq e.0) (e ∷ es) ≡ Some e.1
head_look e es = ap (λ (b : Bool). cond b (Some e.1) (lookup (nat_eq e.0) es)) (nat_eq_equiv.refl e.0)

-- nothing weighs where nothing that a look-up finds does
pub sum_none : {X : Type 0} (w : X → ℕ) (es : List (ℕ × X)) → IsDistinct nat_eq (keys_of es) → ((i : ℕ) (x : X) → lookup (nat_eq i) es ≡ Some x → w x ≡ 0) → sum_by w (values_of es) ≡ 0
sum_none w [] distinct none = refl
sum_none w (e ∷ es) distinct none =
    let rest = sum_none w es (IsDistinct-tail nat_eq e.0 (keys_of es) distinct) (λ i x h. none i x (tail_look e es i x distinct h)) in
    let first = none e.0 e.1 (head_look e es) in
    omega (arith, sum_by-cons w e.1 (values_of es), rest, first)

pub of_ok : {T E : Type 0} (r : Result T E) (P : Type 0) → IsOk r → OnOk r P → P
of_ok (Ok x) P ok p = p
of_ok (Err e) P ok p = absurd cc

pub sum_put : {X S : Type 0} (w : X → ℕ) (m : IndexMap ℕ X S) (k : ℕ) (x : X) (fs : List (ℕ × X)) → fs ≡ insert_entry nat_eq m.entries k x → get nat_eq m k ≡ None → sum_by w (values_of fs) ≡ sum_by w (values m) + w x
sum_put w m k x fs is none = ap (λ (es : List (ℕ × _)). sum_by w (values_of es)) is ∙ sum_inserted w m k x none
