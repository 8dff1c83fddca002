-- What stands at a place after a write at one, and what a write at a place is by path.
use Rattle.std.proofs.Common.{◌≡◌, ◌⊎◌, inl, inr, ℕ, zero, suc, List, [], ◌∷◌, ◌++◌, length, Bool, true, false, cond, Option, Some, None, refl, sym, ap, ◌∙◌, subst, arith}
use Rattle.std.specs.Prelude.{slice_get, slice_set, if◌then◌else◌}
use Rattle.std.specs.List.{IsDistinct}
use Rattle.std.specs.Map.{keys_of, lookup}
use Rattle.std.proofs.lemmas.Cmp.{nat_list_eq_equiv}
use Rattle.std.proofs.lemmas.Map.{lookup-none}
use Rattle.std.proofs.lemmas.Map.Keys.{IsDistinct-tail}
use Rattle.std.proofs.lemmas.Map.Entries.{none_past_head, lookup_from_place}
use Rattle.std.proofs.lemmas.Option.{none-some, same_Some}
use Rattle.indexmap.specs.IndexMap.{set_value_at, insert_entry}
use Rattle.pfc_catalog.specs.Files.{same_path}

pub by_bool : {C : Type 0} (q : Bool) → (q ≡ true → C) → (q ≡ false → C) → C
by_bool true y n = y refl
by_bool false y n = n refl

pub by_option : {X C : Type 0} (o : Option X) → (o ≡ None → C) → ((x : X) → o ≡ Some x → C) → C
by_option None n s = n refl
by_option (Some x) n s = s x refl

pub same-nat : {C : Type 0} (a b : ℕ) → (a ≡ b → C) → ((a ≡ b → ⊥) → C) → C
same-nat zero zero y n = y refl
same-nat zero (suc b) y n = n (λ h. omega arith)
same-nat (suc a) zero y n = n (λ h. omega arith)
same-nat (suc a) (suc b) y n = same-nat a b (λ h. y (ap suc h)) (λ d. n (λ h. d (omega (arith, h))))

module _ {X : Type 0} where
  pub get-set_same : (xs : List X) (i : ℕ) (y x : X) → slice_get xs i ≡ Some x → slice_get (slice_set xs i y) i ≡ Some y
  get-set_same [] i y x h = absurd (none-some x h)
  get-set_same (z ∷ zs) zero y x h = refl
  get-set_same (z ∷ zs) (suc i) y x h = get-set_same zs i y x h

  pub get-set_other : (xs : List X) (i j : ℕ) (y : X) → (i ≡ j → ⊥) → slice_get (slice_set xs i y) j ≡ slice_get xs j
  get-set_other [] i j y apart = refl
  get-set_other (z ∷ zs) zero zero y apart = absurd (apart refl)
  get-set_other (z ∷ zs) zero (suc j) y apart = refl
  get-set_other (z ∷ zs) (suc i) zero y apart = refl
  get-set_other (z ∷ zs) (suc i) (suc j) y apart = get-set_other zs i j y (λ h. apart (ap suc h))

  -- what stands at a place of a list with one more at its end
  pub get-push : (xs : List X) (x y : X) (j : ℕ) → slice_get (xs ++ x ∷ []) j ≡ Some y → ((j ≡ length xs) × (x ≡ y)) ⊎ (slice_get xs j ≡ Some y)
  get-push [] x y zero h = inl (refl, same_Some x y h)
  get-push [] x y (suc j) h = absurd (none-some y h)
  get-push (z ∷ zs) x y zero h = inr h
  get-push (z ∷ zs) x y (suc j) h = elim (get-push zs x y j h) [ inl s ↦ inl (ap suc s.0, s.1) | inr s ↦ inr s ]

  pub get-push_before : (xs : List X) (x y : X) (j : ℕ) → slice_get xs j ≡ Some y → slice_get (xs ++ x ∷ []) j ≡ Some y
  get-push_before [] x y j h = absurd (none-some y h)
  get-push_before (z ∷ zs) x y zero h = h
  get-push_before (z ∷ zs) x y (suc j) h = get-push_before zs x y j h

  pub get-push_last : (xs : List X) (x : X) → slice_get (xs ++ x ∷ []) (length xs) ≡ Some x
  get-push_last [] x = refl
  get-push_last (z ∷ zs) x = get-push_last zs x

module _ {K V : Type 0} where
  pub get-value_same : (es : List (K × V)) (i : ℕ) (w : V) (f : K × V) → slice_get es i ≡ Some f → slice_get (set_value_at es i w) i ≡ Some (f.0, w)
  get-value_same [] i w f h = absurd (none-some f h)
  get-value_same (e ∷ es) zero w f h = ap (λ (g : K × V). Some (g.0, w)) (same_Some e f h)
  get-value_same (e ∷ es) (suc i) w f h = get-value_same es i w f h

  pub get-value_other : (es : List (K × V)) (i j : ℕ) (w : V) → (i ≡ j → ⊥) → slice_get (set_value_at es i w) j ≡ slice_get es j
  get-value_other [] i j w apart = refl
  get-value_other (e ∷ es) zero zero w apart = absurd (apart refl)
  get-value_other (e ∷ es) zero (suc j) w apart = refl
  get-value_other (e ∷ es) (suc i) zero w apart = refl
  get-value_other (e ∷ es) (suc i) (suc j) w apart = get-value_other es i j w (λ h. apart (ap suc h))

-- a write at the place of a path is a write by the path
pub set_is_put : {V : Type 0} (es : List (List ℕ × V)) (i : ℕ) (path : List ℕ) (was w : V) → IsDistinct same_path (keys_of es) → slice_get es i ≡ Some (path, was) → set_value_at es i w ≡ insert_entry same_path es path w
set_is_put [] i path was w distinct h = absurd (none-some (path, was) h)
set_is_put {V} (e ∷ es) zero path was w distinct h =
    let is : e ≡ (path, was) = same_Some e (path, was) h in
    let same : same_path path e.0 ≡ true = subst (λ (k : List ℕ). same_path path k ≡ true) (ap (λ (g : List ℕ × V). g.0) (sym is)) (nat_list_eq_equiv.refl path) in
    sym (ap (λ (b : Bool). if b then (e.0, w) ∷ es else e ∷ insert_entry same_path es path w) same)
set_is_put {V} (e ∷ es) (suc i) path was w distinct h =
    let rest = IsDistinct-tail same_path e.0 (keys_of es) distinct in
    let found = lookup_from_place nat_list_eq_equiv es i path was rest h in
    by_bool (same_path path e.0)
    (λ yes. absurd (none-some was (sym (lookup-none (same_path path) es (none_past_head nat_list_eq_equiv path e es distinct yes)) ∙ found)))
    (λ no. ap (λ (l : List (List ℕ × V)). e ∷ l) (set_is_put es i path was w rest h) ∙ sym (ap (λ (b : Bool). if b then (e.0, w) ∷ es else e ∷ insert_entry same_path es path w) no))

-- a path that isn't there comes last
pub push_is_put : {V : Type 0} (es : List (List ℕ × V)) (path : List ℕ) (w : V) → lookup (same_path path) es ≡ None → es ++ (path, w) ∷ [] ≡ insert_entry same_path es path w
push_is_put [] path w none = refl
push_is_put {V} (e ∷ es) path w none =
    by_bool (same_path path e.0)
    (λ yes. absurd (none-some e.1 (sym none ∙ ap (λ (b : Bool). cond b (Some e.1) (lookup (same_path path) es)) yes)))
    (λ no.
    let rest : lookup (same_path path) es ≡ None = sym (ap (λ (b : Bool). cond b (Some e.1) (lookup (same_path path) es)) no) ∙ none in
    ap (λ (l : List (List ℕ × V)). e ∷ l) (push_is_put es path w rest) ∙ sym (ap (λ (b : Bool). if b then (e.0, w) ∷ es else e ∷ insert_entry same_path es path w) no))
