-- Volumes in the order of their paths.
use Rattle.std.specs.Prelude.{filter, is_none, Contains, AllPairs, All, if◌then◌else◌}
use Rattle.std.proofs.Common.{◌≡◌, ◌≢◌, ◌↔◌, ◌⊎◌, inl, inr, ℕ, zero, suc, ◌+◌, ◌<◌, ◌≤◌, ◌==◌, Bool, true, false, List, [], ◌∷◌, ◌++◌, Option, Some, None, length, map, take, drop, set, get_or, refl, sym, subst, ap, ◌∙◌, arith, IsTrue, IsSome, ⊎_elim, length-append, cond, T, is_some}
use Rattle.std.specs.Cmp.Lexicographic.{pointwise, other_text, same_text}
use Rattle.std.proofs.lemmas.List.{map-append, take-append-drop}
use Rattle.std.proofs.lemmas.List.Elements.{filter-append, Contains-append_left, Contains-append_right, Contains-append_cases, All-head, All-tail}
use Rattle.pfc_world.specs.Depot.{Gains, Loses}
use Rattle.pfc_memory.specs.Depot.{volume_of, paths_of, out_of}
use Rattle.pfc_memory.specs.declared.volume.Volume.{Volume}

-- ---- tests of paths

pub eq_true : (a b : List ℕ) → a ≡ b → pointwise ◌==◌ a b ≡ true
eq_true a b same =
    (elim (pointwise ◌==◌ a b) as (λ t. t ≡ pointwise ◌==◌ a b → t ≡ true) [
      | true ↦ λ e. refl
      | false ↦ λ e. absurd (other_text a b e same)
    ]) refl

eq_false : (a b : List ℕ) → a ≢ b → pointwise ◌==◌ a b ≡ false
eq_false a b other =
    (elim (pointwise ◌==◌ a b) as (λ t. t ≡ pointwise ◌==◌ a b → t ≡ false) [
      | true ↦ λ e. absurd (other (same_text a b e))
      | false ↦ λ e. refl
    ]) refl

pub some_none : {X : Type 0} → (x : X) → Some x ≡ None → ⊥
some_none x e = absurd (subst (λ found. T (is_some found)) e tt)

-- ---- the volume of a path

pub volume_past : (before rest : List Volume) (path : List ℕ) → volume_of before path ≡ None → volume_of (before ++ rest) path ≡ volume_of rest path
volume_past [] rest path none = refl
volume_past (v ∷ before) rest path none =
    (elim (pointwise ◌==◌ path v.path) as (λ t. (if t then Some v else volume_of before path) ≡ None → (if t then Some v else volume_of (before ++ rest) path) ≡ volume_of rest path) [
      | true ↦ λ some. absurd (some_none v some)
      | false ↦ λ below. volume_past before rest path below
    ]) none

pub volume_here : (before : List Volume) (v : Volume) (rest : List Volume) (path : List ℕ) → volume_of before path ≡ None → v.path ≡ path → volume_of (before ++ v ∷ rest) path ≡ Some v
volume_here before v rest path none same = volume_past before (v ∷ rest) path none ∙ ap (λ t. if t then Some v else volume_of rest path) (eq_true path v.path (sym same))

pub volume_elsewhere : (before : List Volume) (v : Volume) (rest : List Volume) (other : List ℕ) → other ≢ v.path → volume_of (before ++ v ∷ rest) other ≡ volume_of (before ++ rest) other
volume_elsewhere [] v rest other apart = ap (λ t. if t then Some v else volume_of rest other) (eq_false other v.path apart)
volume_elsewhere (w ∷ before) v rest other apart = ap (λ found. if pointwise ◌==◌ other w.path then Some w else found) (volume_elsewhere before v rest other apart)

pub volume_none : (volumes : List Volume) (path : List ℕ) → All (λ v. v.path ≢ path) volumes → volume_of volumes path ≡ None
volume_none [] path apart = refl
volume_none (v ∷ volumes) path apart =
    let other : path ≢ v.path = λ same. All-head (λ w. w.path ≢ path) v volumes apart (sym same) in
    ap (λ t. if t then Some v else volume_of volumes path) (eq_false path v.path other) ∙ volume_none volumes path (All-tail (λ w. w.path ≢ path) v volumes apart)

-- ---- lists of paths

abbrev is_out : Volume → Bool
is_out volume = is_none volume.home

pub contains_cases : {X : Type 0} → (x : X) (xs : List X) (y : X) → Contains (x ∷ xs) y → (x ≡ y) ⊎ Contains xs y
contains_cases x xs y (zero, within, is) = inl is
contains_cases x xs y (suc k, within, is) = inr (k, omega (arith, within), is)

pub contains_head : {X : Type 0} → (x : X) (xs : List X) → Contains (x ∷ xs) x
contains_head x xs = (0, omega arith, refl)

pub contains_tail : {X : Type 0} → (x : X) (xs : List X) (y : X) → Contains xs y → Contains (x ∷ xs) y
contains_tail x xs y held = Contains-append_right (x ∷ []) xs y held

pub not_out : (volumes : List Volume) (path : List ℕ) → volume_of volumes path ≡ None → Contains (out_of volumes) path → ⊥
not_out [] path none (k, within, is) = absurd (omega (arith, within))
not_out (v ∷ volumes) path none held =
    (elim (pointwise ◌==◌ path v.path) as (λ t. t ≡ pointwise ◌==◌ path v.path → (if t then Some v else volume_of volumes path) ≡ None → ⊥) [
      | true ↦ λ e some. some_none v some
      | false ↦ λ e below. (elim (is_none v.home) as (λ t. Contains (paths_of (cond t (v ∷ filter is_out volumes) (filter is_out volumes))) path → ⊥) [
        | true ↦ λ held. ⊎_elim (λ same. other_text path v.path e (sym same)) (not_out volumes path below) (contains_cases v.path (out_of volumes) path held)
        | false ↦ not_out volumes path below
      ]) held
    ]) refl none

pub out_append : (xs ys : List Volume) → out_of (xs ++ ys) ≡ out_of xs ++ out_of ys
out_append xs ys = ap paths_of (filter-append is_out xs ys) ∙ map-append _ (filter is_out xs) (filter is_out ys)

-- a volume that is home adds no path to those that are out, and one that is away adds its own
pub out_home : (before after : List Volume) (v : Volume) → is_none v.home ≡ false → out_of (before ++ v ∷ after) ≡ out_of before ++ out_of after
out_home before after v home = out_append before (v ∷ after) ∙ ap (λ t. out_of before ++ paths_of (cond t (v ∷ filter is_out after) (filter is_out after))) home

pub out_away : (before after : List Volume) (v : Volume) → is_none v.home ≡ true → out_of (before ++ v ∷ after) ≡ out_of before ++ v.path ∷ out_of after
out_away before after v away = out_append before (v ∷ after) ∙ ap (λ t. out_of before ++ paths_of (cond t (v ∷ filter is_out after) (filter is_out after))) away

-- ---- one path more and one less

others_of : (xs ys : List (List ℕ)) (path other : List ℕ) → other ≢ path → Contains (xs ++ path ∷ ys) other ↔ Contains (xs ++ ys) other
others_of xs ys path other apart = (
  λ held. ⊎_elim (Contains-append_left xs ys other) (λ behind. ⊎_elim (λ same. absurd (apart (sym same))) (Contains-append_right xs ys other) (contains_cases path ys other behind)) (Contains-append_cases xs (path ∷ ys) other held),
  λ held. ⊎_elim (Contains-append_left xs (path ∷ ys) other) (λ behind. Contains-append_right xs (path ∷ ys) other (contains_tail path ys other behind)) (Contains-append_cases xs ys other held),
)

one_more : (xs ys : List (List ℕ)) (path : List ℕ) → length (xs ++ path ∷ ys) ≡ suc (length (xs ++ ys))
one_more xs ys path = omega (arith, length-append xs (path ∷ ys), length-append xs ys)

pub gains : (xs ys : List (List ℕ)) (path : List ℕ) → Gains path (xs ++ ys) (xs ++ path ∷ ys)
gains xs ys path = record {
  here = Contains-append_right xs (path ∷ ys) path (0, omega arith, refl);
  others = others_of xs ys path;
  count = one_more xs ys path;
}

pub loses : (xs ys : List (List ℕ)) (path : List ℕ) → (Contains (xs ++ ys) path → ⊥) → Loses path (xs ++ path ∷ ys) (xs ++ ys)
loses xs ys path away = record {
  gone = away;
  others = λ other apart. let both = others_of xs ys path other apart in (both.1, both.0);
  count = one_more xs ys path;
}
