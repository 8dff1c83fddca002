-- What a crash leaves of the volumes.
use Rattle.std.specs.Prelude.{filter, is_none, Contains, if◌then◌else◌}
use Rattle.std.specs.List.{AllZip}
use Rattle.std.proofs.Common.{◌≡◌, ◌≢◌, ◌↔◌, inl, inr, ℕ, suc, ◌+◌, ◌<◌, ◌≤◌, ◌==◌, Bool, true, false, List, [], ◌∷◌, ◌++◌, Option, Some, None, length, map, refl, sym, subst, ap, ◌∙◌, arith, T, ⊎_elim, cond}
use Rattle.std.specs.Cmp.Lexicographic.{pointwise, other_text, same_text}
use Rattle.pfc_world.specs.Depot.{Nothing, InByteOrder}
use Rattle.pfc_memory.specs.Depot.{volume_of, paths_of, out_of, lent_of, data_home, main_home, IsDataAt, IsMainAt, IsDataOf, IsMainOf, LeavesOne, IsLeftOf, IsHomeLeftOf, IsVolumeLeftOf, IsLeftAt, AreFreshAt, HasFresh}
use Rattle.pfc_memory.specs.declared.numbers.Numbers.{Numbers}
use Rattle.pfc_memory.specs.declared.volume.Volume.{Volume}
use Rattle.pfc_memory.specs.declared.volume.Devices.{Devices}
use Rattle.pfc_memory.proofs.Volumes.{eq_true, some_none, volume_none, not_out, contains_cases, contains_tail, contains_head}
use Rattle.pfc_memory.proofs.Searches.{first_apart}

-- ---- what is out stays out

same_home : (numbers : Numbers) → (old new : Option Devices) → IsHomeLeftOf numbers old new → is_none new ≡ is_none old
same_home numbers None None left = refl
same_home numbers None (Some new) left = absurd left
same_home numbers (Some old) None left = absurd left
same_home numbers (Some old) (Some new) left = refl

pub paths_left : (numbers : Numbers) → (old new : List Volume) → AllZip (IsVolumeLeftOf numbers) old new → paths_of new ≡ paths_of old
paths_left numbers [] [] left = refl
paths_left numbers [] (w ∷ new) left = absurd left
paths_left numbers (v ∷ old) [] left = absurd left
paths_left numbers (v ∷ old) (w ∷ new) left = λ i. left.0.path i ∷ paths_left numbers old new left.1 i

pub outs_left : (numbers : Numbers) → (old new : List Volume) → AllZip (IsVolumeLeftOf numbers) old new → out_of new ≡ out_of old
outs_left numbers [] [] left = refl
outs_left numbers [] (w ∷ new) left = absurd left
outs_left numbers (v ∷ old) [] left = absurd left
outs_left numbers (v ∷ old) (w ∷ new) left =
    let rest = outs_left numbers old new left.1 in
    let home = same_home numbers v.home w.home left.0.home in
    let step : (t : Bool) → paths_of (cond t (w ∷ filter (λ x. is_none x.home) new) (filter (λ x. is_none x.home) new)) ≡ paths_of (cond t (v ∷ filter (λ x. is_none x.home) old) (filter (λ x. is_none x.home) old)) =
    λ t. elim t as (λ t. paths_of (cond t (w ∷ filter (λ x. is_none x.home) new) (filter (λ x. is_none x.home) new)) ≡ paths_of (cond t (v ∷ filter (λ x. is_none x.home) old) (filter (λ x. is_none x.home) old))) [
      | true ↦ λ i. left.0.path i ∷ rest i
      | false ↦ rest
    ] in
    ap (λ t. paths_of (cond t (w ∷ filter (λ x. is_none x.home) new) (filter (λ x. is_none x.home) new))) home ∙ step (is_none v.home)

-- ---- the volume of a path

abbrev FoundLeft : Numbers → Option Volume → Option Volume → Type 0
FoundLeft numbers None None = Unit {0}
FoundLeft numbers None (Some w) = ⊥
FoundLeft numbers (Some v) None = ⊥
FoundLeft numbers (Some v) (Some w) = IsVolumeLeftOf numbers v w

found_left : (numbers : Numbers) → (old new : List Volume) (path : List ℕ) → AllZip (IsVolumeLeftOf numbers) old new → FoundLeft numbers (volume_of old path) (volume_of new path)
found_left numbers [] [] path left = tt
found_left numbers [] (w ∷ new) path left = absurd left
found_left numbers (v ∷ old) [] path left = absurd left
found_left numbers (v ∷ old) (w ∷ new) path left =
    let rest = found_left numbers old new path left.1 in
    subst (λ p. FoundLeft numbers (if pointwise ◌==◌ path v.path then Some v else volume_of old path) (if pointwise ◌==◌ path p then Some w else volume_of new path)) (sym left.0.path)
    (elim (pointwise ◌==◌ path v.path) as (λ t. FoundLeft numbers (if t then Some v else volume_of old path) (if t then Some w else volume_of new path)) [
      | true ↦ left.0
      | false ↦ rest
    ])

lent_found : (numbers : Numbers) → (old new : Option Volume) → FoundLeft numbers old new → lent_of new ≡ lent_of old
lent_found numbers None None left = refl
lent_found numbers None (Some w) left = absurd left
lent_found numbers (Some v) None left = absurd left
lent_found numbers (Some v) (Some w) left = left.lent

pub lent_left : (numbers : Numbers) → (old new : List Volume) (path : List ℕ) → AllZip (IsVolumeLeftOf numbers) old new → lent_of (volume_of new path) ≡ lent_of (volume_of old path)
lent_left numbers old new path left = lent_found numbers (volume_of old path) (volume_of new path) (found_left numbers old new path left)

-- ---- what is home

-- the path's volume is known, and its devices aren't home
abbrev IsAwayIn : Option Volume → Type 0
IsAwayIn None = ⊥
IsAwayIn (Some v) = v.home ≡ None

pairs_tail : (v : Volume) (volumes : List Volume) → InByteOrder (paths_of (v ∷ volumes)) → InByteOrder (paths_of volumes)
pairs_tail v volumes order i j d below within = order (suc i) (suc j) d (omega (arith, below)) (omega (arith, within))

is_away : (v : Volume) → is_none v.home ≡ true → v.home ≡ None
is_away v none = (elim v.home as (λ kept. is_none kept ≡ true → kept ≡ None) [
  | None ↦ λ e. refl
  | Some devices ↦ λ e. absurd (subst (λ t. T t) (sym e) tt)
]) none

out_found : (volumes : List Volume) (path : List ℕ) → InByteOrder (paths_of volumes) → Contains (out_of volumes) path → IsAwayIn (volume_of volumes path)
out_found [] path order (k, within, is) = absurd (omega (arith, within))
out_found (v ∷ volumes) path order held =
    let out : Bool → List (List ℕ) = λ t. paths_of (cond t (v ∷ filter (λ x. is_none x.home) volumes) (filter (λ x. is_none x.home) volumes)) in
    (elim (pointwise ◌==◌ path v.path) as (λ t. t ≡ pointwise ◌==◌ path v.path → IsAwayIn (if t then Some v else volume_of volumes path)) [
      | true ↦ λ e. let same = same_text path v.path e in
          (elim (is_none v.home) as (λ t. is_none v.home ≡ t → Contains (out t) path → v.home ≡ None) [
            | true ↦ λ none held. is_away v none
            | false ↦ λ some held. absurd (not_out volumes path (subst (λ p. volume_of volumes p ≡ None) (sym same) (volume_none volumes v.path (first_apart v volumes order))) held)
          ]) refl held
      | false ↦ λ e.
          (elim (is_none v.home) as (λ t. Contains (out t) path → IsAwayIn (volume_of volumes path)) [
            | true ↦ λ held. ⊎_elim (λ same. absurd (other_text path v.path e (sym same))) (out_found volumes path (pairs_tail v volumes order)) (contains_cases v.path (out_of volumes) path held)
            | false ↦ out_found volumes path (pairs_tail v volumes order)
          ]) held
    ]) refl

away_out : (volumes : List Volume) (path : List ℕ) → IsAwayIn (volume_of volumes path) → Contains (out_of volumes) path
away_out [] path away = absurd away
away_out (v ∷ volumes) path away =
    let out : Bool → List (List ℕ) = λ t. paths_of (cond t (v ∷ filter (λ x. is_none x.home) volumes) (filter (λ x. is_none x.home) volumes)) in
    (elim (pointwise ◌==◌ path v.path) as (λ t. t ≡ pointwise ◌==◌ path v.path → IsAwayIn (if t then Some v else volume_of volumes path) → Contains (out (is_none v.home)) path) [
      | true ↦ λ e none. subst (λ t. Contains (out t) path) (sym (ap is_none none)) (subst (λ p. Contains (v.path ∷ out_of volumes) p) (sym (same_text path v.path e)) (contains_head v.path (out_of volumes)))
      | false ↦ λ e away. let rest = away_out volumes path away in
          elim (is_none v.home) as (λ t. Contains (out t) path) [
            | true ↦ contains_tail v.path (out_of volumes) path rest
            | false ↦ rest
          ]
    ]) refl away

record Emptied (found : Option Volume) : Type 0 where
  no_data : Nothing (IsDataOf found)
  no_main : Nothing (IsMainOf found)

away_found : (found : Option Volume) → IsAwayIn found → Emptied found
away_found None away = absurd away
away_found (Some v) away = record {
  no_data = λ image one. subst (λ kept. IsDataAt kept image) away one;
  no_main = λ main one. subst (λ kept. IsMainAt kept main) away one;
}

pub away_left : (numbers : Numbers) → (old new : List Volume) (path : List ℕ) → InByteOrder (paths_of old) → AllZip (IsVolumeLeftOf numbers) old new → Contains (out_of old) path → Nothing (data_home new path) × Nothing (main_home new path)
away_left numbers old new path order left held =
    let order_new = subst (λ paths. InByteOrder paths) (sym (paths_left numbers old new left)) order in
    let held_new = subst (λ paths. Contains paths path) (sym (outs_left numbers old new left)) held in
    let both = away_found (volume_of new path) (out_found new path order_new held_new) in
    (both.no_data, both.no_main)

record LeftOne (old new : Option Volume) : Type 0 where
  one_data : LeavesOne (IsDataOf old) (IsDataOf new)
  one_main : LeavesOne (IsMainOf old) (IsMainOf new)

home_one : (numbers : Numbers) → (old new : Option Devices) → IsHomeLeftOf numbers old new → (old ≡ None → ⊥) → (LeavesOne (IsDataAt old) (IsDataAt new)) × (LeavesOne (IsMainAt old) (IsMainAt new))
home_one numbers None None left home = absurd (home refl)
home_one numbers None (Some e) left home = absurd left
home_one numbers (Some d) None left home = absurd left
home_one numbers (Some d) (Some e) left home = (left.left_data, left.left_main)

left_one : (numbers : Numbers) → (old new : Option Volume) → FoundLeft numbers old new → (IsAwayIn old → ⊥) → LeftOne old new
left_one numbers None None left home = record {
  one_data = record { left = []; before = refl; one = λ other. (λ e. e, λ e. e) };
  one_main = record { left = None; before = refl; one = λ other. (λ e. e, λ e. e) };
}
left_one numbers None (Some w) left home = absurd left
left_one numbers (Some v) None left home = absurd left
left_one numbers (Some v) (Some w) left home = let both = home_one numbers v.home w.home left.home home in record { one_data = both.0; one_main = both.1 }

pub home_left : (numbers : Numbers) → (old new : List Volume) (path : List ℕ) → AllZip (IsVolumeLeftOf numbers) old new → (Contains (out_of old) path → ⊥) → IsLeftAt path old new
home_left numbers old new path left home =
    let both = left_one numbers (volume_of old path) (volume_of new path) (found_left numbers old new path left) (λ away. home (away_out old path away)) in
    record { at_data = both.one_data; at_main = both.one_main }

-- ---- what is fresh

home_fresh : (numbers : Numbers) (old new : Option Devices) → IsHomeLeftOf numbers old new → AreFreshAt numbers new
home_fresh numbers None None left = tt
home_fresh numbers None (Some e) left = absurd left
home_fresh numbers (Some d) None left = absurd left
home_fresh numbers (Some d) (Some e) left = left.fresh

found_fresh : (numbers : Numbers) (old new : Option Volume) → FoundLeft numbers old new → HasFresh numbers new
found_fresh numbers None None left = tt
found_fresh numbers None (Some w) left = absurd left
found_fresh numbers (Some v) None left = absurd left
found_fresh numbers (Some v) (Some w) left = home_fresh numbers v.home w.home left.home

pub fresh_left : (numbers : Numbers) (old new : List Volume) (path : List ℕ) → AllZip (IsVolumeLeftOf numbers) old new → HasFresh numbers (volume_of new path)
fresh_left numbers old new path left = found_fresh numbers (volume_of old path) (volume_of new path) (found_left numbers old new path left)
