-- Where a search for a path ends.
use Rattle.std.specs.Prelude.{All, AllPairs, HoldsAt}
use Rattle.std.specs.List.{AllWithin}
use Rattle.std.specs.List.Sorted.{IsSortedBy, IsSearchInRange, IsBinarySearchResult}
use Rattle.std.specs.FinMap.{slice_cmp-IsAntisymmetric, nat_cmp-IsAntisymmetric}
use Rattle.std.specs.Cmp.Lexicographic.{slice_cmp}
use Rattle.std.specs.Ordering.{nat_cmp, ordering_reverse}
use Rattle.std.specs.declared.cmp.Ordering.{Ordering}
use Rattle.std.specs.declared.cmp.Ordering.TheVariants.{Less, Equal, Greater}
use Rattle.std.proofs.Common.{◌≡◌, ◌≢◌, ℕ, suc, ◌+◌, ◌-◌, ◌<◌, ◌≤◌, Bool, true, false, List, ◌∷◌, Option, Some, None, Result, Ok, Err, IfOk, IfErr, length, map, take, drop, get_or, refl, sym, subst, ap, ◌∙◌, arith, is_lt, is_eq, T, length-take, length-drop, get_or-take, get_or-drop}
use Rattle.std.proofs.lemmas.Cmp.{nat_list_cmp_total, tied_itself}
use Rattle.std.proofs.lemmas.List.{length-map, get_or-map}
use Rattle.std.proofs.lemmas.List.Sorted.{searchable_from_sorted}
use Rattle.std.proofs.lemmas.List.Elements.{All-weaker}
use Rattle.std.proofs.lemmas.Grind.{common_steps}
use Rattle.pfc_world.specs.Depot.{InByteOrder}
use Rattle.pfc_memory.specs.Depot.{volume_of, paths_of, IsPlaceOf, IsGapFor}
use Rattle.pfc_memory.specs.declared.volume.Volume.{Volume}
use Rattle.pfc_memory.proofs.Volumes.{volume_none}

-- what comes before is another
pub less_apart : (a b : List ℕ) → slice_cmp nat_cmp a b ≡ Less → a ≢ b
less_apart a b less same = absurd (subst (λ o. T (is_eq o)) (sym (subst (λ x. slice_cmp nat_cmp a x ≡ Equal) same (tied_itself nat_list_cmp_total a)) ∙ less) tt)

pub rises : (volumes : List Volume) → InByteOrder (paths_of volumes) → (i j : ℕ) (d : Volume) → i < j → j < length volumes → slice_cmp nat_cmp (get_or volumes i d).path (get_or volumes j d).path ≡ Less
rises volumes order i j d below within =
    let long = length-map volumes (λ (v : Volume). v.path) in
    let early = get_or-map (λ (v : Volume). v.path) volumes i d d.path (omega (arith, below, within)) in
    let late = get_or-map (λ (v : Volume). v.path) volumes j d d.path within in
    let up = order i j d.path below (omega (arith, long, within)) in
    grind (arith, early, late, up)

pub sorted : (volumes : List Volume) → InByteOrder (paths_of volumes) → IsSortedBy (λ a b. is_lt (slice_cmp nat_cmp a.path b.path)) volumes
sorted volumes order k d low within =
    let up = rises volumes order k (k + 1) d (omega arith) within in
    let down = nat_list_cmp_total.antisymm (get_or volumes (k + 1) d).path (get_or volumes k d).path in
    grind (arith, up, down)

pub placed : (volumes : List Volume) (path : List ℕ) (at : ℕ) → InByteOrder (paths_of volumes) → at < length volumes → HoldsAt (λ v. slice_cmp nat_cmp v.path path ≡ Equal) volumes at → IsPlaceOf volumes path at
placed volumes path at order within tied =
    let here : HoldsAt (λ v. v.path ≡ path) volumes at = λ d. slice_cmp-IsAntisymmetric nat_cmp-IsAntisymmetric _ _ (tied d) in
    record {
      within = within;
      here = here;
      before = volume_none (take at volumes) path (λ k d below same. let short : length (take at volumes) ≡ at = grind (arith, common_steps, within) in let is = get_or-take at volumes k d (omega (arith, below, short)) in less_apart _ _ (rises volumes order k at d (omega (arith, below, short)) within) (sym (ap (λ (v : Volume). v.path) is) ∙ same ∙ sym (here d)));
      after = volume_none (drop (at + 1) volumes) path (λ k d below same. let short = length-drop (at + 1) volumes in let is = get_or-drop (at + 1) volumes k d in less_apart _ _ (rises volumes order at (at + 1 + k) d (omega arith) (omega (arith, below, short))) (here d ∙ sym same ∙ ap (λ (v : Volume). v.path) is));
    }

-- what a binary search by the path answers
pub found : (volumes : List Volume) (path : List ℕ) (r : Result ℕ ℕ) → InByteOrder (paths_of volumes) → IsSearchInRange r (length volumes) →
    IsBinarySearchResult (λ v. slice_cmp nat_cmp v.path path) volumes r → IfOk r (λ at. IsPlaceOf volumes path at) × IfErr r (λ at. IsGapFor volumes path at)
found volumes path (Ok at) order within tied = (placed volumes path at order within tied, tt)
found volumes path (Err at) order within parted =
    let both = parted (searchable_from_sorted nat_list_cmp_total (λ (v : Volume). v.path) volumes path (sorted volumes order)) in
    (tt, record { within = within; below = both.0; above = both.1 })

-- ---- about a gap

greater_apart : (a b : List ℕ) → slice_cmp nat_cmp a b ≡ Greater → a ≢ b
greater_apart a b greater same = absurd (subst (λ o. T (is_eq o)) (sym (subst (λ x. slice_cmp nat_cmp a x ≡ Equal) same (tied_itself nat_list_cmp_total a)) ∙ greater) tt)

pub gap_below : (volumes : List Volume) (path : List ℕ) (at : ℕ) → IsGapFor volumes path at → All (λ v. slice_cmp nat_cmp v.path path ≡ Less) (take at volumes)
gap_below volumes path at gap k d short =
    let long = length-take at volumes in
    let low : k < at = omega (arith, long, short, gap.within) in
    subst (λ (v : Volume). slice_cmp nat_cmp v.path path ≡ Less) (sym (get_or-take at volumes k d low)) (gap.below k d (omega arith) low)

pub gap_above : (volumes : List Volume) (path : List ℕ) (at : ℕ) → IsGapFor volumes path at → All (λ v. slice_cmp nat_cmp v.path path ≡ Greater) (drop at volumes)
gap_above volumes path at gap k d short =
    let long = length-drop at volumes in
    subst (λ (v : Volume). slice_cmp nat_cmp v.path path ≡ Greater) (sym (get_or-drop at volumes k d)) (gap.above (at + k) d (omega arith) (omega (arith, long, short)))

pub gap_before : (volumes : List Volume) (path : List ℕ) (at : ℕ) → IsGapFor volumes path at → volume_of (take at volumes) path ≡ None
gap_before volumes path at gap = volume_none (take at volumes) path (All-weaker _ _ (λ (v : Volume) less. less_apart v.path path less) (take at volumes) (gap_below volumes path at gap))

pub gap_after : (volumes : List Volume) (path : List ℕ) (at : ℕ) → IsGapFor volumes path at → volume_of (drop at volumes) path ≡ None
gap_after volumes path at gap = volume_none (drop at volumes) path (All-weaker _ _ (λ (v : Volume) greater. greater_apart v.path path greater) (drop at volumes) (gap_above volumes path at gap))

-- the first path is no other's
pub first_apart : (v : Volume) (volumes : List Volume) → InByteOrder (paths_of (v ∷ volumes)) → All (λ w. w.path ≢ v.path) volumes
first_apart v volumes order k d within same = less_apart v.path (get_or volumes k d).path (rises (v ∷ volumes) order 0 (suc k) d (omega arith) (omega (arith, within))) (sym same)
