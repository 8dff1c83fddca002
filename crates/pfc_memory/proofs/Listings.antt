-- The paths of the first volumes of which a crash may leave something.
use Rattle.std.specs.Prelude.{All, AllPairs, Contains, if◌then◌else◌}
use Rattle.std.proofs.Common.{◌≡◌, ◌≢◌, ◌↔◌, ◌⊎◌, inl, inr, ℕ, ◌+◌, ◌<◌, ◌==◌, Bool, true, false, List, [], ◌∷◌, ◌++◌, Option, Some, None, length, map, take, get_or, refl, sym, subst, ap, ◌∙◌, arith, IsTrue, IsSome, T, ⊎_elim, length-take}
use Rattle.std.specs.Cmp.Lexicographic.{pointwise, slice_cmp, same_text, other_text}
use Rattle.std.specs.Ordering.{nat_cmp}
use Rattle.std.specs.declared.cmp.Ordering.TheVariants.{Less}
use Rattle.std.proofs.lemmas.List.{append-nil, take_more, get_or_default, get_or-take}
use Rattle.std.proofs.Math.Seq.{take-append_seam}
use Rattle.std.proofs.lemmas.List.Elements.{All-push, All-take, All-contains, Contains-append_left, Contains-push, Contains-push_cases}
use Rattle.std.proofs.lemmas.List.Quantifiers.{all_pairs_push}
use Rattle.pfc_world.specs.Depot.{InByteOrder, HasVolume}
use Rattle.pfc_memory.specs.Depot.{volume_of, paths_of, data_home, main_home, IsDataAt, IsMainAt, IsDataOf, IsMainOf, Lists}
use Rattle.pfc_memory.specs.declared.volume.Volume.{Volume}
use Rattle.pfc_memory.proofs.Volumes.{volume_here, volume_elsewhere, volume_none}
use Rattle.pfc_memory.proofs.Searches.{less_apart, rises}

-- a crash may leave something of what was found
abbrev pub Has : Option Volume → Type 0
Has found = HasVolume (IsDataOf found) (IsMainOf found)

pub record Listing (volumes : List Volume) (paths : List (List ℕ)) : Type 0 where
  pub order : InByteOrder paths
  pub lists : Lists volumes paths
  pub below : (path : List ℕ) → All (λ v. slice_cmp nat_cmp v.path path ≡ Less) volumes → All (λ p. slice_cmp nat_cmp p path ≡ Less) paths

has_nothing : Has None → ⊥
has_nothing (inl (image, is, more)) = more is
has_nothing (inr (main, is, some)) = absurd (subst (λ t. T t) (sym (subst (λ found. IsSome found) is some)) tt)

pub none_listed : Listing [] []
none_listed = record {
  order = λ i j d below within. absurd (omega (arith, within));
  lists = λ path. (λ held. absurd (omega (arith, held.1)), λ has. absurd (has_nothing has));
  below = λ path all k d within. absurd (omega (arith, within));
}

same_or_other : (a b : List ℕ) → (a ≡ b) ⊎ (a ≢ b)
same_or_other a b =
    (elim (pointwise ◌==◌ a b) as (λ t. t ≡ pointwise ◌==◌ a b → (a ≡ b) ⊎ (a ≢ b)) [
      | true ↦ λ e. inl (same_text a b e)
      | false ↦ λ e. inr (other_text a b e)
    ]) refl

all_front : {X : Type 0} → (P : X → Type 0) (xs : List X) (y : X) → All P (xs ++ y ∷ []) → All P xs
all_front P xs y all = subst (λ l. All P l) (take-append_seam xs (y ∷ [])) (All-take P (length xs) (xs ++ y ∷ []) all)

-- one volume more, of a path behind those before
module _ (before : List Volume) (v : Volume) (paths : List (List ℕ)) (listing : Listing before paths) (behind : All (λ w. slice_cmp nat_cmp w.path v.path ≡ Less) before) where
  unknown : volume_of before v.path ≡ None
  unknown = volume_none before v.path (λ k d within. less_apart (get_or before k d).path v.path (behind k d within))

  here : volume_of (before ++ v ∷ []) v.path ≡ Some v
  here = volume_here before v [] v.path unknown refl

  elsewhere : (path : List ℕ) → path ≢ v.path → volume_of (before ++ v ∷ []) path ≡ volume_of before path
  elsewhere path apart = volume_elsewhere before v [] path apart ∙ ap (λ l. volume_of l path) (append-nil before)

  not_listed : Contains paths v.path → ⊥
  not_listed held = has_nothing (subst (λ found. Has found) unknown ((listing.lists v.path).0 held))

  has_here : Has (volume_of (before ++ v ∷ []) v.path) → HasVolume (IsDataAt v.home) (IsMainAt v.home)
  has_here has = subst (λ found. Has found) here has

  pub skipped : (HasVolume (IsDataAt v.home) (IsMainAt v.home) → ⊥) → Listing (before ++ v ∷ []) paths
  skipped empty = record {
    order = listing.order;
    lists = λ path. (
      λ held. subst (λ found. Has found) (sym (elsewhere path (λ same. not_listed (subst (λ p. Contains paths p) same held)))) ((listing.lists path).0 held),
      λ has. ⊎_elim (λ same. absurd (empty (has_here (subst (λ p. Has (volume_of (before ++ v ∷ []) p)) same has))))
          (λ apart. (listing.lists path).1 (subst (λ found. Has found) (elsewhere path apart) has)) (same_or_other path v.path),
    );
    below = λ path all. listing.below path (all_front (λ w. slice_cmp nat_cmp w.path path ≡ Less) before v all);
  }

  pub listed : HasVolume (IsDataAt v.home) (IsMainAt v.home) → Listing (before ++ v ∷ []) (paths ++ v.path ∷ [])
  listed some = record {
    order = all_pairs_push (λ low high. slice_cmp nat_cmp low high ≡ Less) paths v.path listing.order (listing.below v.path behind);
    lists = λ path. (
      λ held. ⊎_elim (λ old. subst (λ found. Has found) (sym (elsewhere path (λ same. not_listed (subst (λ p. Contains paths p) same old)))) ((listing.lists path).0 old))
          (λ same. subst (λ p. Has (volume_of (before ++ v ∷ []) p)) same (subst (λ found. Has found) (sym here) some)) (Contains-push_cases paths v.path path held),
      λ has. ⊎_elim (λ same. subst (λ p. Contains (paths ++ v.path ∷ []) p) (sym same) (Contains-push paths v.path))
          (λ apart. Contains-append_left paths (v.path ∷ []) path ((listing.lists path).1 (subst (λ found. Has found) (elsewhere path apart) has))) (same_or_other path v.path),
    );
    below = λ path all. All-push (λ p. slice_cmp nat_cmp p path ≡ Less) paths v.path (listing.below path (all_front (λ w. slice_cmp nat_cmp w.path path ≡ Less) before v all))
        (All-contains (λ w. slice_cmp nat_cmp w.path path ≡ Less) (before ++ v ∷ []) v all (Contains-push before v));
  }

-- ---- a turn of the loop

behind_place : (volumes : List Volume) (i : ℕ) (v : Volume) → InByteOrder (paths_of volumes) → i < length volumes → v ≡ get_or volumes i v → All (λ w. slice_cmp nat_cmp w.path v.path ≡ Less) (take i volumes)
behind_place volumes i v order within is k d short =
    let low : k < i = omega (arith, length-take i volumes, short, within) in
    let up = rises volumes order k i d low within in
    let read = get_or_default volumes i d v within ∙ sym is in
    subst (λ (w : Volume). slice_cmp nat_cmp w.path v.path ≡ Less) (sym (get_or-take i volumes k d low)) (subst (λ (x : Volume). slice_cmp nat_cmp (get_or volumes k d).path x.path ≡ Less) read up)

one_more : (volumes : List Volume) (i : ℕ) (v : Volume) → i < length volumes → v ≡ get_or volumes i v → take (i + 1) volumes ≡ take i volumes ++ v ∷ []
one_more volumes i v within is = take_more volumes i v within ∙ ap (λ x. take i volumes ++ x ∷ []) (sym is)

pub skipped_more : (volumes : List Volume) (i : ℕ) (v : Volume) (paths : List (List ℕ)) → InByteOrder (paths_of volumes) → i < length volumes → v ≡ get_or volumes i v → Listing (take i volumes) paths →
    (HasVolume (IsDataAt v.home) (IsMainAt v.home) → ⊥) → Listing (take (i + 1) volumes) paths
skipped_more volumes i v paths order within is listing empty =
    subst (λ l. Listing l paths) (sym (one_more volumes i v within is)) (skipped (take i volumes) v paths listing (behind_place volumes i v order within is) empty)

pub listed_more : (volumes : List Volume) (i : ℕ) (v : Volume) (paths : List (List ℕ)) → InByteOrder (paths_of volumes) → i < length volumes → v ≡ get_or volumes i v → Listing (take i volumes) paths →
    HasVolume (IsDataAt v.home) (IsMainAt v.home) → Listing (take (i + 1) volumes) (paths ++ v.path ∷ [])
listed_more volumes i v paths order within is listing some =
    subst (λ l. Listing l (paths ++ v.path ∷ [])) (sym (one_more volumes i v within is)) (listed (take i volumes) v paths listing (behind_place volumes i v order within is) some)
