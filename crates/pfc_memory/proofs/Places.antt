-- Places after a call.
use Rattle.std.proofs.Common.{◌≡◌, ◌≤◌, ◌+◌, ◌-◌, min, ℕ, true, false, List, length, map, drop, replicate, [], ◌∷◌, ◌++◌, zero, suc, ap, refl, sym, ◌∙◌, arith, get_or, subst}
use Rattle.std.proofs.lemmas.List.{length-replicate, get_or-append_right, get_or_append_left, get_or-drop, get_or-replicate, drop_min}
use Rattle.pfc_world.specs.Disk.{not_settled, is_left_over}
use Rattle.pfc_memory.specs.declared.place.Place.{Place}
use Rattle.pfc_memory.specs.declared.place.Place.TheVariants.{Settled, Unsettled, LeftOver}
use Rattle.pfc_memory.specs.Places.{Marked, Loses, place_at, place_of, after_sync, after_loss, synced_place, lost_place}
use Rattle.pfc_memory.proofs.Laying.{over, over-inside, over-outside}

-- places laid over others mark the range
pub marks : (from to : ℕ) (old : List Place) → from ≤ to → Marked from to old (over Settled from (replicate (to - from) Unsettled) old)
marks from to old h = record {
  inside = λ p lies.
      let n = length-replicate (to - from) Unsettled in
      let e : from + (p - from) ≡ p = omega (arith, lies.0) in
      subst (λ q. place_at (over Settled from (replicate (to - from) Unsettled) old) q ≡ Unsettled) e
      (over-inside Settled Settled from (replicate (to - from) Unsettled) old (p - from) (omega (arith, n, lies.0, lies.1)) ∙ get_or-replicate (to - from) (p - from) Unsettled Settled (omega (arith, lies.0, lies.1)));
  outside = λ p lies.
      let n = length-replicate (to - from) Unsettled in
      let e : from + length (replicate (to - from) Unsettled) ≡ to = omega (arith, n, h) in
      over-outside Settled from (replicate (to - from) Unsettled) old p (rw e lies);
}

pub mapped : (f : Place → Place) (places : List Place) (p : ℕ) → f Settled ≡ Settled → place_at (map f places) p ≡ f (place_at places p)
mapped f [] p same = sym same
mapped f (place ∷ places) zero same = refl
mapped f (place ∷ places) (suc p) same = mapped f places p same

-- all places of a number are left over, and those behind them as after a sync that failed
pub loses : (count : ℕ) (old : List Place) → Loses count old (replicate count LeftOver ++ map after_loss (drop (min count (length old)) old))
loses count old = record {
  inside = λ p h. get_or_append_left (replicate count LeftOver) _ Settled p (let n = length-replicate count LeftOver in omega (arith, n, h)) ∙ get_or-replicate count p LeftOver Settled h;
  outside = λ p h.
      get_or-append_right (replicate count LeftOver) _ count p Settled (length-replicate count LeftOver) h
      ∙ mapped after_loss (drop (min count (length old)) old) (p - count) refl
      ∙ ap after_loss (rw (drop_min count old) (get_or-drop count old (p - count) Settled ∙ ap (λ n. get_or old n Settled) (omega (arith, h))));
}

-- ---- what a crash may change of a place, and what is left over

pub loose_before : (place : Place) → not_settled (place_of (after_sync place)) ≡ true → is_left_over (place_of place) ≡ true
loose_before Settled h = h
loose_before Unsettled h = let e : false ≡ true = h in cc
loose_before LeftOver h = h

pub left_loose : (place : Place) → is_left_over (place_of place) ≡ true → not_settled (place_of place) ≡ true
left_loose Settled h = h
left_loose Unsettled h = refl
left_loose LeftOver h = h

pub left_before : (place : Place) → is_left_over (place_of (after_sync place)) ≡ true → is_left_over (place_of place) ≡ true
left_before Settled h = h
left_before Unsettled h = let e : false ≡ true = h in cc
left_before LeftOver h = h

pub loss_keeps : (place : Place) → not_settled (place_of (after_loss place)) ≡ not_settled (place_of place)
loss_keeps Settled = refl
loss_keeps Unsettled = refl
loss_keeps LeftOver = refl

pub sync_of : (place : Place) → place_of (after_sync place) ≡ synced_place (place_of place)
sync_of Settled = refl
sync_of Unsettled = refl
sync_of LeftOver = refl

pub loss_of : (place : Place) → place_of (after_loss place) ≡ lost_place (place_of place)
loss_of Settled = refl
loss_of Unsettled = refl
loss_of LeftOver = refl
