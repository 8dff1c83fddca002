-- What lending a volume, and taking it home, changes.
use Rattle.std.specs.Prelude.{if◌then◌else◌, Contains, All, AllPairs, is_none, is_some}
use Rattle.std.specs.List.{insert}
use Rattle.std.proofs.Common.{◌≡◌, ◌≢◌, ◌↔◌, ℕ, suc, ◌+◌, ◌<◌, ◌≤◌, min, Bool, true, false, List, [], ◌∷◌, ◌++◌, Option, Some, None, length, map, take, drop, set, get_or, refl, sym, subst, ap, ◌∙◌, arith, IsTrue, T, IsSome, IfSome, ⊎_elim, add-one}
use Rattle.std.proofs.lemmas.List.{take-append-drop, drop_more, set_split, get_or-map, map-set, set-get_or, map-append, get_or_default}
use Rattle.std.proofs.lemmas.List.Elements.{Contains-append_left, Contains-append_right, Contains-append_cases, All-cons, All-head, All-tail, All-map, All-weaker}
use Rattle.std.proofs.lemmas.List.Kept.{AllPairs-cons}
use Rattle.std.proofs.lemmas.Cmp.{nat_list_cmp_total}
use Rattle.std.specs.Cmp.Lexicographic.{slice_cmp}
use Rattle.std.specs.Ordering.{nat_cmp, ordering_reverse}
use Rattle.std.specs.declared.cmp.Ordering.TheVariants.{Less, Greater}
use Rattle.pfc_world.specs.Depot.{Gains, Loses, InByteOrder}
use Rattle.pfc_world.specs.Counts.{add_count, last_count}
use Rattle.pfc_world.specs.Disk.{IsImage}
use Rattle.pfc_world.specs.Info.{IsMain}
use Rattle.pfc_memory.specs.Data.{data_run}
use Rattle.pfc_memory.specs.Mains.{info_run}
use Rattle.pfc_memory.specs.Depot.{volume_of, paths_of, out_of, IsDataAt, IsMainAt, IsDataOf, IsMainOf, IsEmptied, IsBare, IsForgot, IsKeptAt, IsKept, IsPlaceOf, IsGapFor, SameBut, Lends, Returns}
use Rattle.pfc_memory.specs.declared.volume.Volume.{Volume}
use Rattle.pfc_memory.specs.declared.volume.Devices.{Devices}
use Rattle.pfc_memory.specs.declared.data.MemoryData.{MemoryData}
use Rattle.pfc_memory.specs.declared.info.MemoryInfo.{MemoryInfo}
use Rattle.pfc_memory.proofs.Volumes.{volume_past, volume_here, volume_elsewhere, not_out, contains_cases, out_append, out_home, out_away, gains, loses}
use Rattle.pfc_memory.proofs.Searches.{gap_before, gap_after, gap_below, gap_above}

-- ---- the volumes about a place

whole : (volumes : List Volume) (at : ℕ) (v : Volume) → at < length volumes → get_or volumes at v ≡ v → volumes ≡ take at volumes ++ v ∷ drop (at + 1) volumes
whole volumes at v within is = sym (take-append-drop at volumes) ∙ ap (λ rest. take at volumes ++ rest) (drop_more volumes at v within ∙ ap (λ x. x ∷ drop (at + 1) volumes) is)

changed : (volumes : List Volume) (at : ℕ) (w : Volume) → at < length volumes → set volumes at w ≡ take at volumes ++ w ∷ drop (at + 1) volumes
changed volumes at w within = set_split volumes at w within ∙ ap (λ n. take at volumes ++ w ∷ drop n volumes) (sym (add-one at))

pub place_here : (volumes : List Volume) (path : List ℕ) (at : ℕ) (v : Volume) → IsPlaceOf volumes path at → get_or volumes at v ≡ v → volume_of volumes path ≡ Some v
place_here volumes path at v place is =
    ap (λ all. volume_of all path) (whole volumes at v place.within is) ∙ volume_here (take at volumes) v (drop (at + 1) volumes) path place.before (ap (λ (x : Volume). x.path) (sym is) ∙ place.here v)

pub place_changed : (volumes : List Volume) (path : List ℕ) (at : ℕ) (w : Volume) → IsPlaceOf volumes path at → w.path ≡ path → volume_of (set volumes at w) path ≡ Some w
place_changed volumes path at w place same =
    ap (λ all. volume_of all path) (changed volumes at w place.within) ∙ volume_here (take at volumes) w (drop (at + 1) volumes) path place.before same

pub same_set : (volumes : List Volume) (path : List ℕ) (at : ℕ) (v w : Volume) → IsPlaceOf volumes path at → get_or volumes at v ≡ v → w.path ≡ path → SameBut path volumes (set volumes at w)
same_set volumes path at v w place is same other apart =
    let before = take at volumes in
    let after = drop (at + 1) volumes in
    let same_v : v.path ≡ path = ap (λ (x : Volume). x.path) (sym is) ∙ place.here v in
    ap (λ all. volume_of all other) (changed volumes at w place.within)
    ∙ volume_elsewhere before w after other (λ e. apart (e ∙ same))
    ∙ sym (volume_elsewhere before v after other (λ e. apart (e ∙ same_v)))
    ∙ sym (ap (λ all. volume_of all other) (whole volumes at v place.within is))

not_about : (before after : List Volume) (path : List ℕ) → volume_of before path ≡ None → volume_of after path ≡ None → Contains (out_of before ++ out_of after) path → ⊥
not_about before after path none none_after held = ⊎_elim (not_out before path none) (not_out after path none_after) (Contains-append_cases (out_of before) (out_of after) path held)

-- the path is out exactly where its volume is away
pub place_out : (volumes : List Volume) (path : List ℕ) (at : ℕ) (v : Volume) → IsPlaceOf volumes path at → get_or volumes at v ≡ v → IsTrue (is_none v.home) ↔ Contains (out_of volumes) path
place_out volumes path at v place is =
    let before = take at volumes in
    let after = drop (at + 1) volumes in
    let all = whole volumes at v place.within is in
    let same : v.path ≡ path = ap (λ (x : Volume). x.path) (sym is) ∙ place.here v in (
      λ away. let outs = ap out_of all ∙ out_away before after v away in
          subst (λ l. Contains l path) (sym outs) (Contains-append_right (out_of before) (v.path ∷ out_of after) path (subst (λ p. Contains (p ∷ out_of after) path) (sym same) (0, omega arith, refl))),
      λ held. (elim (is_none v.home) as (λ t. is_none v.home ≡ t → t ≡ true) [
        | true ↦ λ e. refl
        | false ↦ λ home. absurd (not_about before after path place.before place.after (subst (λ l. Contains l path) (ap out_of all ∙ out_home before after v home) held))
      ]) refl,
    )

pub gap_none : (volumes : List Volume) (path : List ℕ) (at : ℕ) → IsGapFor volumes path at → volume_of volumes path ≡ None
gap_none volumes path at gap =
    ap (λ all. volume_of all path) (sym (take-append-drop at volumes)) ∙ volume_past (take at volumes) (drop at volumes) path (gap_before volumes path at gap) ∙ gap_after volumes path at gap

pub gap_out : (volumes : List Volume) (path : List ℕ) (at : ℕ) → IsGapFor volumes path at → Contains (out_of volumes) path → ⊥
gap_out volumes path at gap = not_out volumes path (gap_none volumes path at gap)

-- the same as an answer
pub place_answer : (volumes : List Volume) (path : List ℕ) (at : ℕ) (v : Volume) (answer : Bool) → IsPlaceOf volumes path at → v ≡ get_or volumes at v → is_none v.home ≡ answer → IsTrue answer ↔ Contains (out_of volumes) path
place_answer volumes path at v answer place is e = subst (λ t. IsTrue t ↔ Contains (out_of volumes) path) e (place_out volumes path at v place (sym is))

pub gap_answer : (volumes : List Volume) (path : List ℕ) (at : ℕ) → IsGapFor volumes path at → IsTrue false ↔ Contains (out_of volumes) path
gap_answer volumes path at gap = (λ e. absurd (subst (λ t. T t) (sym e) tt), λ held. absurd (gap_out volumes path at gap held))

-- ---- the order

pub order_set : (volumes : List Volume) (at : ℕ) (v w : Volume) → at < length volumes → get_or volumes at v ≡ v → w.path ≡ v.path → InByteOrder (paths_of volumes) → InByteOrder (paths_of (set volumes at w))
order_set volumes at v w within is same order =
    let path : Volume → List ℕ = λ x. x.path in
    let read = get_or-map path volumes at v v.path within ∙ ap path is in
    let kept = map-set path volumes at w ∙ ap (λ p. set (paths_of volumes) at p) (same ∙ sym read) ∙ set-get_or (paths_of volumes) at v.path in
    subst (λ paths. InByteOrder paths) (sym kept) order

all_between : {X : Type 0} (P : X → Type 0) → (xs ys : List X) (p : X) → All P (xs ++ ys) → P p → All P (xs ++ p ∷ ys)
all_between P [] ys p rest mid = All-cons P p ys mid rest
all_between P (x ∷ xs) ys p rest mid = All-cons P x (xs ++ p ∷ ys) (All-head P x (xs ++ ys) rest) (all_between P xs ys p (All-tail P x (xs ++ ys) rest) mid)

pairs_head : {X : Type 0} (R : X → X → Type 0) → (x : X) (xs : List X) → AllPairs R (x ∷ xs) → All (R x) xs
pairs_head R x xs pairs k d within = pairs 0 (suc k) d (omega arith) (omega (arith, within))

pairs_tail : {X : Type 0} (R : X → X → Type 0) → (x : X) (xs : List X) → AllPairs R (x ∷ xs) → AllPairs R xs
pairs_tail R x xs pairs i j d below within = pairs (suc i) (suc j) d (omega (arith, below)) (omega (arith, within))

pairs_between : {X : Type 0} (R : X → X → Type 0) → (xs ys : List X) (p : X) → AllPairs R (xs ++ ys) → All (λ x. R x p) xs → All (R p) ys → AllPairs R (xs ++ p ∷ ys)
pairs_between R [] ys p pairs low high = AllPairs-cons R p ys high pairs
pairs_between R (x ∷ xs) ys p pairs low high =
    AllPairs-cons R x (xs ++ p ∷ ys) (all_between (R x) xs ys p (pairs_head R x (xs ++ ys) pairs) (All-head (λ y. R y p) x xs low))
    (pairs_between R xs ys p (pairs_tail R x (xs ++ ys) pairs) (All-tail (λ y. R y p) x xs low) high)

pub order_insert : (volumes : List Volume) (path : List ℕ) (at : ℕ) (w : Volume) → IsGapFor volumes path at → w.path ≡ path → InByteOrder (paths_of volumes) → InByteOrder (paths_of (insert volumes at w))
order_insert volumes path at w gap same order =
    let paths = paths_of volumes in
    let joined : InByteOrder (paths_of (take at volumes) ++ paths_of (drop at volumes)) = subst (λ l. InByteOrder l) (ap paths_of (sym (take-append-drop at volumes)) ∙ map-append _ (take at volumes) (drop at volumes)) order in
    let low = All-map (λ x. slice_cmp nat_cmp x path ≡ Less) (λ (v : Volume). v.path) (take at volumes) (gap_below volumes path at gap) in
    let high = All-map (λ x. slice_cmp nat_cmp path x ≡ Less) (λ (v : Volume). v.path) (drop at volumes) (All-weaker (λ (v : Volume). slice_cmp nat_cmp v.path path ≡ Greater) (λ (v : Volume). slice_cmp nat_cmp path v.path ≡ Less) (λ (v : Volume) (greater : slice_cmp nat_cmp v.path path ≡ Greater). nat_list_cmp_total.antisymm path v.path ∙ ap ordering_reverse greater) (drop at volumes) (gap_above volumes path at gap)) in
    let spread = pairs_between (λ low high. slice_cmp nat_cmp low high ≡ Less) (paths_of (take at volumes)) (paths_of (drop at volumes)) path joined low high in
    subst (λ l. InByteOrder l) (sym (map-append _ (take at volumes) (w ∷ drop at volumes) ∙ ap (λ p. paths_of (take at volumes) ++ p ∷ paths_of (drop at volumes)) same)) spread

-- also where memory was refused
pub order_inserted : (volumes : List Volume) (path : List ℕ) (at : ℕ) (w : Volume) (new : List Volume) (ok : Bool) → IsGapFor volumes path at → w.path ≡ path → InByteOrder (paths_of volumes) →
    new ≡ (if ok then insert volumes at w else volumes) → InByteOrder (paths_of new)
order_inserted volumes path at w new true gap same order e = subst (λ l. InByteOrder (paths_of l)) (sym e) (order_insert volumes path at w gap same order)
order_inserted volumes path at w new false gap same order e = subst (λ l. InByteOrder (paths_of l)) (sym e) order

-- ---- lending

-- the volume after its devices were given away
pub record IsAway (path : List ℕ) (devices : Devices) (w : Volume) : Type 0 where
  pub same : w.path ≡ path
  pub none : w.home ≡ None
  pub counts : w.lent ≡ (devices.data.calls.faults, devices.info.calls.faults)

away_is : (path : List ℕ) (devices : Devices) (w : Volume) → IsAway path devices w → Some w ≡ Some (record { path = path; home = None; lent = (devices.data.calls.faults, devices.info.calls.faults) })
away_is path devices w away = λ i. Some (record { path = away.same i; home = away.none i; lent = away.counts i })

pub is_away : (path : List ℕ) (devices : Devices) (v w : Volume) → v.path ≡ path → w ≡ record v { home = None; lent = (devices.data.calls.faults, devices.info.calls.faults) } → IsAway path devices w
is_away path devices v w same e = record { same = ap (λ (x : Volume). x.path) e ∙ same; none = ap (λ (x : Volume). x.home) e; counts = ap (λ (x : Volume). x.lent) e }

pub place_path : (volumes : List Volume) (path : List ℕ) (at : ℕ) (v : Volume) → IsPlaceOf volumes path at → v ≡ get_or volumes at v → v.path ≡ path
place_path volumes path at v place is = ap (λ (x : Volume). x.path) is ∙ place.here v

pub lends_set : (volumes : List Volume) (path : List ℕ) (at : ℕ) (v w : Volume) (devices : Devices) → IsPlaceOf volumes path at → get_or volumes at v ≡ v → v.home ≡ Some devices → IsAway path devices w →
    Lends path volumes (set volumes at w) devices.data devices.info
lends_set volumes path at v w devices place is home away =
    let before = take at volumes in
    let after = drop (at + 1) volumes in
    let here = place_here volumes path at v place is in
    let olds = ap out_of (whole volumes at v place.within is) ∙ out_home before after v (ap is_none home) in
    let news = ap out_of (changed volumes at w place.within) ∙ out_away before after w (ap is_none away.none) ∙ ap (λ p. out_of before ++ p ∷ out_of after) away.same in
    record {
      was_data = λ image one. subst (λ found. IsDataOf found image) (sym here) (subst (λ kept. IsDataAt kept image) (sym home) one);
      was_main = λ main one. subst (λ found. IsMainOf found main) (sym here) (subst (λ kept. IsMainAt kept main) (sym home) one);
      away = place_changed volumes path at w place away.same ∙ away_is path devices w away;
      elsewhere = same_set volumes path at v w place is away.same;
      out = subst (λ l. Gains path l (out_of (set volumes at w))) (sym olds) (subst (λ l. Gains path (out_of before ++ out_of after) l) (sym news) (gains (out_of before) (out_of after) path));
    }

pub lends_insert : (volumes : List Volume) (path : List ℕ) (at : ℕ) (w : Volume) (devices : Devices) → IsGapFor volumes path at → IsEmptied (IsDataAt (Some devices)) → IsBare (IsMainAt (Some devices)) → IsAway path devices w →
    Lends path volumes (insert volumes at w) devices.data devices.info
lends_insert volumes path at w devices gap empty bare away =
    let before = take at volumes in
    let after = drop at volumes in
    let whole = sym (take-append-drop at volumes) in
    let none = gap_none volumes path at gap in
    let olds = ap out_of whole ∙ out_append before after in
    let news = out_away before after w (ap is_none away.none) ∙ ap (λ p. out_of before ++ p ∷ out_of after) away.same in
    record {
      was_data = λ image one. subst (λ found. IsDataOf found image) (sym none) ((empty image).0 one);
      was_main = λ main one. subst (λ found. IsMainOf found main) (sym none) ((bare main).0 one);
      away = volume_here before w after path (gap_before volumes path at gap) away.same ∙ away_is path devices w away;
      elsewhere = λ other apart. volume_elsewhere before w after other (λ e. apart (e ∙ away.same)) ∙ sym (ap (λ all. volume_of all other) whole);
      out = subst (λ l. Gains path l (out_of (insert volumes at w))) (sym olds) (subst (λ l. Gains path (out_of before ++ out_of after) l) (sym news) (gains (out_of before) (out_of after) path));
    }

-- ---- taking home

pub returns_set : (volumes : List Volume) (path : List ℕ) (at : ℕ) (v w : Volume) (devices : Devices) (first : MemoryData) (second : MemoryInfo) → IsPlaceOf volumes path at → get_or volumes at v ≡ v → v.home ≡ None →
    w.path ≡ path → w.home ≡ Some devices → IsForgot first second devices → Returns path volumes (set volumes at w) first second
returns_set volumes path at v w devices first second place is none same home forgot =
    let before = take at volumes in
    let after = drop (at + 1) volumes in
    let here = place_changed volumes path at w place same in
    let same_v : v.path ≡ path = ap (λ (x : Volume). x.path) (sym is) ∙ place.here v in
    let olds = ap out_of (whole volumes at v place.within is) ∙ out_away before after v (ap is_none none) ∙ ap (λ p. out_of before ++ p ∷ out_of after) same_v in
    let news = ap out_of (changed volumes at w place.within) ∙ out_home before after w (ap is_none home) in
    let images : (image : List ℕ) → IsDataOf (volume_of (set volumes at w) path) image ≡ IsImage (data_run first).now image =
    λ image. ap (λ found. IsDataOf found image) here ∙ ap (λ kept. IsDataAt kept image) home ∙ ap (λ disk. IsImage disk image) forgot.data_now in
    let mains : (main : Option (List ℕ)) → IsMainOf (volume_of (set volumes at w) path) main ≡ IsMain (info_run second).now main =
    λ main. ap (λ found. IsMainOf found main) here ∙ ap (λ kept. IsMainAt kept main) home ∙ ap (λ info. IsMain info main) forgot.info_now in
    record {
      home_data = λ image. (λ one. subst (λ P. P) (images image) one, λ one. subst (λ P. P) (sym (images image)) one);
      home_main = λ main. (λ one. subst (λ P. P) (mains main) one, λ one. subst (λ P. P) (sym (mains main)) one);
      kept = subst (λ found. IsKept found first second) (sym here) (subst (λ kept. IsKeptAt kept first second) (sym home) forgot);
      elsewhere = same_set volumes path at v w place is same;
      out = subst (λ l. Loses path l (out_of (set volumes at w))) (sym olds) (subst (λ l. Loses path (out_of before ++ path ∷ out_of after) l) (sym news)
          (loses (out_of before) (out_of after) path (not_about before after path place.before place.after)));
    }

-- the counts that rose, added one after the other
pub added : (faults first second mid all : ℕ) → faults ≤ last_count → mid ≡ min (faults + first) last_count → all ≡ min (mid + second) last_count → all ≡ add_count faults (first + second)
added faults first second mid all fits one two = omega (arith, fits, one, two)

-- two reads of one place
pub same_read : (volumes : List Volume) (at : ℕ) (v w : Volume) → at < length volumes → v ≡ get_or volumes at v → w ≡ get_or volumes at w → v ≡ w
same_read volumes at v w within read again = read ∙ get_or_default volumes at v w within ∙ sym again

pub has : {X : Type 0} → (kept : Option X) → is_some kept ≡ true → is_none kept ≡ false
has None some = absurd (subst (λ t. T t) (sym some) tt)
has (Some x) some = refl

pub lacks : {X : Type 0} → (kept : Option X) → is_some kept ≡ false → kept ≡ None
lacks None none = refl
lacks (Some x) none = absurd (subst (λ t. T t) none tt)

pub returns_home : (volumes : List Volume) (path : List ℕ) (at : ℕ) (v w : Volume) (first : MemoryData) (second : MemoryInfo) → IsPlaceOf volumes path at → v ≡ get_or volumes at v → v.home ≡ None →
    w.path ≡ v.path → IsSome w.home → IfSome w.home (λ devices. IsForgot first second devices) → Returns path volumes (set volumes at w) first second
returns_home volumes path at v w first second place is none same some forgot =
    (elim w.home as (λ kept. w.home ≡ kept → IsSome kept → IfSome kept (λ devices. IsForgot first second devices) → Returns path volumes (set volumes at w) first second) [
      | None ↦ λ e some. absurd (subst (λ t. T t) (sym some) tt)
      | Some devices ↦ λ e some forgot. returns_set volumes path at v w devices first second place (sym is) none (same ∙ place_path volumes path at v place is) e forgot
    ]) refl some forgot
