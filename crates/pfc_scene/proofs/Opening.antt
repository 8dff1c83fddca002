-- How a core gets its volume and its store: the scene where a core is made, a volume is taken, opened, lost or put home.
use Rattle.std.proofs.Common.{◌≡◌, ◌⊎◌, inl, inr, ⊎_elim, ℕ, ◌+◌, ◌<◌, ◌≤◌, List, [], ◌∷◌, ◌++◌, length, map, get_or, set, refl, subst, sym, ap, ◌∙◌, arith, Bool}
use Rattle.std.specs.Prelude.{Option, Some, None, Contains, Result, Ok, Err, OnOk, OnErr, IfErr, IfSome}
use Rattle.std.proofs.lemmas.List.{set-get_or, length-set, length_push, get_or_default, get_or_append_left, get_or-set_same}
use Rattle.std.proofs.lemmas.List.Sums.{sum_by_push, sum_by-set}
use Rattle.pfc_base.specs.Block.{count_of}
use Rattle.pfc_world.specs.Counts.{RoseBy}
use Rattle.pfc_world.specs.Depot.{risen}
use Rattle.pfc_world.specs.declared.refusal.Refusal.{Refusal}
use Rattle.pfc_world.specs.declared.refusal.Refusal.TheVariants.{Memory}
use Rattle.pfc_log.specs.declared.entry.Uncached.TheVariants.{Volume}
use Rattle.pfc_log.specs.declared.start.Start.TheVariants as start
use Rattle.pfc_log.specs.Charges.{charges, start_charge}
use Rattle.pfc_log.specs.Lawful.{IsCached}
use Rattle.pfc_log.specs.Uncaching.{cause_of}
use Rattle.pfc_core.specs.Marks.{Mark}
use Rattle.pfc_core.specs.View.{CoreView}
use Rattle.pfc_report.specs.Caused.{StartsFor}
use Rattle.pfc_actor.specs.declared.backing.Standing.TheVariants as standing
use Rattle.pfc_actor.specs.Backings.{BackingView, Stand, Bare, Taken, Open, Lent, bare, path_in, written_in, broken_in, standing_of, Covers, Follows, StandsFor, HasCovered, IsBackingOf, IsUnlent, IsTaken, Opens, OpensBy, Later, DepotView, TakesVolume, ReturnsVolume, PutsBack}
use Rattle.pfc_scene.specs.Scenes.{SceneView, IsScene, IsCore, IsUnused, IsAlone, IsLentBy, AreBackings, Makes, Renews, Restarts, StartsCore, StartsNot, WasAsked, CoversFault, Moves, Owes, Plays, beside, lent_of, settled, settled_in, who}
use Rattle.pfc_scene.proofs.Casts.{below_or, at_end, cast_beside, no_core, same_at}
use Rattle.pfc_scene.proofs.Following.{follows_bare, goes_backing, goes_more, goes_set}
use Rattle.pfc_scene.proofs.Backed.{bare_backing, backing_at, backed_core, backed_set, settled_core, settled_set, lent_set}
use Rattle.pfc_scene.proofs.Queued.{backing_queued, made_queued, renewed_queued}
use Rattle.pfc_scene.proofs.Making.{cached_cause, few_blocks, cached_unpaid, unused_charges, made, renewed}
use Rattle.pfc_scene.proofs.Volumes.{unlent_path, unlent_weight, unlent_settled, unlent_covers, has_covered, covers_less, covers_later, fault_covers, rose_less, rose_next, add_later, lent_push, lent_home}

-- ---- a core is made

backed_push : (cores : List CoreView) (backings : List BackingView) (c : CoreView) → AreBackings cores backings → AreBackings (cores ++ c ∷ []) (backings ++ bare ∷ [])
backed_push cores backings c are = let long = length_push cores c in let as_long = length_push backings bare in let same = are.long in record {
  long = omega (arith, long, as_long, same);
  each = λ x d e lx.
      ⊎_elim
      (λ l. subst (λ v. IsBackingOf v (get_or (backings ++ bare ∷ []) x e)) (sym (get_or_append_left cores (c ∷ []) d x l))
      (subst (IsBackingOf (get_or cores x d)) (sym (get_or_append_left backings (bare ∷ []) e x (omega (arith, l, same)))) (are.each x d e l)))
      (λ far. bare_backing (get_or (cores ++ c ∷ []) x d) (get_or (backings ++ bare ∷ []) x e)
      (ap (λ (b : BackingView). b.stand) (at_end backings bare e x (omega (arith, lx, long, as_long, same)) (omega (arith, far, same)))))
      (below_or x (length cores));
}

settled_push : (cores : List CoreView) (backings : List BackingView) (c : CoreView) → length backings ≡ length cores → settled (cores ++ c ∷ []) (backings ++ bare ∷ []) ≡ settled cores backings + charges c.first c.entries
settled_push [] [] c long = omega arith
settled_push [] (b ∷ backings) c long = absurd (omega (arith, long))
settled_push (x ∷ cores) [] c long = absurd (omega (arith, long))
settled_push (x ∷ cores) (b ∷ backings) c long = let rest = settled_push cores backings c (omega (arith, long)) in omega (arith, rest)

-- behind the others, and nothing stands beside it
pub made_scene : (v : SceneView) (path : List ℕ) (cores : List CoreView) (backings : List BackingView) → backings ≡ v.backings ++ bare ∷ [] → IsScene v → Makes v.block_size v.cores path cores → IsScene (record v { cores = cores; backings = backings })
made_scene v path cores backings beside_is s m =
    let c = m.core in let k = v.block_size in
    let alone = subst (λ (p : List ℕ). IsAlone v.cores p (count_of c.size k)) (sym m.path_is) m.alone in
    let scene : IsScene (record v { cores = v.cores ++ c ∷ []; backings = v.backings ++ bare ∷ [] }) = record {
      cast = cast_beside k (λ w. beside w v) (λ w. beside w (record v { backings = v.backings ++ bare ∷ [] })) v.clients (v.cores ++ c ∷ []) (made k (λ w. beside w v) v.clients v.cores c s.cast m.right m.entries m.out alone)
          (λ w. let more = sum_by_push (lent_of w) v.backings bare in omega (arith, more));
      backed = backed_push v.cores v.backings c s.backed;
      queued = made_queued v.capacity v.clients v.cores v.backings v.writers v.jobs c s.queued m.entries m.out;
    } in
    subst (λ (bs : List BackingView). IsScene (record v { cores = cores; backings = bs })) (sym beside_is)
    (subst (λ (cs : List CoreView). IsScene (record v { cores = cs; backings = v.backings ++ bare ∷ [] })) (sym m.behind) scene)

pub made_moves : (v : SceneView) (path : List ℕ) (cores : List CoreView) (backings : List BackingView) → backings ≡ v.backings ++ bare ∷ [] → IsScene v → Makes v.block_size v.cores path cores →
    WasAsked path (map who v.clients) → Moves v (record v { cores = cores; backings = backings })
made_moves v path cores backings beside_is s m asked = let c = m.core in record {
  same = refl;
  clients_are = refl;
  writers_are = refl;
  block_size = refl;
  capacity = refl;
  lent = λ d h. subst (IsLentBy d) (sym beside_is) (lent_push d v.backings h);
  settled_is = let more = settled_push v.cores v.backings c s.backed.long in let at = ap (λ (cs : List CoreView). settled cs backings) m.behind in
      let by = ap (settled (v.cores ++ c ∷ [])) beside_is in
      let none = ap (charges c.first) m.entries in let start = m.unpaid in omega (arith, more, at, by, none, start);
  goes_on = goes_more v (record v { cores = cores; backings = backings }) c m.behind beside_is refl s.backed.long (subst (λ (p : List ℕ). WasAsked p (map who v.clients)) (sym m.path_is) asked);
}

-- ---- one core, or what stands beside it, is another

backed_at : (cores : List CoreView) (backings : List BackingView) (i : ℕ) (b2 : BackingView) → AreBackings cores backings → i < length cores → ((e : CoreView) → IsBackingOf (get_or cores i e) b2) → AreBackings cores (set backings i b2)
backed_at cores backings i b2 are li new =
    subst (λ (cs : List CoreView). AreBackings cs (set backings i b2)) (set-get_or cores i no_core) (backed_set cores backings i (get_or cores i no_core) b2 are li (new no_core))

settled_at : (cores : List CoreView) (backings : List BackingView) (i : ℕ) (c : CoreView) (b b2 : BackingView) → length backings ≡ length cores → i < length cores → c ≡ get_or cores i c → b ≡ get_or backings i b →
    settled cores (set backings i b2) + settled_in b.stand c ≡ settled cores backings + settled_in b2.stand c
settled_at cores backings i c b b2 long li ec eb =
    subst (λ (cs : List CoreView). settled cs (set backings i b2) + settled_in b.stand c ≡ settled cores backings + settled_in b2.stand c) (ap (set cores i) ec ∙ set-get_or cores i c)
    (settled_set cores backings i c c b b2 long li ec eb)

settled_for : (cores : List CoreView) (backings : List BackingView) (i : ℕ) (c c2 : CoreView) (b : BackingView) → length backings ≡ length cores → i < length cores → c ≡ get_or cores i c → b ≡ get_or backings i b →
    settled (set cores i c2) backings + settled_in b.stand c ≡ settled cores backings + settled_in b.stand c2
settled_for cores backings i c c2 b long li ec eb =
    subst (λ (bs : List BackingView). settled (set cores i c2) bs + settled_in b.stand c ≡ settled cores backings + settled_in b.stand c2) (ap (set backings i) eb ∙ set-get_or backings i b)
    (settled_set cores backings i c c2 b b long li ec eb)

-- no loan goes or comes
beside_same : (w : Mark → ℕ) (v : SceneView) (i : ℕ) (b b2 : BackingView) → i < length v.backings → b ≡ get_or v.backings i b → lent_of w b ≡ 0 → lent_of w b2 ≡ 0 → beside w (record v { backings = set v.backings i b2 }) ≡ beside w v
beside_same w v i b b2 li eb was now = let l = sum_by-set (lent_of w) v.backings i b2 b li in let at = ap (lent_of w) eb in omega (arith, l, at, was, now)

at_place : (backings : List BackingView) (i : ℕ) → i < length backings → get_or backings i bare ≡ get_or backings i (get_or backings i bare)
at_place backings i li = get_or_default backings i bare (get_or backings i bare) li

pub unlent_at : (backings : List BackingView) (i : ℕ) (b : BackingView) → b ≡ get_or backings i b → ((e : BackingView) → IsUnlent (get_or backings i e).stand) → IsUnlent b.stand
unlent_at backings i b eb unlent = subst (λ (x : BackingView). IsUnlent x.stand) (sym eb) (unlent b)

-- no loan wrote anything there
unlent_written : (s : Stand) (P : ℕ → Type 0) → IsUnlent s → IfSome (written_in s) P
unlent_written Bare P h = absurd h
unlent_written (Taken path size) P h = tt
unlent_written (Open path size k) P h = tt
unlent_written (Lent mark done) P h = absurd h

-- ---- a volume is taken

-- what stands there is of the core's path, and the core is cached
pub stands_cached : (s : Stand) (c : CoreView) (path : List ℕ) → path_in s ≡ Some path → StandsFor s c → IsCached c.first × (c.path ≡ path)
stands_cached Bare c path h st = absurd cc
stands_cached (Taken p size) c path h st = let e : p ≡ path = cc in (st.2, sym st.0 ∙ e)
stands_cached (Open p size k) c path h st = let e : p ≡ path = cc in (st.1, sym st.0.0 ∙ e)
stands_cached (Lent mark done) c path h st = let e : mark.path ≡ path = cc in (st.1, sym st.0.0 ∙ e)

-- that of a core which is cached and beside which nothing stands is home
pub is_home : (v : SceneView) (d : DepotView) (i : ℕ) (c : CoreView) (path : List ℕ) → IsScene v → IsLentBy d v.backings → i < length v.cores → c ≡ get_or v.cores i c → path ≡ c.path → ((e : CoreView) → IsUnused (get_or v.cores i e)) →
    ((e : BackingView) → (get_or v.backings i e).stand ≡ Bare) → Contains d.out path → ⊥
is_home v d i c path s lent li ec same_path unused none out =
    let at = lent.only c.path (subst (Contains d.out) same_path out) in let low = at.low in let same = s.backed.long in
    let lp : at.place < length v.cores = omega (arith, low, same) in
    let other = stands_cached (get_or v.backings at.place bare).stand (get_or v.cores at.place c) c.path (at.stands bare) (s.backed.each at.place c bare lp).stands in
    let here : at.place ≡ i = s.cast.paths at.place i c lp li other.0 (unused c).0 (other.1 ∙ ap (λ (x : CoreView). x.path) ec) in
    let stands : path_in (get_or v.backings i bare).stand ≡ Some c.path = subst (λ (x : ℕ). path_in (get_or v.backings x bare).stand ≡ Some c.path) here (at.stands bare) in
    let is_bare = ap path_in (none bare) in absurd cc

taken_of : (c : CoreView) (b : BackingView) (d d2 : DepotView) → IsUnused c → TakesVolume c.path c.size b d d2 → IsBackingOf c b
taken_of c b d d2 unused t =
    let none = unused_charges c unused in let whole = ap broken_in t.stand_is in let spent = t.unspent_is in
    let zero_is : charges c.first c.entries + broken_in b.stand + b.unspent ≡ 0 = omega (arith, none, whole, spent) in
    let one = ap (λ (p : ℕ × ℕ). p.0) t.now_is in let two = ap (λ (p : ℕ × ℕ). p.1) t.now_is in
    let covers : Covers 0 b = inl (omega (arith, one, two)) in record {
      stands = subst (λ (s : Stand). StandsFor s c) (sym t.stand_is) (refl, refl, unused.0);
      covered = has_covered b.stand (charges c.first c.entries + broken_in b.stand + b.unspent) b (subst (λ (n : ℕ). Covers n b) (sym zero_is) covers);
    }

pub taken_backs : (cores : List CoreView) (i : ℕ) (c : CoreView) (path : List ℕ) (size : ℕ) (b : BackingView) (d d2 : DepotView) → i < length cores → c ≡ get_or cores i c → path ≡ c.path → size ≡ c.size → ((e : CoreView) → IsUnused (get_or cores i e)) →
    TakesVolume path size b d d2 → (e : CoreView) → IsBackingOf (get_or cores i e) b
taken_backs cores i c path size b d d2 li ec paths sizes unused t e =
    let at = ec ∙ get_or_default cores i c e li in
    subst (λ (x : CoreView). IsBackingOf x b) at (taken_of c b d d2 (subst IsUnused (sym ec) (unused c)) (subst (λ (p : List ℕ). TakesVolume p c.size b d d2) paths (subst (λ (n : ℕ). TakesVolume path n b d d2) sizes t)))

pub taken_stands : (path : List ℕ) (size : ℕ) (b : BackingView) (d d2 : DepotView) → TakesVolume path size b d d2 → IsUnlent b.stand
taken_stands path size b d d2 t = subst IsUnlent (sym t.stand_is) tt

-- it stands in the place of nothing
pub stood_scene : (v : SceneView) (i : ℕ) (b2 : BackingView) → IsScene v → i < length v.cores → ((e : BackingView) → (get_or v.backings i e).stand ≡ Bare) → IsUnlent b2.stand →
    ((e : CoreView) → IsBackingOf (get_or v.cores i e) b2) → IsScene (record v { backings = set v.backings i b2 })
stood_scene v i b2 s li none unlent backs = let same = s.backed.long in let lb : i < length v.backings = omega (arith, li, same) in record {
  cast = cast_beside v.block_size (λ w. beside w v) (λ w. beside w (record v { backings = set v.backings i b2 })) v.clients v.cores s.cast
      (λ w. beside_same w v i (get_or v.backings i bare) b2 lb (at_place v.backings i lb) (ap (λ (x : Stand). lent_of w (record bare { stand = x })) (none bare)) (unlent_weight w b2.stand unlent));
  backed = backed_at v.cores v.backings i b2 s.backed li backs;
  queued = let b = get_or v.backings i bare in
      backing_queued v.capacity v.clients v.cores v.backings v.writers v.jobs i b b2 s.queued lb (at_place v.backings i lb) (unlent_written b2.stand (λ block. written_in b.stand ≡ Some block) unlent);
}

pub stood_plays : (v : SceneView) (d d2 : DepotView) (i : ℕ) (b2 : BackingView) → IsScene v → i < length v.cores → IsUnlent b2.stand → d.faults ≤ d2.faults → Plays v d (record v { backings = set v.backings i b2 }) d2
stood_plays v d d2 i b2 s li unlent later = let c = get_or v.cores i no_core in let ec = get_or_default v.cores i no_core c li in let same = s.backed.long in let lb : i < length v.backings = omega (arith, li, same) in record {
  same = refl;
  clients_are = refl;
  writers_are = refl;
  block_size = refl;
  capacity = refl;
  paid = λ f h.
      let at = settled_at v.cores v.backings i c (get_or v.backings i bare) b2 same li ec (at_place v.backings i lb) in let none = unlent_settled b2.stand c unlent in
      rose_less f (settled v.cores v.backings) (settled v.cores (set v.backings i b2)) d.faults d2.faults (omega (arith, at, none)) later h;
}

-- ---- a volume can't be had

volume_charge : (s : Stand) (c : CoreView) → c.entries ≡ [] → c.first ≡ start.Uncached Volume → settled_in s c ≤ 1
volume_charge Bare c none first = let log = ap (charges c.first) none in let starts = ap start_charge first in omega (arith, log, starts)
volume_charge (Taken path size) c none first = omega arith
volume_charge (Open path size k) c none first = omega arith
volume_charge (Lent mark done) c none first = omega arith

pub lost_scene : (v : SceneView) (i : ℕ) (c c2 : CoreView) (cores : List CoreView) → cores ≡ set v.cores i c2 → IsScene v → i < length v.cores → c ≡ get_or v.cores i c → ((e : BackingView) → (get_or v.backings i e).stand ≡ Bare) →
    Renews c c2 → c2.first ≡ start.Uncached Volume → IsScene (record v { cores = cores })
lost_scene v i c c2 cores is s li ec none r first = subst (λ (cs : List CoreView). IsScene (record v { cores = cs })) (sym is) (record {
  cast = renewed v.block_size (λ w. beside w v) v.clients v.cores i c c2 s.cast li ec r (subst (StartsFor None (count_of c.size v.block_size)) (sym first) refl);
  backed = backed_core v.cores v.backings i c2 s.backed li (λ e. bare_backing c2 (get_or v.backings i e) (none e));
  queued = renewed_queued v.capacity v.clients v.cores v.backings v.writers v.jobs i c c2 s.queued li ec r.entries_were r.entries_are r.out_was r.out_is;
})

pub lost_owes : (v : SceneView) (i : ℕ) (c c2 : CoreView) (cores : List CoreView) → cores ≡ set v.cores i c2 → IsScene v → i < length v.cores → c ≡ get_or v.cores i c → ((e : BackingView) → (get_or v.backings i e).stand ≡ Bare) →
    Renews c c2 → c2.first ≡ start.Uncached Volume → Owes v (record v { cores = cores })
lost_owes v i c c2 cores is s li ec none r first = let same = s.backed.long in let lb : i < length v.backings = omega (arith, li, same) in record {
  same = refl;
  clients_are = refl;
  writers_are = refl;
  block_size = refl;
  capacity = refl;
  lent = λ d h. h;
  settled_most = let b = get_or v.backings i bare in let now = ap (λ (cs : List CoreView). settled cs v.backings) is in
      let at = settled_for v.cores v.backings i c c2 b same li ec (at_place v.backings i lb) in let one = volume_charge b.stand c2 r.entries_are first in omega (arith, at, one, now);
  goes_on = let b = get_or v.backings i bare in let eb = at_place v.backings i lb in
      goes_set v (record v { cores = cores }) i c c2 b b is (sym (ap (set v.backings i) eb ∙ set-get_or v.backings i b)) refl same li ec eb r.path_is (λ found h. follows_bare c2.size v.block_size found c2 b (none bare));
}

pub owes_from : (u v w : SceneView) → u ≡ v → Owes u w → Owes v w
owes_from u v w same h = subst (λ (x : SceneView). Owes x w) same h

pub lent_from : (u v : SceneView) (d : DepotView) → u ≡ v → IsLentBy d v.backings → IsLentBy d u.backings
lent_from u v d same h = subst (λ (x : SceneView). IsLentBy d x.backings) (sym same) h

pub plays_to : (u v w : SceneView) (d d2 : DepotView) → v ≡ w → Plays u d w d2 → Plays u d v d2
plays_to u v w d d2 same h = subst (λ (x : SceneView). Plays u d x d2) (sym same) h

pub plays_from : (u v w : SceneView) (d d2 : DepotView) → u ≡ v → Plays u d w d2 → Plays v d w d2
plays_from u v w d d2 same h = subst (λ (x : SceneView). Plays x d w d2) same h

-- ---- a store is opened

opens_or : {T : Type 0} {A B : Type 0} (r : Result T Refusal) → OnOk r A → OnErr r B → A ⊎ B
opens_or (Ok x) a b = inl a
opens_or (Err why) a b = inr b

-- the store is open, or the volume stands there as before
abbrev Reopens : ℕ → Stand → Stand → Type 0
Reopens k s s2 = Opens k s s2 ⊎ (s2 ≡ s)

reopens_unlent : (k : ℕ) (s s2 : Stand) → IsUnlent s → Reopens k s s2 → IsUnlent s2
reopens_unlent k s s2 u (inr same) = subst IsUnlent (sym same) u
reopens_unlent k Bare s2 u (inl h) = absurd h
reopens_unlent k (Taken path size) s2 u (inl h) = subst IsUnlent (sym h) tt
reopens_unlent k (Open path size n) s2 u (inl h) = absurd h
reopens_unlent k (Lent mark done) s2 u (inl h) = absurd h

reopens_path : (k : ℕ) (s s2 : Stand) → Reopens k s s2 → path_in s2 ≡ path_in s
reopens_path k s s2 (inr same) = ap path_in same
reopens_path k Bare s2 (inl h) = absurd h
reopens_path k (Taken path size) s2 (inl h) = ap path_in h
reopens_path k (Open path size n) s2 (inl h) = absurd h
reopens_path k (Lent mark done) s2 (inl h) = absurd h

reopens_stands : (k : ℕ) (s s2 : Stand) (c : CoreView) → c.block_size ≡ k → Reopens k s s2 → StandsFor s c → StandsFor s2 c
reopens_stands k s s2 c size (inr same) st = subst (λ (x : Stand). StandsFor x c) (sym same) st
reopens_stands k Bare s2 c size (inl h) st = absurd h
reopens_stands k (Taken path n) s2 c size (inl h) st = subst (λ (x : Stand). StandsFor x c) (sym h) ((st.0, st.1, sym size), st.2)
reopens_stands k (Open path n l) s2 c size (inl h) st = absurd h
reopens_stands k (Lent mark done) s2 c size (inl h) st = absurd h

unlent_whole : (s : Stand) → IsUnlent s → broken_in s ≡ 0
unlent_whole Bare h = refl
unlent_whole (Taken path size) h = refl
unlent_whole (Open path size k) h = refl
unlent_whole (Lent mark done) h = absurd h

-- what the volume's counts were covering they cover
reopened_backs : (k : ℕ) (c : CoreView) (b b2 : BackingView) → c.block_size ≡ k → IsUnlent b.stand → Reopens k b.stand b2.stand → b2.before ≡ b.before → b2.unspent ≡ b.unspent → Later b.now b2.now → IsBackingOf c b → IsBackingOf c b2
reopened_backs k c b b2 size unlent re before unspent later was =
    let whole = unlent_whole b.stand unlent in let whole2 = unlent_whole b2.stand (reopens_unlent k b.stand b2.stand unlent re) in
    let old = charges c.first c.entries + broken_in b.stand + b.unspent in let new = charges c.first c.entries + broken_in b2.stand + b2.unspent in
    let same : new ≡ old = omega (arith, whole, whole2, unspent) in
    let covers = covers_later old b b2 before later (unlent_covers b.stand old b unlent was.covered) in record {
      stands = reopens_stands k b.stand b2.stand c size re was.stands;
      covered = has_covered b2.stand new b2 (subst (λ (n : ℕ). Covers n b2) (sym same) covers);
    }

-- the volume of a core has few enough blocks to be opened
is_taken : (k : ℕ) (s : Stand) (c : CoreView) → count_of c.size k ≤ 16777216 → standing_of s ≡ standing.Taken → StandsFor s c → IsTaken k s
is_taken k Bare c few h st = absurd cc
is_taken k (Taken path size) c few h st = subst (λ (n : ℕ). count_of n k ≤ 16777216) (sym st.1) few
is_taken k (Open path size n) c few h st = absurd cc
is_taken k (Lent mark done) c few h st = absurd cc

-- since its core is cached
pub has_taken : (v : SceneView) (i : ℕ) (b : BackingView) → IsScene v → i < length v.cores → b ≡ get_or v.backings i b → ((e : CoreView) → IsUnused (get_or v.cores i e)) → standing_of b.stand ≡ standing.Taken → IsTaken v.block_size b.stand
has_taken v i b s li eb unused taken =
    let c = get_or v.cores i no_core in let count = count_of c.size v.block_size in
    let few = few_blocks c.path count (cached_cause (cause_of c.path count) count c.first (s.cast.places i no_core li).start (unused no_core).0) in
    is_taken v.block_size b.stand c few taken (backing_at v.cores v.backings i c b s.backed li (get_or_default v.cores i no_core c li) eb).stands

pub opened_scene : {T : Type 0} (r : Result T Refusal) (v : SceneView) (i : ℕ) (b b2 : BackingView) → IsScene v → i < length v.cores → b ≡ get_or v.backings i b → IsUnlent b.stand →
    OnOk r (Opens v.block_size b.stand b2.stand) → OnErr r (b2.stand ≡ b.stand) → b2.before ≡ b.before → b2.unspent ≡ b.unspent → Later b.now b2.now → IsScene (record v { backings = set v.backings i b2 })
opened_scene r v i b b2 s li eb unlent ok err before unspent later =
    let same = s.backed.long in let lb : i < length v.backings = omega (arith, li, same) in let re = opens_or r ok err in record {
      cast = cast_beside v.block_size (λ w. beside w v) (λ w. beside w (record v { backings = set v.backings i b2 })) v.clients v.cores s.cast
          (λ w. beside_same w v i b b2 lb eb (unlent_weight w b.stand unlent) (unlent_weight w b2.stand (reopens_unlent v.block_size b.stand b2.stand unlent re)));
      backed = backed_at v.cores v.backings i b2 s.backed li (λ e. let c = get_or v.cores i e in
          reopened_backs v.block_size c b b2 (s.cast.places i e li).block_size_is unlent re before unspent later (subst (IsBackingOf c) (sym eb) (s.backed.each i e b li)));
      queued = backing_queued v.capacity v.clients v.cores v.backings v.writers v.jobs i b b2 s.queued lb eb
          (unlent_written b2.stand (λ block. written_in b.stand ≡ Some block) (reopens_unlent v.block_size b.stand b2.stand unlent re));
    }

pub unopened_scene : (v : SceneView) (i : ℕ) (c : CoreView) (b b2 : BackingView) → IsScene v → i < length v.cores → c ≡ get_or v.cores i c → b ≡ get_or v.backings i b → IsUnlent b.stand → b2.stand ≡ b.stand → b2.before ≡ b.before → b2.unspent ≡ b.unspent → Later b.now b2.now →
    IsScene (record v { backings = set v.backings i b2 })
unopened_scene v i c b b2 s li ec eb unlent same before unspent later = opened_scene {T = Unit {0}} (Err Memory) v i b b2 s li eb unlent tt same before unspent later

-- the volume stands there as before
pub unopened_moves : (v : SceneView) (i : ℕ) (c : CoreView) (b b2 : BackingView) → IsScene v → i < length v.cores → c ≡ get_or v.cores i c → b ≡ get_or v.backings i b → IsUnlent b.stand → StartsNot v.block_size c b b2 → b2.before ≡ b.before →
    Moves v (record v { backings = set v.backings i b2 })
unopened_moves v i c b b2 s li ec eb unlent not before =
    let same = s.backed.long in let lb : i < length v.backings = omega (arith, li, same) in record {
      same = refl;
      clients_are = refl;
      writers_are = refl;
      block_size = refl;
      capacity = refl;
      lent = λ d h. lent_set d v.backings i b b2 lb eb (ap path_in not.stand_is) before h;
      settled_is = let at = settled_at v.cores v.backings i c b b2 same li ec eb in
          let was = unlent_settled b.stand c unlent in let now = unlent_settled b2.stand c (subst IsUnlent (sym not.stand_is) unlent) in omega (arith, at, was, now);
      goes_on = goes_backing v (record v { backings = set v.backings i b2 }) i b b2 refl refl refl same li eb
          (λ found x ex h. let at : c ≡ x = same_at v.cores i c x li ec ex in subst (λ (y : CoreView). Follows y.size v.block_size found y b2) at (not.follows found (subst (λ (y : CoreView). Follows y.size v.block_size found y b) (sym at) h)));
    }

pub taken_there : (backings : List BackingView) (i : ℕ) (b2 : BackingView) → i < length backings → standing_of b2.stand ≡ standing.Taken → (e : BackingView) → standing_of (get_or (set backings i b2) i e).stand ≡ standing.Taken
taken_there backings i b2 li taken e = subst (λ (x : BackingView). standing_of x.stand ≡ standing.Taken) (sym (get_or-set_same backings i b2 e li)) taken

covers_none : (c : CoreView) (b : BackingView) → IsUnlent b.stand → IsBackingOf c b → Covers 0 b
covers_none c b unlent is = let n = charges c.first c.entries + broken_in b.stand + b.unspent in covers_less 0 n b (omega arith) (unlent_covers b.stand n b unlent is.covered)

covers_by : {T : Type 0} (r : Result T Refusal) (backings : List BackingView) (i : ℕ) (b b2 : BackingView) → i < length backings → b2.before ≡ b.before → Later b.now b2.now → Covers 0 b → IfErr r (OpensBy b.now b2.now) →
    IfErr r (λ why. (e : BackingView) → CoversFault why (get_or (set backings i b2) i e))
covers_by (Ok x) backings i b b2 li before later covers h = tt
covers_by (Err why) backings i b b2 li before later covers h = λ e. subst (CoversFault why) (sym (get_or-set_same backings i b2 e li)) (fault_covers why b b2 before later covers h)

pub opened_covers : {T : Type 0} (r : Result T Refusal) (v : SceneView) (i : ℕ) (b b2 : BackingView) → IsScene v → i < length v.cores → b ≡ get_or v.backings i b → IsUnlent b.stand → b2.before ≡ b.before → Later b.now b2.now →
    IfErr r (OpensBy b.now b2.now) → IfErr r (λ why. (e : BackingView) → CoversFault why (get_or (set v.backings i b2) i e))
opened_covers r v i b b2 s li eb unlent before later h = let c = get_or v.cores i no_core in let same = s.backed.long in
    covers_by r v.backings i b b2 (omega (arith, li, same)) before later (covers_none c b unlent (backing_at v.cores v.backings i c b s.backed li (get_or_default v.cores i no_core c li) eb)) h

-- ---- a core starts with its store

restarts_stands : (s : Stand) (c c2 : CoreView) → Renews c c2 → IsCached c2.first → StandsFor s c → StandsFor s c2
restarts_stands Bare c c2 r cached st = tt
restarts_stands (Taken path size) c c2 r cached st = (st.0 ∙ sym r.path_is, st.1 ∙ sym r.size_is, cached)
restarts_stands (Open path size k) c c2 r cached st = ((st.0.0 ∙ sym r.path_is, st.0.1 ∙ sym r.size_is, st.0.2 ∙ sym r.block_size_is), cached)
restarts_stands (Lent mark done) c c2 r cached st = ((st.0.0 ∙ sym r.path_is, st.0.1 ∙ sym r.size_is, st.0.2 ∙ sym r.block_size_is), cached, st.2)

restarts_cached : (k : ℕ) (set : List Bool) (c c2 : CoreView) → Restarts k set c c2 → IsCached c2.first
restarts_cached k set c c2 re = subst IsCached (sym re.first_is) tt

restarts_charges : (k : ℕ) (set : List Bool) (c c2 : CoreView) → Restarts k set c c2 → charges c2.first c2.entries ≡ charges c.first c.entries
restarts_charges k set c c2 re = let r = re.renews in
    let was = ap (charges c.first) r.entries_were in let now = ap (charges c2.first) r.entries_are in
    let from = cached_unpaid c.first r.cached in let to = cached_unpaid c2.first (restarts_cached k set c c2 re) in omega (arith, was, now, from, to)

pub restarted_scene : (v : SceneView) (i : ℕ) (set_is : List Bool) (c c2 : CoreView) (cores : List CoreView) → cores ≡ set v.cores i c2 → IsScene v → i < length v.cores → c ≡ get_or v.cores i c → Restarts c.block_size set_is c c2 → IsScene (record v { cores = cores })
restarted_scene v i set_is c c2 cores is s li ec re =
    let size : c.block_size ≡ v.block_size = (subst (IsCore v.block_size i) (sym ec) (s.cast.places i c li)).block_size_is in
    let start : StartsFor None (count_of c.size c.block_size) c2.first = subst (StartsFor None (count_of c.size c.block_size)) (sym re.first_is) re.length_is in
    let cached = restarts_cached c.block_size set_is c c2 re in
    subst (λ (cs : List CoreView). IsScene (record v { cores = cs })) (sym is) (record {
      cast = renewed v.block_size (λ w. beside w v) v.clients v.cores i c c2 s.cast li ec re.renews (subst (λ (k : ℕ). StartsFor None (count_of c.size k) c2.first) size start);
      backed = backed_core v.cores v.backings i c2 s.backed li (λ e. let b = get_or v.backings i e in let was = subst (λ (x : CoreView). IsBackingOf x b) (sym ec) (s.backed.each i c e li) in record {
        stands = restarts_stands b.stand c c2 re.renews cached was.stands;
        covered = subst (λ (n : ℕ). HasCovered b.stand (n + broken_in b.stand + b.unspent) b) (sym (restarts_charges c.block_size set_is c c2 re)) was.covered;
      });
      queued = let r = re.renews in renewed_queued v.capacity v.clients v.cores v.backings v.writers v.jobs i c c2 s.queued li ec r.entries_were r.entries_are r.out_was r.out_is;
    })

pub started_scene : (v : SceneView) (i : ℕ) (c c2 : CoreView) (b b2 : BackingView) (cores : List CoreView) → cores ≡ set v.cores i c2 → IsScene v → i < length v.cores → c ≡ get_or v.cores i c → b ≡ get_or v.backings i b → IsUnlent b.stand → StartsCore v.block_size c b c2 b2 →
    b2.before ≡ b.before → b2.unspent ≡ b.unspent → Later b.now b2.now → IsScene (record v { cores = cores; backings = set v.backings i b2 })
started_scene v i c c2 b b2 cores is s li ec eb unlent starts before unspent later =
    restarted_scene (record v { backings = set v.backings i b2 }) i b2.durable c c2 cores is (opened_scene {T = Unit {0}} (Ok tt) v i b b2 s li eb unlent starts.opens tt before unspent later) li ec starts.restarts

-- the store is open, and a core starts with its blocks
pub started_moves : (v : SceneView) (i : ℕ) (c c2 : CoreView) (b b2 : BackingView) (cores : List CoreView) → cores ≡ set v.cores i c2 → IsScene v → i < length v.cores → c ≡ get_or v.cores i c → b ≡ get_or v.backings i b → IsUnlent b.stand →
    StartsCore v.block_size c b c2 b2 → b2.before ≡ b.before → Moves v (record v { cores = cores; backings = set v.backings i b2 })
started_moves v i c c2 b b2 cores is s li ec eb unlent starts before =
    let same = s.backed.long in let lb : i < length v.backings = omega (arith, li, same) in let re : Reopens v.block_size b.stand b2.stand = inl starts.opens in
    let long : length (set v.backings i b2) ≡ length v.cores = length-set v.backings i b2 ∙ same in record {
      same = refl;
      clients_are = refl;
      writers_are = refl;
      block_size = refl;
      capacity = refl;
      lent = λ d h. lent_set d v.backings i b b2 lb eb (reopens_path v.block_size b.stand b2.stand re) before h;
      settled_is = let at = settled_at v.cores v.backings i c b b2 same li ec eb in
          let was = unlent_settled b.stand c unlent in let now = unlent_settled b2.stand c (reopens_unlent v.block_size b.stand b2.stand unlent re) in
          let cores_are = ap (λ (cs : List CoreView). settled cs (set v.backings i b2)) is in
          let core = settled_core v.cores (set v.backings i b2) i c c2 long li ec (restarts_charges c.block_size b2.durable c c2 starts.restarts) in omega (arith, at, was, now, cores_are, core);
      goes_on = goes_set v (record v { cores = cores; backings = set v.backings i b2 }) i c c2 b b2 is refl refl same li ec eb starts.restarts.renews.path_is starts.follows;
    }

-- ---- a volume goes home

returns : (o : Option (List ℕ)) (path : List ℕ) (b : BackingView) (d d2 : DepotView) → o ≡ Some path → PutsBack o b d d2 → ReturnsVolume path b d d2
returns None path b d d2 is h = absurd cc
returns (Some p) path b d d2 is h = let same : p ≡ path = cc in subst (λ (q : List ℕ). ReturnsVolume q b d d2) same h

puts_volume : (b : BackingView) (d d2 : DepotView) → IsUnlent b.stand → PutsBack (path_in b.stand) b d d2 → (path : List ℕ) × (path_in b.stand ≡ Some path) × ReturnsVolume path b d d2
puts_volume b d d2 unlent h = let p = unlent_path b.stand unlent in (p.0, p.1, returns (path_in b.stand) p.0 b d d2 p.1 h)

returns_later : (path : List ℕ) (b : BackingView) (d d2 : DepotView) → ReturnsVolume path b d d2 → d.faults ≤ d2.faults
returns_later path b d d2 r = subst (λ (n : ℕ). d.faults ≤ n) (sym r.faults_are) (add_later d.faults (risen b.before b.now.0 b.now.1))

pub home_scene : (v : SceneView) (i : ℕ) (b b2 : BackingView) → b2 ≡ bare → IsScene v → i < length v.cores → b ≡ get_or v.backings i b → IsUnlent b.stand → IsScene (record v { backings = set v.backings i b2 })
home_scene v i b b2 is s li eb unlent = let same = s.backed.long in let lb : i < length v.backings = omega (arith, li, same) in
    subst (λ (x : BackingView). IsScene (record v { backings = set v.backings i x })) (sym is) (record {
      cast = cast_beside v.block_size (λ w. beside w v) (λ w. beside w (record v { backings = set v.backings i bare })) v.clients v.cores s.cast (λ w. beside_same w v i b bare lb eb (unlent_weight w b.stand unlent) refl);
      backed = backed_at v.cores v.backings i bare s.backed li (λ e. bare_backing (get_or v.cores i e) bare refl);
      queued = backing_queued v.capacity v.clients v.cores v.backings v.writers v.jobs i b bare s.queued lb eb tt;
    })

pub home_lent : (v : SceneView) (d d2 : DepotView) (i : ℕ) (b b2 : BackingView) → b2 ≡ bare → IsScene v → i < length v.cores → b ≡ get_or v.backings i b → IsUnlent b.stand → PutsBack (path_in b.stand) b d d2 → IsLentBy d v.backings →
    IsLentBy d2 (set v.backings i b2)
home_lent v d d2 i b b2 is s li eb unlent puts lent = let same = s.backed.long in let h = puts_volume b d d2 unlent puts in
    subst (λ (x : BackingView). IsLentBy d2 (set v.backings i x)) (sym is) (lent_home d d2 v.backings i b h.0 (omega (arith, li, same)) eb h.1 h.2 lent)

home_settled : (v : SceneView) (i : ℕ) (b b2 : BackingView) → b2 ≡ bare → IsScene v → i < length v.cores → b ≡ get_or v.backings i b → ((e : CoreView) → IsUnused (get_or v.cores i e)) → IsUnlent b.stand →
    settled v.cores (set v.backings i b2) ≡ settled v.cores v.backings
home_settled v i b b2 is s li eb unused unlent = let c = get_or v.cores i no_core in let now = ap (λ (x : BackingView). settled v.cores (set v.backings i x)) is in
    let at = settled_at v.cores v.backings i c b bare s.backed.long li (get_or_default v.cores i no_core c li) eb in let was = unlent_settled b.stand c unlent in let none = unused_charges c (unused no_core) in omega (arith, at, was, none, now)

pub home_plays : (v : SceneView) (d d2 : DepotView) (i : ℕ) (b b2 : BackingView) → b2 ≡ bare → IsScene v → i < length v.cores → b ≡ get_or v.backings i b → ((e : CoreView) → IsUnused (get_or v.cores i e)) → IsUnlent b.stand →
    PutsBack (path_in b.stand) b d d2 → Plays v d (record v { backings = set v.backings i b2 }) d2
home_plays v d d2 i b b2 is s li eb unused unlent puts = let h = puts_volume b d d2 unlent puts in record {
  same = refl;
  clients_are = refl;
  writers_are = refl;
  block_size = refl;
  capacity = refl;
  paid = λ f paid. let none = home_settled v i b b2 is s li eb unused unlent in
      rose_less f (settled v.cores v.backings) (settled v.cores (set v.backings i b2)) d.faults d2.faults (omega (arith, none)) (returns_later h.0 b d d2 h.2) paid;
}

-- one failed call more is paid where its counts cover it
abbrev pub Pays : SceneView → ℕ → ℕ → ℕ → ℕ → Type 0
Pays v i n due n2 = (e : BackingView) → Covers 1 (get_or v.backings i e) → (f : ℕ) → RoseBy f (settled v.cores v.backings) n → RoseBy f (due + 1) n2

pub pays_from : (u v : SceneView) (i n due n2 : ℕ) → u ≡ v → Pays u i n due n2 → Pays v i n due n2
pays_from u v i n due n2 same h = subst (λ (x : SceneView). Pays x i n due n2) same h

pub home_pays : (v : SceneView) (d d2 : DepotView) (i : ℕ) (b b2 : BackingView) → b2 ≡ bare → IsScene v → i < length v.cores → b ≡ get_or v.backings i b → ((e : CoreView) → IsUnused (get_or v.cores i e)) → IsUnlent b.stand →
    PutsBack (path_in b.stand) b d d2 → Pays v i d.faults (settled v.cores (set v.backings i b2)) d2.faults
home_pays v d d2 i b b2 is s li eb unused unlent puts e covers f paid =
    let h = puts_volume b d d2 unlent puts in let same = s.backed.long in let lb : i < length v.backings = omega (arith, li, same) in
    let mine = subst (Covers 1) (sym (eb ∙ get_or_default v.backings i b e lb)) covers in
    subst (λ (n : ℕ). RoseBy f (n + 1) d2.faults) (sym (home_settled v i b b2 is s li eb unused unlent))
    (rose_next f (settled v.cores v.backings) d.faults d2.faults (h.2.covers 1 mine) (returns_later h.0 b d d2 h.2) paid)

-- what is owed is paid
pub owes_paid : (u v w : SceneView) (d d2 : DepotView) → Plays u d v d2 → Owes v w → ((f : ℕ) → RoseBy f (settled u.cores u.backings) d.faults → RoseBy f (settled v.cores v.backings + 1) d2.faults) → Plays u d w d2
owes_paid u v w d d2 m n pays = record {
  same = n.same ∙ m.same;
  clients_are = n.clients_are ∙ m.clients_are;
  writers_are = n.writers_are ∙ m.writers_are;
  block_size = n.block_size ∙ m.block_size;
  capacity = n.capacity ∙ m.capacity;
  paid = λ f h. let most = n.settled_most in rose_less f (settled v.cores v.backings + 1) (settled w.cores w.backings) d2.faults d2.faults (omega (arith, most)) (omega arith) (pays f h);
}
