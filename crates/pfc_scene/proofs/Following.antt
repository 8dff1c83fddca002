-- How what a run found on disk is followed, as the scene goes on.
use Rattle.std.proofs.Common.{◌≡◌, ⊎_elim, inl, inr, ℕ, ◌<◌, List, [], ◌∷◌, ◌++◌, length, map, get_or, set, refl, subst, sym, ap, ◌∙◌, arith}
use Rattle.std.specs.Prelude.{Any, Contains, IfSome, OnOk, Option, Some, None, Result, Ok, Err}
use mathlib.Core.Logic.{dite}
use native.Mathlib.Decide.{ℕ_discrete}
use Rattle.std.proofs.Math.Seq.{map-set_same}
use Rattle.std.proofs.lemmas.List.{set-get_or, length_push, length-map, length-set, length-append, get_or-map, get_or_default, get_or_append_left, get_or-set_same, get_or-set_other}
use Rattle.pfc_world.specs.Depot.{Fewer}
use Rattle.pfc_world.specs.Files.{Files}
use Rattle.pfc_world.specs.Info.{Info}
use Rattle.pfc_core.specs.View.{CoreView}
use Rattle.pfc_report.specs.Restart.{IsLeft, OpensPath, StartsFound}
use Rattle.pfc_report.specs.Schedule.{Line, asked}
use Rattle.pfc_actor.specs.Backings.{BackingView, Stand, Bare, Taken, Open, Lent, bare, AreLeft, Follows, FollowsIn}
use Rattle.pfc_actor.specs.Clients.{ClientView}
use Rattle.pfc_scene.specs.Ends.{all_asked}
use Rattle.pfc_scene.specs.Scenes.{SceneView, AllFollow, GoesOn, GrowsPaths, Moves, Owes, Persists, WasAsked, paths_of, who}
use Rattle.pfc_scene.proofs.Casts.{at_end, below_or, no_core}

-- ---- one core

abbrev path_of : CoreView → List ℕ
path_of c = c.path

-- of the same file and start, with the same blocks claimed and durable
pub record SameBlocks (c c2 : CoreView) : Type 0 where
  pub path_is : c2.path ≡ c.path
  pub size_is : c2.size ≡ c.size
  pub first_is : c2.first ≡ c.first
  pub claimed_is : c2.claimed ≡ c.claimed
  pub durable_is : c2.durable ≡ c.durable

-- by a step that changes no more than the log, what is out and the accesses
pub same_blocks : (c c2 : CoreView) → c2 ≡ record c { entries = c2.entries; out = c2.out; access = c2.access } → SameBlocks c c2
same_blocks c c2 home = record {
  path_is = ap (λ (v : CoreView). v.path) home;
  size_is = ap (λ (v : CoreView). v.size) home;
  first_is = ap (λ (v : CoreView). v.first) home;
  claimed_is = ap (λ (v : CoreView). v.claimed) home;
  durable_is = ap (λ (v : CoreView). v.durable) home;
}

starts_by : (k : ℕ) (found : Option (Option (List ℕ))) (c c2 : CoreView) → SameBlocks c c2 → IfSome found (λ main. StartsFound c.size k main c.first) → IfSome found (λ main. StartsFound c2.size k main c2.first)
starts_by k None c c2 same h = tt
starts_by k (Some main) c c2 same h = subst (λ (size : ℕ). StartsFound size k main c2.first) (sym same.size_is) (subst (StartsFound c.size k main) (sym same.first_is) h)

left_by : (k : ℕ) (found : Option (Option (List ℕ))) (c c2 : CoreView) (info : Option Info) → SameBlocks c c2 → IfSome found (λ main. AreLeft c.size k main info) → IfSome found (λ main. AreLeft c2.size k main info)
left_by k None c c2 info same h = tt
left_by k (Some main) c c2 info same h = subst (λ (size : ℕ). AreLeft size k main info) (sym same.size_is) h

follows_by : (s : Stand) (k : ℕ) (found : Option (Option (List ℕ))) (c c2 : CoreView) (b : BackingView) → SameBlocks c c2 → FollowsIn s c.size k found c b → FollowsIn s c2.size k found c2 b
follows_by Bare k found c c2 b same h = tt
follows_by (Taken path n) k found c c2 b same h = left_by k found c c2 b.info same h
follows_by (Open path n j) k found c c2 b same h = (starts_by k found c c2 same h.0, h.1 ∙ sym same.claimed_is, h.2 ∙ sym same.durable_is)
follows_by (Lent mark done) k found c c2 b same h = starts_by k found c c2 same h

pub follows_same : (k : ℕ) (found : Option (Option (List ℕ))) (c c2 : CoreView) (b : BackingView) → SameBlocks c c2 → Follows c.size k found c b → Follows c2.size k found c2 b
follows_same k found c c2 b same h = follows_by b.stand k found c c2 b same h

-- the size of the file is what it was
pub follows_sized : (k : ℕ) (found : Option (Option (List ℕ))) (c c2 : CoreView) (b : BackingView) → c2.size ≡ c.size → Follows c.size k found c2 b → Follows c2.size k found c2 b
follows_sized k found c c2 b same h = subst (λ (size : ℕ). Follows size k found c2 b) (sym same) h

pub follows_bare : (size k : ℕ) (found : Option (Option (List ℕ))) (c : CoreView) (b : BackingView) → b.stand ≡ Bare → Follows size k found c b
follows_bare size k found c b none = subst (λ (s : Stand). FollowsIn s size k found c b) (sym none) tt

-- ---- all cores

pub follows_at : (path : List ℕ) (found : Option (Option (List ℕ))) (k : ℕ) (cores : List CoreView) (backings : List BackingView) (i : ℕ) (c : CoreView) (b : BackingView) → i < length cores → c ≡ get_or cores i c → b ≡ get_or backings i b →
    AllFollow path found k cores backings → c.path ≡ path → Follows c.size k found c b
follows_at path found k cores backings i c b li ec eb all same =
    subst (λ (x : CoreView). Follows x.size k found x b) (sym ec)
    (subst (λ (y : BackingView). Follows (get_or cores i c).size k found (get_or cores i c) y) (sym eb) (all i c b li (ap path_of (sym ec) ∙ same)))

pub all_set : (path : List ℕ) (found : Option (Option (List ℕ))) (k : ℕ) (cores : List CoreView) (backings : List BackingView) (i : ℕ) (c c2 : CoreView) (b b2 : BackingView) → length backings ≡ length cores → i < length cores → c ≡ get_or cores i c → b ≡ get_or backings i b →
    c2.path ≡ c.path → (c.path ≡ path → Follows c.size k found c b → Follows c2.size k found c2 b2) → AllFollow path found k cores backings → AllFollow path found k (set cores i c2) (set backings i b2)
all_set path found k cores backings i c c2 b b2 long li ec eb same step all j d e lj at =
    let lb : i < length backings = omega (arith, long, li) in let lj2 : j < length cores = omega (arith, lj, length-set cores i c2) in
    dite (ℕ_discrete j i)
    (λ q. let core : get_or (set cores i c2) j d ≡ c2 = subst (λ (x : ℕ). get_or (set cores i c2) x d ≡ c2) (sym q) (get_or-set_same cores i c2 d li) in
    let back : get_or (set backings i b2) j e ≡ b2 = subst (λ (x : ℕ). get_or (set backings i b2) x e ≡ b2) (sym q) (get_or-set_same backings i b2 e lb) in
    let here : c.path ≡ path = sym same ∙ ap path_of (sym core) ∙ at in let was = follows_at path found k cores backings i c b li ec eb all here in
    subst (λ (x : CoreView). Follows x.size k found x (get_or (set backings i b2) j e)) (sym core) (subst (λ (y : BackingView). Follows c2.size k found c2 y) (sym back) (step here was)))
    (λ n. let core : get_or (set cores i c2) j d ≡ get_or cores j d = get_or-set_other cores i j c2 d n in
    let back : get_or (set backings i b2) j e ≡ get_or backings j e = get_or-set_other backings i j b2 e n in
    subst (λ (x : CoreView). Follows x.size k found x (get_or (set backings i b2) j e)) (sym core)
    (subst (λ (y : BackingView). Follows (get_or cores j d).size k found (get_or cores j d) y) (sym back) (all j d e lj2 (ap path_of (sym core) ∙ at))))

all_push : (path : List ℕ) (found : Option (Option (List ℕ))) (k : ℕ) (cores : List CoreView) (backings : List BackingView) (c : CoreView) → length backings ≡ length cores → AllFollow path found k cores backings → AllFollow path found k (cores ++ c ∷ []) (backings ++ bare ∷ [])
all_push path found k cores backings c long all j d e lj at = let more = length_push cores c in let as_more = length_push backings bare in
    ⊎_elim
    (λ l. let core : get_or (cores ++ c ∷ []) j d ≡ get_or cores j d = get_or_append_left cores (c ∷ []) d j l in
    let back : get_or (backings ++ bare ∷ []) j e ≡ get_or backings j e = get_or_append_left backings (bare ∷ []) e j (omega (arith, l, long)) in
    subst (λ (x : CoreView). Follows x.size k found x (get_or (backings ++ bare ∷ []) j e)) (sym core)
    (subst (λ (y : BackingView). Follows (get_or cores j d).size k found (get_or cores j d) y) (sym back) (all j d e l (ap path_of (sym core) ∙ at))))
    (λ far. follows_bare (get_or (cores ++ c ∷ []) j d).size k found (get_or (cores ++ c ∷ []) j d) (get_or (backings ++ bare ∷ []) j e)
    (ap (λ (b : BackingView). b.stand) (at_end backings bare e j (omega (arith, lj, more, as_more, long)) (omega (arith, far, long)))))
    (below_or j (length cores))

-- ---- the paths

-- a path that has a core
pub core_there : (cores : List CoreView) (path : List ℕ) (i : ℕ) (d : CoreView) → i < length cores → (get_or cores i d).path ≡ path → Contains (paths_of cores) path
core_there cores path i d li at = (i, omega (arith, li, length-map cores path_of), get_or-map path_of cores i d path li ∙ at)

-- and the core of one
pub core_of : (cores : List CoreView) (path : List ℕ) → Contains (paths_of cores) path → (i : ℕ) × (i < length cores) × ((d : CoreView) → (get_or cores i d).path ≡ path)
core_of cores path there = let low : there.0 < length cores = let l = there.1 in omega (arith, l, length-map cores path_of) in
    (there.0, low, λ d. sym (get_or-map path_of cores there.0 d path low) ∙ there.2)

pub grows_same : (v v2 : SceneView) → paths_of v2.cores ≡ paths_of v.cores → GrowsPaths v v2
grows_same v v2 same = record {
  stays = λ path h. subst (λ (ps : List (List ℕ)). Contains ps path) (sym same) h;
  asked = λ path h. inl (subst (λ (ps : List (List ℕ)). Contains ps path) same h);
}

paths_set : (cores : List CoreView) (i : ℕ) (c c2 : CoreView) → c ≡ get_or cores i c → c2.path ≡ c.path → paths_of (set cores i c2) ≡ paths_of cores
paths_set cores i c c2 ec same = map-set_same path_of cores i c2 c (same ∙ ap path_of ec)

-- ---- the scene

-- no core and nothing beside one has changed
pub goes_still : (v v2 : SceneView) → v2.cores ≡ v.cores → v2.backings ≡ v.backings → v2.block_size ≡ v.block_size → GoesOn v v2
goes_still v v2 cores backings size = record {
  grows = grows_same v v2 (ap paths_of cores);
  follows = λ path found all.
      subst (λ (k : ℕ). AllFollow path found k v2.cores v2.backings) (sym size)
      (subst (λ (cs : List CoreView). AllFollow path found v.block_size cs v2.backings) (sym cores) (subst (λ (bs : List BackingView). AllFollow path found v.block_size v.cores bs) (sym backings) all));
}

-- one core and what stands beside it are others
pub goes_set : (v v2 : SceneView) (i : ℕ) (c c2 : CoreView) (b b2 : BackingView) → v2.cores ≡ set v.cores i c2 → v2.backings ≡ set v.backings i b2 → v2.block_size ≡ v.block_size → length v.backings ≡ length v.cores → i < length v.cores →
    c ≡ get_or v.cores i c → b ≡ get_or v.backings i b → c2.path ≡ c.path → ((found : Option (Option (List ℕ))) → Follows c.size v.block_size found c b → Follows c2.size v.block_size found c2 b2) → GoesOn v v2
goes_set v v2 i c c2 b b2 cores backings size long li ec eb same step = record {
  grows = grows_same v v2 (ap paths_of cores ∙ paths_set v.cores i c c2 ec same);
  follows = λ path found all.
      subst (λ (k : ℕ). AllFollow path found k v2.cores v2.backings) (sym size)
      (subst (λ (cs : List CoreView). AllFollow path found v.block_size cs v2.backings) (sym cores)
      (subst (λ (bs : List BackingView). AllFollow path found v.block_size (set v.cores i c2) bs) (sym backings) (all_set path found v.block_size v.cores v.backings i c c2 b b2 long li ec eb same (λ here. step found) all)));
}

-- one core is another with the same blocks
pub goes_core : (v v2 : SceneView) (i : ℕ) (c c2 : CoreView) → v2.cores ≡ set v.cores i c2 → v2.backings ≡ v.backings → v2.block_size ≡ v.block_size → length v.backings ≡ length v.cores → i < length v.cores → c ≡ get_or v.cores i c → SameBlocks c c2 → GoesOn v v2
goes_core v v2 i c c2 cores backings size long li ec same = let b = get_or v.backings i bare in let eb = get_or_default v.backings i bare b (omega (arith, long, li)) in
    goes_set v v2 i c c2 b b cores (backings ∙ sym (ap (set v.backings i) eb ∙ set-get_or v.backings i b)) size long li ec eb same.path_is (λ found. follows_same v.block_size found c c2 b same)

-- what stands beside one is another
pub goes_backing : (v v2 : SceneView) (i : ℕ) (b b2 : BackingView) → v2.cores ≡ v.cores → v2.backings ≡ set v.backings i b2 → v2.block_size ≡ v.block_size → length v.backings ≡ length v.cores → i < length v.cores → b ≡ get_or v.backings i b →
    ((found : Option (Option (List ℕ))) (c : CoreView) → c ≡ get_or v.cores i c → Follows c.size v.block_size found c b → Follows c.size v.block_size found c b2) → GoesOn v v2
goes_backing v v2 i b b2 cores backings size long li eb step = let c = get_or v.cores i no_core in let ec = get_or_default v.cores i no_core c li in
    goes_set v v2 i c c b b2 (cores ∙ sym (ap (set v.cores i) ec ∙ set-get_or v.cores i c)) backings size long li ec eb refl (λ found. step found c ec)

-- one core more, of a path that a client was asked to open
pub goes_more : (v v2 : SceneView) (c : CoreView) → v2.cores ≡ v.cores ++ c ∷ [] → v2.backings ≡ v.backings ++ bare ∷ [] → v2.block_size ≡ v.block_size → length v.backings ≡ length v.cores → WasAsked c.path (map who v2.clients) → GoesOn v v2
goes_more v v2 c cores backings size long asked = let more = length_push v.cores c in record {
  grows = record {
    stays = λ path h. let at = core_of v.cores path h in let low = at.1 in
        subst (λ (cs : List CoreView). Contains (paths_of cs) path) (sym cores)
        (core_there (v.cores ++ c ∷ []) path at.0 no_core (omega (arith, low, more)) (ap path_of (get_or_append_left v.cores (c ∷ []) no_core at.0 low) ∙ at.2 no_core));
    asked = λ path h. let at = core_of (v.cores ++ c ∷ []) path (subst (λ (cs : List CoreView). Contains (paths_of cs) path) cores h) in
        ⊎_elim
        (λ l. inl (core_there v.cores path at.0 no_core l (ap path_of (sym (get_or_append_left v.cores (c ∷ []) no_core at.0 l)) ∙ at.2 no_core)))
        (λ far. let last = at_end v.cores c no_core at.0 at.1 far in inr (subst (λ (p : List ℕ). WasAsked p (map who v2.clients)) (ap path_of (sym last) ∙ at.2 no_core) asked))
        (below_or at.0 (length v.cores));
  };
  follows = λ path found all.
      subst (λ (k : ℕ). AllFollow path found k v2.cores v2.backings) (sym size)
      (subst (λ (cs : List CoreView). AllFollow path found v.block_size cs v2.backings) (sym cores)
      (subst (λ (bs : List BackingView). AllFollow path found v.block_size (v.cores ++ c ∷ []) bs) (sym backings) (all_push path found v.block_size v.cores v.backings c long all)));
}

-- a client at this place was asked
pub asked_at : (clients : List ClientView) (j : ℕ) (a : ClientView) (path : List ℕ) → j < length clients → a ≡ get_or clients j a → Any (OpensPath path) a.book.asked → WasAsked path (map who clients)
asked_at clients j a path low ea any = (j, who a, omega (arith, low, length-map clients who), get_or-map who clients j a (who a) low ∙ ap who (sym ea), any)

-- more was asked of each
more_asked : (lines : List Line) (xs : List (ℕ × List (List ℕ))) (path : List ℕ) → WasAsked path xs → WasAsked path (map (all_asked lines) xs)
more_asked lines xs path was = let k = was.0 in let x = was.1 in let line = was.4 in
    let low : line.0 < length (x.1 ++ asked x.0 lines) = let l = line.2 in omega (arith, l, length-append x.1 (asked x.0 lines)) in (
      k,
      all_asked lines x,
      (let l = was.2 in omega (arith, l, length-map xs (all_asked lines))),
      get_or-map (all_asked lines) xs k x (all_asked lines x) was.2 ∙ ap (all_asked lines) was.3,
      (line.0, line.1, low, get_or_append_left x.1 (asked x.0 lines) line.1 line.0 line.2 ∙ line.3, line.4),
    )

pub step_asked : (lines : List Line) (xs ys : List (ℕ × List (List ℕ))) → ys ≡ map (all_asked lines) xs → (path : List ℕ) → WasAsked path xs → WasAsked path ys
step_asked lines xs ys is path was = subst (WasAsked path) (sym is) (more_asked lines xs path was)

-- ---- one after the other

pub grows_on : (u v w : SceneView) → ((path : List ℕ) → WasAsked path (map who v.clients) → WasAsked path (map who w.clients)) → GrowsPaths u v → GrowsPaths v w → GrowsPaths u w
grows_on u v w more m n = record {
  stays = λ path h. n.stays path (m.stays path h);
  asked = λ path h. ⊎_elim (λ was. ⊎_elim (λ first. inl first) (λ asked. inr (more path asked)) (m.asked path was)) (λ asked. inr asked) (n.asked path h);
}

-- the clients were asked the same
pub same_asked : (xs ys : List (ℕ × List (List ℕ))) → ys ≡ xs → (path : List ℕ) → WasAsked path xs → WasAsked path ys
same_asked xs ys same path h = subst (WasAsked path) (sym same) h

pub goes_on_then : (u v w : SceneView) → map who w.clients ≡ map who v.clients → GoesOn u v → GoesOn v w → GoesOn u w
goes_on_then u v w same m n = record {
  grows = grows_on u v w (same_asked (map who v.clients) (map who w.clients) same) m.grows n.grows;
  follows = λ path found all. n.follows path found (m.follows path found all);
}

-- with fewer main files what is home is left of what was found
pub left_home : (size k k2 : ℕ) (found : Option (Option (List ℕ))) (IsMain NewMain : Option (List ℕ) → Type 0) → k2 ≡ k → Fewer IsMain NewMain → IfSome found (λ was. (main : Option (List ℕ)) → IsMain main → IsLeft size k was main) →
    IfSome found (λ was. (main : Option (List ℕ)) → NewMain main → IsLeft size k2 was main)
left_home size k k2 None IsMain NewMain same fewer h = tt
left_home size k k2 (Some was) IsMain NewMain same fewer h = λ main home. subst (λ (n : ℕ). IsLeft size n was main) (sym same) (h main (fewer main home))

pub each_ok : {T E : Type 0} (r : Result T E) {P : Type 0} → P → OnOk r P
each_ok (Ok x) p = p
each_ok (Err e) p = tt

module _ (files : Files) where
  pub persists_on : (u v w : SceneView) (IsMain MidMain NewMain : List ℕ → Option (List ℕ) → Type 0) → ((path : List ℕ) → WasAsked path (map who v.clients) → WasAsked path (map who w.clients)) →
      Persists files u IsMain v MidMain → Persists files v MidMain w NewMain → Persists files u IsMain w NewMain
  persists_on u v w IsMain MidMain NewMain more m n = record {
    grows = grows_on u v w more m.grows n.grows;
    stands = λ path file found is s. n.stands path file found is (m.stands path file found is s);
    untouched = λ path none main is. m.untouched path (λ there. none (n.grows.stays path there)) main (n.untouched path none main is);
  }

  -- the depot has no more main files than it had
  pub goes_persists : (v w : SceneView) (IsMain NewMain : List ℕ → Option (List ℕ) → Type 0) → w.block_size ≡ v.block_size → GoesOn v w → ((path : List ℕ) → Fewer (IsMain path) (NewMain path)) → Persists files v IsMain w NewMain
  goes_persists v w IsMain NewMain size m fewer = record {
    grows = m.grows;
    stands = λ path file found is s. (m.follows path found s.0, left_home (length file) v.block_size w.block_size found (IsMain path) (NewMain path) size (fewer path) s.1);
    untouched = λ path none. fewer path;
  }

  -- the scene as the fields say it
  pub persists_from : (u v w : SceneView) (IsMain NewMain : List ℕ → Option (List ℕ) → Type 0) → u ≡ v → Persists files u IsMain w NewMain → Persists files v IsMain w NewMain
  persists_from u v w IsMain NewMain same m = subst (λ (x : SceneView). Persists files x IsMain w NewMain) same m

  pub persists_not : (v : SceneView) (IsMain : List ℕ → Option (List ℕ) → Type 0) → Persists files v IsMain v IsMain
  persists_not v IsMain = goes_persists v v IsMain IsMain refl (goes_still v v refl refl refl) (λ path main home. home)

  pub moves_persists : (v w : SceneView) (IsMain : List ℕ → Option (List ℕ) → Type 0) → Moves v w → Persists files v IsMain w IsMain
  moves_persists v w IsMain m = goes_persists v w IsMain IsMain m.block_size m.goes_on (λ path main home. home)

  pub owes_persists : (v w : SceneView) (IsMain NewMain : List ℕ → Option (List ℕ) → Type 0) → Owes v w → ((path : List ℕ) → Fewer (IsMain path) (NewMain path)) → Persists files v IsMain w NewMain
  owes_persists v w IsMain NewMain m fewer = goes_persists v w IsMain NewMain m.block_size m.goes_on fewer
