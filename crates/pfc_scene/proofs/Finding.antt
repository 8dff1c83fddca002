-- What a volume has of what a run found, as it leaves the depot and comes home.
use Rattle.std.proofs.Common.{◌≡◌, ⊎_elim, ℕ, ◌<◌, List, length, get_or, set, refl, subst, sym, ap, ◌∙◌, arith, Bool}
use Rattle.std.specs.Prelude.{IfSome, Option, Some, None, OnErr, Result, Ok, Err, option_map}
use Rattle.std.proofs.lemmas.List.{set-get_or, get_or_default}
use Rattle.pfc_world.specs.Files.{Files, file_at, size_at}
use Rattle.pfc_world.specs.Info.{Info}
use Rattle.pfc_log.specs.declared.start.Start.{Start}
use Rattle.pfc_log.specs.declared.start.Start.TheVariants.{Stored}
use Rattle.pfc_core.specs.View.{CoreView}
use Rattle.pfc_report.specs.Restart.{ClaimsFound, IsLeft, StartsFound}
use Rattle.pfc_actor.specs.declared.backing.Standing.TheVariants as standing
use Rattle.pfc_actor.specs.Backings.{BackingView, Stand, Bare, Taken, Open, Lent, bare, AreFromHome, AreLeft, FewerMains, Follows, FollowsIn, IsBackingOf, IsMainIn, PutsMain, PutsMains, StandsFor, IsOpen, Opens, OpensFound, OpensTaken, path_in, shut_stand, standing_of}
use Rattle.pfc_actor.proofs.BackingHomes.{this_or_other}
use Rattle.pfc_scene.specs.Scenes.{SceneView, AllFollow, IsScene, Persists, Restarts, StartsCore, StartsNot}
use Rattle.pfc_scene.proofs.Following.{all_set, core_there, follows_at, follows_bare, grows_same, left_home}

-- what is home at a path is left of what was found there
abbrev pub HomeLeft : ℕ → ℕ → Option (Option (List ℕ)) → (Option (List ℕ) → Type 0) → Type 0
HomeLeft size k found IsHome = IfSome found (λ was. (main : Option (List ℕ)) → IsHome main → IsLeft size k was main)

-- the size of a core's file
size_is : (files : Files) (p path file : List ℕ) (size : ℕ) → p ≡ path → size_at files path ≡ Some size → file_at files p ≡ Some file → length file ≡ size
size_is files p path file size same sized at = let both : Some (length file) ≡ Some size = ap (option_map length) (sym at) ∙ ap (size_at files) same ∙ sized in cc

home_at : (p q : List ℕ) (size size2 k : ℕ) (found : Option (Option (List ℕ))) (IsMain : List ℕ → Option (List ℕ) → Type 0) → p ≡ q → size ≡ size2 → HomeLeft size k found (IsMain p) → HomeLeft size2 k found (IsMain q)
home_at p q size size2 k found IsMain same sizes h = subst (λ (n : ℕ). HomeLeft n k found (IsMain q)) sizes (subst (λ (r : List ℕ). HomeLeft size k found (IsMain r)) same h)

-- ---- a volume is taken

follows_taken : (s : Stand) (path : List ℕ) (n size k : ℕ) (found : Option (Option (List ℕ))) (c : CoreView) (b : BackingView) → s ≡ Taken path n → IfSome found (λ main. AreLeft size k main b.info) → FollowsIn s size k found c b
follows_taken s path n size k found c b is left = subst (λ (x : Stand). FollowsIn x size k found c b) (sym is) left

-- what came from home is left of what was found, as all was that was home
from_left : (size k : ℕ) (found : Option (Option (List ℕ))) (IsHome : Option (List ℕ) → Type 0) (info : Option Info) → AreFromHome IsHome info → HomeLeft size k found IsHome → IfSome found (λ was. AreLeft size k was info)
from_left size k None IsHome info from left = tt
from_left size k (Some was) IsHome None from left = absurd from
from_left size k (Some was) IsHome (Some info) from left = λ main is. left main (from main is)

-- what it has was home, and nothing has come home
pub taken_persists : (files : Files) (v w : SceneView) (i : ℕ) (c : CoreView) (b2 : BackingView) (IsMain NewMain : List ℕ → Option (List ℕ) → Type 0) (path : List ℕ) (size : ℕ) → w ≡ record v { backings = set v.backings i b2 } → IsScene v → i < length v.cores → c ≡ get_or v.cores i c →
    b2.stand ≡ Taken path size → path ≡ c.path → size_at files c.path ≡ Some c.size → FewerMains IsMain NewMain → AreFromHome (IsMain path) b2.info → Persists files v IsMain w NewMain
taken_persists files v w i c b2 IsMain NewMain path size is_w s li ec is same sized fewer from =
    let long = s.backed.long in let lb : i < length v.backings = omega (arith, li, long) in
    let b = get_or v.backings i bare in let eb = get_or_default v.backings i bare b lb in
    let x : SceneView = record v { backings = set v.backings i b2 } in
    let cores : set v.cores i c ≡ v.cores = ap (set v.cores i) ec ∙ set-get_or v.cores i c in
    subst (λ (y : SceneView). Persists files v IsMain y NewMain) (sym is_w) (record {
      grows = grows_same v x refl;
      stands = λ p file found at h. (
        subst (λ (cs : List CoreView). AllFollow p found v.block_size cs x.backings) cores
            (all_set p found v.block_size v.cores v.backings i c c b b2 long li ec eb refl
            (λ here was. follows_taken b2.stand path size c.size v.block_size found c b2 is
            (from_left c.size v.block_size found (IsMain path) b2.info from (home_at p path (length file) c.size v.block_size found IsMain (sym here ∙ sym same) (size_is files p c.path file c.size (sym here) sized at) h.1)))
            h.0),
        left_home (length file) v.block_size v.block_size found (IsMain p) (NewMain p) refl (fewer p) h.1,
      );
      untouched = λ p none. fewer p;
    })

-- ---- it comes home

pub taken_is : (s : Stand) → standing_of s ≡ standing.Taken → (path : List ℕ) × (size : ℕ) × (s ≡ Taken path size)
taken_is Bare h = absurd cc
taken_is (Taken path size) h = (path, size, refl)
taken_is (Open path size k) h = absurd cc
taken_is (Lent mark done) h = absurd cc

puts_at : (o : Option (List ℕ)) (path : List ℕ) (b : BackingView) (IsMain NewMain : List ℕ → Option (List ℕ) → Type 0) → o ≡ Some path → PutsMains o b IsMain NewMain → PutsMain path b IsMain NewMain
puts_at None path b IsMain NewMain is h = absurd cc
puts_at (Some p) path b IsMain NewMain is h = let same : p ≡ path = cc in subst (λ (q : List ℕ). PutsMain q b IsMain NewMain) same h

left_in : (size k : ℕ) (was main : Option (List ℕ)) (info : Option Info) → AreLeft size k was info → IsMainIn info main → IsLeft size k was main
left_in size k was main None left is = absurd is
left_in size k was main (Some info) left is = left main is

in_left : (size k : ℕ) (found : Option (Option (List ℕ))) (info : Option Info) (NewHome : Option (List ℕ) → Type 0) → ((main : Option (List ℕ)) → NewHome main → IsMainIn info main) → IfSome found (λ was. AreLeft size k was info) → HomeLeft size k found NewHome
in_left size k None info NewHome is left = tt
in_left size k (Some was) info NewHome is left = λ main home. left_in size k was main info left (is main home)

-- what a volume that was only taken has is left
follows_left : (s : Stand) (size k : ℕ) (found : Option (Option (List ℕ))) (c : CoreView) (b : BackingView) → standing_of s ≡ standing.Taken → FollowsIn s size k found c b → IfSome found (λ was. AreLeft size k was b.info)
follows_left Bare size k found c b taken h = absurd cc
follows_left (Open path n j) size k found c b taken h = absurd cc
follows_left (Lent mark done) size k found c b taken h = absurd cc
follows_left (Taken path n) size k found c b taken h = h

-- what is home at its path is what it had
pub found_home : (files : Files) (v : SceneView) (i : ℕ) (c : CoreView) (b b2 : BackingView) (IsMain NewMain : List ℕ → Option (List ℕ) → Type 0) → b2 ≡ bare → IsScene v → i < length v.cores → c ≡ get_or v.cores i c → b ≡ get_or v.backings i b →
    standing_of b.stand ≡ standing.Taken → size_at files c.path ≡ Some c.size → PutsMains (path_in b.stand) b IsMain NewMain → Persists files v IsMain (record v { backings = set v.backings i b2 }) NewMain
found_home files v i c b b2 IsMain NewMain none s li ec eb taken sized puts =
    let long = s.backed.long in let w : SceneView = record v { backings = set v.backings i b2 } in
    let cores : set v.cores i c ≡ v.cores = ap (set v.cores i) ec ∙ set-get_or v.cores i c in
    let at = taken_is b.stand taken in let path = at.0 in let put = puts_at (path_in b.stand) path b IsMain NewMain (ap path_in at.2) puts in
    let backs = subst (λ (x : CoreView). IsBackingOf x b) (sym ec) (subst (IsBackingOf (get_or v.cores i c)) (sym eb) (s.backed.each i c b li)) in
    let mine : path ≡ c.path = (subst (λ (x : Stand). StandsFor x c) at.2 backs.stands).0 in record {
      grows = grows_same v w refl;
      stands = λ p file found is h. (
        subst (λ (cs : List CoreView). AllFollow p found v.block_size cs w.backings) cores
            (all_set p found v.block_size v.cores v.backings i c c b b2 long li ec eb refl (λ here was. follows_bare c.size v.block_size found c b2 (ap (λ (x : BackingView). x.stand) none)) h.0),
        ⊎_elim
            (λ same. home_at path p c.size (length file) v.block_size found NewMain (sym same) (sym (size_is files p c.path file c.size (same ∙ mine) sized is))
            (in_left c.size v.block_size found b.info (NewMain path) (λ main home. (put.here main home).0)
            (follows_left b.stand c.size v.block_size found c b taken (follows_at p found v.block_size v.cores v.backings i c b li ec eb h.0 (sym (same ∙ mine))))))
            (λ apart. left_home (length file) v.block_size v.block_size found (IsMain p) (NewMain p) refl (put.elsewhere p apart) h.1)
            (this_or_other path p),
      );
      untouched = λ p alone. ⊎_elim (λ same. absurd (alone (core_there v.cores p i c li (ap (λ (x : CoreView). x.path) (sym ec) ∙ sym (same ∙ mine))))) (λ apart. put.elsewhere p apart) (this_or_other path p);
    }

-- ---- its store is opened

starts_with : (size n k : ℕ) (found : Option (Option (List ℕ))) (info info2 : Option Info) (s : Stand) (first : Start) (claimed durable : List Bool) → size ≡ n → first ≡ Stored durable → IsOpen s → OpensFound size k info info2 s claimed durable → IfSome found (λ was. AreLeft n k was info) →
    IfSome found (λ was. StartsFound n k was first)
starts_with size n k None info info2 s first claimed durable same is open_is opens left = tt
starts_with size n k (Some was) info info2 s first claimed durable same is open_is opens left =
    subst (StartsFound n k was) (sym is)
    (subst (λ (set : List Bool). ClaimsFound n k was set) (sym opens.durable_is)
    (subst (λ (m : ℕ). ClaimsFound m k was claimed) same (opens.starts open_is was (subst (λ (m : ℕ). AreLeft m k was info) (sym same) left))))

left_still : (size n k : ℕ) (found : Option (Option (List ℕ))) (info info2 : Option Info) (s : Stand) (claimed durable : List Bool) → size ≡ n → OpensFound size k info info2 s claimed durable → IfSome found (λ was. AreLeft n k was info) → IfSome found (λ was. AreLeft n k was info2)
left_still size n k None info info2 s claimed durable same opens left = tt
left_still size n k (Some was) info info2 s claimed durable same opens left =
    subst (λ (m : ℕ). AreLeft m k was info2) same (opens.left was (subst (λ (m : ℕ). AreLeft m k was info) (sym same) left))

-- a core starts with the blocks of its store, which are claimed and durable
pub started_follows : (s : Stand) (k : ℕ) (found : Option (Option (List ℕ))) (c c2 : CoreView) (info : Option Info) (b2 : BackingView) → standing_of s ≡ standing.Taken → StandsFor s c → Opens k s b2.stand → OpensTaken s k info b2 → Restarts c.block_size b2.durable c c2 →
    IfSome found (λ was. AreLeft c.size k was info) → Follows c2.size k found c2 b2
started_follows Bare k found c c2 info b2 taken st opens by re left = absurd opens
started_follows (Open path size j) k found c c2 info b2 taken st opens by re left = absurd opens
started_follows (Lent mark done) k found c c2 info b2 taken st opens by re left = absurd opens
started_follows (Taken path size) k found c c2 info b2 taken st opens by re left =
    let is_open = subst IsOpen (sym opens) tt in
    let starts = starts_with size c2.size k found info b2.info b2.stand c2.first b2.claimed b2.durable (st.1 ∙ sym re.renews.size_is) re.first_is is_open by (subst (λ (n : ℕ). IfSome found (λ was. AreLeft n k was info)) (sym re.renews.size_is) left) in
    let sets : (b2.claimed ≡ c2.claimed) × (b2.durable ≡ c2.durable) = (sym by.durable_is ∙ sym re.claimed_is, sym re.durable_is) in
    subst (λ (x : Stand). FollowsIn x c2.size k found c2 b2) (sym opens) (starts, sets.0, sets.1)

-- or the volume stands there as before
pub unstarted_follows : (s : Stand) (k : ℕ) (found : Option (Option (List ℕ))) (c : CoreView) (info : Option Info) (b b2 : BackingView) → standing_of s ≡ standing.Taken → StandsFor s c → b2.stand ≡ s → b2.info ≡ b.info → OpensTaken s k info b →
    IfSome found (λ was. AreLeft c.size k was info) → Follows c.size k found c b2
unstarted_follows Bare k found c info b b2 taken st same infos by left = absurd by
unstarted_follows (Open path size j) k found c info b b2 taken st same infos by left = absurd by
unstarted_follows (Lent mark done) k found c info b b2 taken st same infos by left = absurd by
unstarted_follows (Taken path size) k found c info b b2 taken st same infos by left =
    follows_taken b2.stand path size c.size k found c b2 same
    (subst (λ (i : Option Info). IfSome found (λ was. AreLeft c.size k was i)) (sym infos) (left_still size c.size k found info b.info b.stand b.claimed b.durable st.1 by left))

-- ---- one call that opens a store and starts its core

pub shut_back : (k : ℕ) (s s2 s3 : Stand) → standing_of s ≡ standing.Taken → Opens k s s2 → s3 ≡ shut_stand s2 → s3 ≡ s
shut_back k Bare s2 s3 taken opens shut = absurd opens
shut_back k (Open path size j) s2 s3 taken opens shut = absurd opens
shut_back k (Lent mark done) s2 s3 taken opens shut = absurd opens
shut_back k (Taken path size) s2 s3 taken opens shut = shut ∙ ap shut_stand opens

pub started : (k : ℕ) (c c2 : CoreView) (b b2 : BackingView) → standing_of b.stand ≡ standing.Taken → StandsFor b.stand c → Opens k b.stand b2.stand → OpensTaken b.stand k b.info b2 → Restarts c.block_size b2.durable c c2 → StartsCore k c b c2 b2
started k c c2 b b2 taken st opens by re = record { opens = opens; restarts = re; follows = λ found h. started_follows b.stand k found c c2 b.info b2 taken st opens by re (follows_left b.stand c.size k found c b taken h) }

pub unstarted : (k : ℕ) (c : CoreView) (b mid b2 : BackingView) → standing_of b.stand ≡ standing.Taken → StandsFor b.stand c → b2.stand ≡ b.stand → b2.info ≡ mid.info → OpensTaken b.stand k b.info mid → StartsNot k c b b2
unstarted k c b mid b2 taken st same infos by = record { stand_is = same; follows = λ found h. unstarted_follows b.stand k found c b.info mid b2 taken st same infos by (follows_left b.stand c.size k found c b taken h) }

pub on_err : {T E : Type 0} (r : Result T E) (P : Type 0) → P → OnErr r P
on_err (Ok x) P p = tt
on_err (Err y) P p = p
