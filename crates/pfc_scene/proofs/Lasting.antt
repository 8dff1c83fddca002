-- The logs of a run go on from what the depot had, and say what it has.
use Rattle.std.proofs.Common.{◌≡◌, ◌≢◌, ⊎_elim, inl, inr, ℕ, ◌+◌, ◌<◌, ◌≤◌, List, [], length, map, get_or, refl, subst, sym, ap, ◌∙◌, arith, Bool, true, false, ◌==◌, if◌then◌else◌}
use Rattle.std.specs.Prelude.{Any, Contains, IfOk, IfSome, IsTrue, Option, Some, None, Result, Ok, Err, option_map}
use mathlib.Core.Logic.{dite}
use native.Mathlib.Decide.{ℕ_discrete}
use Rattle.std.proofs.lemmas.List.{length-map, get_or_default}
use Rattle.pfc_base.specs.BlockSet.{is_member}
use Rattle.pfc_base.specs.Cinfo.{Cinfo}
use Rattle.pfc_world.specs.Files.{Files, file_at}
use Rattle.pfc_log.specs.declared.start.Start.{Start}
use Rattle.pfc_log.specs.Lawful.{IsCached, IsUnfrozen}
use Rattle.pfc_log.specs.declared.entry.Entry.{Entry}
use Rattle.pfc_log.specs.Views.{claimed, durable, kept}
use Rattle.pfc_log.proofs.Sets.{durable_exact, written_exact}
use Rattle.pfc_core.specs.Turns.{IsSettled}
use Rattle.pfc_store.specs.Claims.{MainBetween}
use Rattle.pfc_store.specs.Opens.{IsOurs}
use Rattle.pfc_core.specs.View.{CoreView}
use Rattle.pfc_report.specs.declared.report.Section.{Section}
use Rattle.pfc_report.specs.Schedule.{Line, asked, asked_clients}
use Rattle.pfc_report.specs.Report.{ReportView}
use Rattle.pfc_report.specs.Caused.{Spent, IsAccounted, IsCausedReport}
use Rattle.pfc_report.specs.Restart.{AreContinued, ClaimsOnly, IsLeft, IsOnly, IsUncached, IsUnopened, OpensPath, StartsFound}
use Rattle.pfc_actor.specs.declared.backing.Standing.{Standing}
use Rattle.pfc_actor.specs.declared.backing.Standing.TheVariants as standing
use Rattle.pfc_actor.specs.Backings.{standing_of, BackingView, Stand, Bare, Taken, Open, Lent, bare, ClaimsIn, IsBackingOf, FollowsIn, IsOpen, StandsFor, path_in}
use Rattle.pfc_scene.specs.Ends.{ComesFrom, IsSection, PutsFrom, Settles, asked_by}
use Rattle.pfc_scene.specs.Scenes.{SceneView, Persists, StandsBy, WasAsked, paths_of, who}
use Rattle.pfc_scene.proofs.Casts.{no_core}
use Rattle.pfc_scene.proofs.Following.{core_there}
use Rattle.pfc_scene.proofs.Opening.{stands_cached}
use Rattle.pfc_scene.proofs.Reports.{any_section, at_map, section_at, sections_long}

-- ---- one core

starts_of : (s : Stand) (size k : ℕ) (was : Option (List ℕ)) (c : CoreView) (b : BackingView) → IsOpen s → FollowsIn s size k (Some was) c b → StartsFound size k was c.first
starts_of Bare size k was c b is h = absurd is
starts_of (Taken path n) size k was c b is h = absurd is
starts_of (Open path n j) size k was c b is h = h.0
starts_of (Lent mark done) size k was c b is h = absurd is

same_test : (p q : Bool) → (p ≡ true → q ≡ true) → (q ≡ true → p ≡ true) → p ≡ q
same_test true true f g = refl
same_test true false f g = sym (f refl)
same_test false true f g = g refl
same_test false false f g = refl

-- what was claimed is claimed, and no more than is durable, all of which the log claims
between : (size k : ℕ) (low high : List Bool) (claims : ℕ → Bool) (main : Option (List ℕ)) → ((i : ℕ) → is_member low i ≡ claims i) → ((i : ℕ) → is_member high i ≡ true → claims i ≡ true) → MainBetween size k low high main → ClaimsOnly size k claims main
between size k low high claims None lows highs h = λ i. sym (lows i) ∙ h i
between size k low high claims (Some bytes) lows highs h =
    let c : Cinfo = h.0 in let b = h.2 in (c, h.1, b.size_is, b.block_is, λ i. same_test (is_member c.claims i) (claims i) (λ t. highs i (b.within i t)) (λ t. b.contain i (lows i ∙ t)))

-- a durable block is written
durable_written : (first : Start) (es : List Entry) (i : ℕ) → durable first i es ≡ true → (kept first i es).written ≡ true
durable_written first es i safe =
    (written_exact first es i).1 (⊎_elim (λ started. inl started) (λ synced. inr (record { at = synced.at; stands = synced.stands })) ((durable_exact first es i).0 safe))

-- so it can be read, and is claimed once nothing is left to be
durable_claimed : (c : CoreView) (i : ℕ) → IsCached c.first → IsUnfrozen c.entries → IsSettled c → durable c.first i c.entries ≡ true → claimed c.first i c.entries ≡ true
durable_claimed c i cached unfrozen settled safe =
    settled cached unfrozen i ∙ ap (λ (n : ℕ). if 0 == n then (kept c.first i c.entries).written else (kept c.first i c.entries).durable) unfrozen ∙ durable_written c.first c.entries i safe

ends_of : (s : Stand) (k : ℕ) (c : CoreView) (b : BackingView) (main : Option (List ℕ)) → IsOpen s → StandsFor s c → c.block_size ≡ k → FollowsIn s c.size k None c b → ((i : ℕ) → is_member c.claimed i ≡ claimed c.first i c.entries) →
    ((i : ℕ) → is_member c.durable i ≡ durable c.first i c.entries) → IsSettled c → IsUnfrozen c.entries → ClaimsIn s b.claimed b.durable main → ClaimsOnly c.size k (λ i. claimed c.first i c.entries) main
ends_of Bare k c b main is st block h claims durables settled unfrozen between_is = absurd is
ends_of (Taken path n) k c b main is st block h claims durables settled unfrozen between_is = absurd is
ends_of (Lent mark done) k c b main is st block h claims durables settled unfrozen between_is = absurd is
ends_of (Open path n j) k c b main is st block h claims durables settled unfrozen between_is =
    between c.size k b.claimed b.durable (λ i. claimed c.first i c.entries) main (λ i. ap (λ (set : List Bool). is_member set i) h.1 ∙ claims i)
    (λ i t. durable_claimed c i st.1 unfrozen settled (sym (durables i) ∙ ap (λ (set : List Bool). is_member set i) (sym h.2) ∙ t))
    (subst (λ (size : ℕ). MainBetween size k b.claimed b.durable main) st.0.1 (subst (λ (l : ℕ). MainBetween n l b.claimed b.durable main) (st.0.2 ∙ block) between_is))

-- ---- all of them

some_same : {X : Type 0} (x y : X) → Some x ≡ Some y → x ≡ y
some_same x y e = cc

open_path : (s : Stand) (c : CoreView) → IsOpen s → StandsFor s c → path_in s ≡ Some c.path
open_path Bare c is st = absurd is
open_path (Taken path n) c is st = absurd is
open_path (Open path n k) c is st = ap Some st.0.0
open_path (Lent mark done) c is st = absurd is

-- nobody was asked to open a path that no line opens
not_asked : (path : List ℕ) (lines : List Line) → IsUnopened path lines → WasAsked path (asked_by lines) → ⊥
not_asked path lines unopened was =
    let j = was.0 in let x = was.1 in let ns = asked_clients lines in let n = get_or ns j 0 in
    let f : ℕ → ℕ × List (List ℕ) = λ m. (m, asked m lines) in
    let low : j < length ns = let l = was.2 in omega (arith, l, length-map ns f) in
    let at : x ≡ (n, asked n lines) = sym was.3 ∙ at_map f ns j 0 x low in
    let line = was.4 in
    let said = subst (λ (ls : List (List ℕ)). Any (OpensPath path) ls) (ap (λ (y : ℕ × List (List ℕ)). y.1) at) line in
    unopened n said.0 said.1 said.2 (subst (OpensPath path) (sym said.3) said.4)

-- ---- which stores are at home

open_stand : (s : Stand) → standing_of s ≡ standing.Open → IsOpen s
open_stand Bare h = absurd cc
open_stand (Taken path size) h = absurd cc
open_stand (Open path size k) h = tt
open_stand (Lent mark done) h = absurd cc

-- that of core n, where it has one
abbrev pub OpenAt : List CoreView → List BackingView → ℕ → Type 0
OpenAt cores backings n = (d : CoreView) (e : BackingView) → IsCached (get_or cores n d).first → (get_or cores n d).entries ≢ [] → IsOpen (get_or backings n e).stand

pub open_here : (cores : List CoreView) (backings : List BackingView) (n : ℕ) (c : CoreView) (b : BackingView) (s : Standing) → n < length cores → length backings ≡ length cores → c ≡ get_or cores n c → b ≡ get_or backings n b → s ≡ standing_of b.stand →
    (IsCached c.first → c.entries ≢ [] → s ≡ standing.Open) → OpenAt cores backings n
open_here cores backings n c b s low long ec eb is opens d e cached used =
    let core = ec ∙ get_or_default cores n c d low in let back = eb ∙ get_or_default backings n b e (omega (arith, low, long)) in
    subst (λ (x : BackingView). IsOpen x.stand) back
    (open_stand b.stand (sym is ∙ opens (subst (λ (x : CoreView). IsCached x.first) (sym core) cached) (λ none. used (subst (λ (x : CoreView). x.entries ≡ []) core none))))

pub open_more : (cores : List CoreView) (backings : List BackingView) (n : ℕ) → ((i : ℕ) (d : CoreView) (e : BackingView) → i < n → IsCached (get_or cores i d).first → (get_or cores i d).entries ≢ [] → IsOpen (get_or backings i e).stand) → OpenAt cores backings n →
    (i : ℕ) (d : CoreView) (e : BackingView) → i < n + 1 → IsCached (get_or cores i d).first → (get_or cores i d).entries ≢ [] → IsOpen (get_or backings i e).stand
open_more cores backings n before here i d e low = dite (ℕ_discrete i n)
    (λ q. subst (λ (x : ℕ). IsCached (get_or cores x d).first → (get_or cores x d).entries ≢ [] → IsOpen (get_or backings x e).stand) (sym q) (here d e))
    (λ far. before i d e (omega (arith, low, far)))

-- ---- what was found at first

left_first : (size k : ℕ) (path : List ℕ) (IsMain : List ℕ → Option (List ℕ) → Type 0) (found : Option (Option (List ℕ))) → IfSome found (IsOnly (IsMain path)) → IfSome found (λ was. (main : Option (List ℕ)) → IsMain path main → IsLeft size k was main)
left_first size k path IsMain None only = tt
left_first size k path IsMain (Some was) only = λ main home. record { either = inl (only main home); kept = λ ours. only main home }

module _ (told : Bool) (files : Files) (lines : List Line) (v w : SceneView) (IsMain MidMain NewMain : List ℕ → Option (List ℕ) → Type 0) (logs : List Section) (is_told : IsTrue told) (none : v.cores ≡ []) (persists : Persists files v IsMain w MidMain)
    (settles : Settles told files w logs) (puts : PutsFrom 0 w.backings MidMain NewMain) (asked_are : map who w.clients ≡ asked_by lines) where
  -- what stands beside the cores, where this was found
  stood : (path file : List ℕ) (found : Option (Option (List ℕ))) → file_at files path ≡ Some file → IfSome found (IsOnly (IsMain path)) → StandsBy (length file) path found w MidMain
  stood path file found is only = persists.stands path file found is ((λ i d e low same. let long = ap length none in absurd (omega (arith, low, long))), left_first (length file) v.block_size path IsMain found only)

  section : (i : ℕ) (d : Section) → i < length logs → IsSection told files (get_or logs i d) (get_or w.cores i no_core)
  section i d l = section_at told files logs w.cores i d no_core settles.sections l

  core_low : (i : ℕ) → i < length logs → i < length w.cores
  core_low i l = let long = sections_long told files logs w.cores settles.sections in omega (arith, l, long)

  -- the size of a core's file
  sized : (i : ℕ) (d : Section) (file : List ℕ) → i < length logs → file_at files (get_or logs i d).path ≡ Some file → (get_or w.cores i no_core).size ≡ length file
  sized i d file l is = let x = section i d l in let c = get_or w.cores i no_core in
      some_same c.size (length file) (sym (x.sized is_told) ∙ ap (option_map length) (ap (file_at files) (sym x.path_is) ∙ is))

  -- what stood there is of the core at its place
  left_there : (path : List ℕ) (main : Option (List ℕ)) (from : ComesFrom path main w.backings) → (from.place < length w.cores) × IsBackingOf (get_or w.cores from.place no_core) from.backing
  left_there path main from = let low = from.low in let long = settles.scene.backed.long in let lc : from.place < length w.cores = omega (arith, low, long) in
      (lc, subst (IsBackingOf (get_or w.cores from.place no_core)) (from.is bare) (settles.scene.backed.each from.place no_core bare lc))

  -- which is the one that is cached at this path
  place_is : (i : ℕ) (main : Option (List ℕ)) (from : ComesFrom (get_or w.cores i no_core).path main w.backings) → i < length w.cores → IsCached (get_or w.cores i no_core).first → from.place ≡ i
  place_is i main from li cached = let c = get_or w.cores i no_core in let there = left_there c.path main from in
      let other = stands_cached from.backing.stand (get_or w.cores from.place no_core) c.path from.path_is there.1.stands in settles.scene.cast.paths from.place i no_core there.0 li other.0 cached other.1

  open_at : (i : ℕ) (d : Section) → i < length logs → IsCached (get_or logs i d).log.first → (get_or logs i d).log.entries ≢ [] → IsOpen (get_or w.backings i bare).stand
  open_at i d l cached used = let x = section i d l in settles.opened i no_core bare (core_low i l) (subst IsCached x.first_is cached) (λ e. used (x.entries_are ∙ e))

  follows : (i : ℕ) (d : Section) (file : List ℕ) (found : Option (Option (List ℕ))) → i < length logs → file_at files (get_or logs i d).path ≡ Some file → IfSome found (IsOnly (IsMain (get_or logs i d).path)) →
      FollowsIn (get_or w.backings i bare).stand (get_or w.cores i no_core).size w.block_size found (get_or w.cores i no_core) (get_or w.backings i bare)
  follows i d file found l is only = let x = section i d l in (stood (get_or logs i d).path file found is only).0 i no_core bare (core_low i l) (sym x.path_is)

  starts_at : (i : ℕ) (d : Section) (file : List ℕ) (was : Option (List ℕ)) → i < length logs → IsCached (get_or logs i d).log.first → (get_or logs i d).log.entries ≢ [] → file_at files (get_or logs i d).path ≡ Some file → IsOnly (IsMain (get_or logs i d).path) was →
      StartsFound (length file) w.block_size was (get_or logs i d).log.first
  starts_at i d file was l cached used is only = let x = section i d l in let c = get_or w.cores i no_core in
      subst (StartsFound (length file) w.block_size was) (sym x.first_is)
      (subst (λ (size : ℕ). StartsFound size w.block_size was c.first) (sized i d file l is)
      (starts_of (get_or w.backings i bare).stand c.size w.block_size was c (get_or w.backings i bare) (open_at i d l cached used) (follows i d file (Some was) l is only)))

  -- what a cached log's volume left
  ends_from : (i : ℕ) (d : Section) (file : List ℕ) (main : Option (List ℕ)) → i < length logs → IsCached (get_or logs i d).log.first → (get_or logs i d).log.entries ≢ [] → file_at files (get_or logs i d).path ≡ Some file →
      IsUnfrozen (get_or w.cores i no_core).entries → ComesFrom (get_or w.cores i no_core).path main w.backings → ClaimsOnly (length file) w.block_size (λ n. claimed (get_or w.cores i no_core).first n (get_or w.cores i no_core).entries) main
  ends_from i d file main l cached used is unfrozen from =
      let x = section i d l in let c = get_or w.cores i no_core in let li = core_low i l in
      let same = place_is i main from li (subst IsCached x.first_is cached) in
      let back : get_or w.backings i bare ≡ from.backing = ap (λ n. get_or w.backings n bare) (sym same) ∙ from.is bare in
      let claims = subst (λ (b : BackingView). ClaimsIn b.stand b.claimed b.durable main) (sym back) from.claims in
      let b = get_or w.backings i bare in
      subst (λ (size : ℕ). ClaimsOnly size w.block_size (λ n. claimed c.first n c.entries) main) (sized i d file l is)
      (ends_of b.stand w.block_size c b main (open_at i d l cached used) (settles.scene.backed.each i no_core bare li).stands (settles.scene.cast.places i no_core li).block_size_is (follows i d file None l is tt) x.claims x.durables x.settled unfrozen claims)

  -- nothing else is home at its path, since its volume stood there
  ends_home : (i : ℕ) (d : Section) (main : Option (List ℕ)) (C : Type 0) → i < length logs → IsCached (get_or logs i d).log.first → (get_or logs i d).log.entries ≢ [] →
      ((n : ℕ) (e : BackingView) → 0 ≤ n → n < length w.backings → path_in (get_or w.backings n e).stand ≡ Some (get_or w.cores i no_core).path → ⊥) → C
  ends_home i d main C l cached used alone = let li = core_low i l in let long = settles.scene.backed.long in let b = get_or w.backings i bare in
      let at = open_path b.stand (get_or w.cores i no_core) (open_at i d l cached used) (settles.scene.backed.each i no_core bare li).stands in absurd (alone i bare (omega arith) (omega (arith, li, long)) at)

  ends_at : (i : ℕ) (d : Section) (file : List ℕ) (main : Option (List ℕ)) → i < length logs → IsCached (get_or logs i d).log.first → (get_or logs i d).log.entries ≢ [] → file_at files (get_or logs i d).path ≡ Some file → IsUnfrozen (get_or logs i d).log.entries →
      NewMain (get_or logs i d).path main → ClaimsOnly (length file) w.block_size (λ n. claimed (get_or logs i d).log.first n (get_or logs i d).log.entries) main
  ends_at i d file main l cached used is unfrozen home =
      let x = section i d l in let c = get_or w.cores i no_core in
      let core : ClaimsOnly (length file) w.block_size (λ n. claimed c.first n c.entries) main = ⊎_elim
      (λ from. ends_from i d file main l cached used is (subst IsUnfrozen x.entries_are unfrozen) from)
      (λ old. ends_home i d main (ClaimsOnly (length file) w.block_size (λ n. claimed c.first n c.entries) main) l cached used old.1)
      (puts c.path main (subst (λ (p : List ℕ). NewMain p main) x.path_is home)) in
      subst (λ (first : Start). ClaimsOnly (length file) w.block_size (λ n. claimed first n (get_or logs i d).log.entries) main) (sym x.first_is)
      (subst (λ (es : List Entry). ClaimsOnly (length file) w.block_size (λ n. claimed c.first n es) main) (sym x.entries_are) core)

  -- a path without a cached log has no volume that stood there
  no_volume : (path : List ℕ) (main : Option (List ℕ)) → IsUncached path logs → ComesFrom path main w.backings → ⊥
  no_volume path main uncached from = let there = left_there path main from in
      let other = stands_cached from.backing.stand (get_or w.cores from.place no_core) path from.path_is there.1.stands in
      let low = there.0 in let long = sections_long told files logs w.cores settles.sections in let l : from.place < length logs = omega (arith, low, long) in
      let d = any_section in let x = section from.place d l in uncached from.place d l (subst IsCached (sym x.first_is) other.0) (x.path_is ∙ other.1)

  unused_at : (path file : List ℕ) (found : Option (List ℕ)) → file_at files path ≡ Some file → IsUncached path logs → IsOnly (IsMain path) found → IsOurs (length file) w.block_size found → IsOnly (NewMain path) found
  unused_at path file found is uncached only ours main home = ⊎_elim
      (λ from. absurd (no_volume path main uncached from))
      (λ old. ((stood path file (Some found) is only).1 main old.0).kept ours)
      (puts path main home)

  -- a path with a core was asked for
  was_asked : (path : List ℕ) → IsUnopened path lines → Contains (paths_of w.cores) path → ⊥
  was_asked path unopened there = ⊎_elim
      (λ before. let low = before.1 in let long = ap (λ (cs : List CoreView). length (paths_of cs)) none in absurd (omega (arith, low, long)))
      (λ asked. not_asked path lines unopened (subst (WasAsked path) asked_are asked))
      (persists.grows.asked path there)

  unopened_at : (path : List ℕ) → IsUnopened path lines → (main : Option (List ℕ)) → NewMain path main → IsMain path main
  unopened_at path unopened main home = ⊎_elim
      (λ from. let there = left_there path main from in
      let other = stands_cached from.backing.stand (get_or w.cores from.place no_core) path from.path_is there.1.stands in absurd (was_asked path unopened (core_there w.cores path from.place no_core there.0 other.1)))
      (λ old. persists.untouched path (was_asked path unopened) main old.0)
      (puts path main home)

  pub continued : AreContinued files w.block_size lines IsMain NewMain logs
  continued = record {
    used = λ i d l cached used file is. record { starts = λ found only. starts_at i d file found l cached used is only; ends = λ unfrozen main home. ends_at i d file main l cached used is unfrozen home };
    unused = unused_at;
    unopened = unopened_at;
  }

-- the report is caused
pub caused_all : {X : Type 0} (told tells : Bool) (files : Files) (k capacity : ℕ) (lines : List Line) (before after : Spent) (f f2 : ℕ) (v w : SceneView) (IsMain MidMain NewMain : List ℕ → Option (List ℕ) → Type 0) (r : Result ReportView X) → w.block_size ≡ k → v.cores ≡ [] → map who w.clients ≡ asked_by lines →
    (IsTrue told → IsTrue tells → Persists files v IsMain w MidMain) → (IsTrue tells → PutsFrom 0 w.backings MidMain NewMain) → IfOk r (λ report. Settles told files w report.logs) → IfOk r (IsAccounted told files k capacity lines before after f f2) →
    IfOk r (IsCausedReport told files k capacity lines before after (record { tells = tells; main = IsMain; faults = f }) (record { tells = tells; main = NewMain; faults = f2 }))
caused_all told tells files k capacity lines before after f f2 v w IsMain MidMain NewMain (Err e) size none asked_are persists puts settles accounted = tt
caused_all told tells files k capacity lines before after f f2 v w IsMain MidMain NewMain (Ok report) size none asked_are persists puts settles accounted = record {
  accounted = accounted;
  continued = λ is_told is_tells. subst (λ (n : ℕ). AreContinued files n lines IsMain NewMain report.logs) size
      (continued told files lines v w IsMain MidMain NewMain report.logs is_told none (persists is_told is_tells) settles (puts is_tells) asked_are);
}
