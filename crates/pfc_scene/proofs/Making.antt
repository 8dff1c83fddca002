-- How cores are made, and how a fresh one takes the place of one that nobody used.
use Rattle.std.proofs.Common.{◌≡◌, ⊎_elim, ℕ, ◌<◌, ◌≤◌, List, [], ◌∷◌, ◌++◌, length, get_or, set, sum_by, refl, subst, sym, ap, ◌∙◌, arith, Bool, true, false, if◌then◌else◌}
use Rattle.std.specs.Prelude.{nat_lt, replicate, Option, Some, None, Result, Ok, Err, IfOk}
use mathlib.Core.Logic.{dite}
use native.Mathlib.Decide.{ℕ_discrete}
use Rattle.std.proofs.lemmas.Bool.Decides.{nat_tests}
use Rattle.std.proofs.lemmas.List.{length-set, length-replicate, get_or-set_same, get_or-set_other, length_push, get_or_default, get_or_append_left}
use Rattle.std.proofs.lemmas.List.Sums.{sum_by_push, sum_by-set}
use Rattle.pfc_base.specs.Block.{count_of}
use Rattle.pfc_log.specs.declared.entry.Entry.{Entry}
use Rattle.pfc_log.specs.declared.entry.Uncached.{Uncached}
use Rattle.pfc_log.specs.declared.entry.Uncached.TheVariants.{Suffix, Blocks}
use Rattle.pfc_log.specs.declared.start.Start.{Start}
use Rattle.pfc_log.specs.declared.start.Start.TheVariants.{Stored}
use Rattle.pfc_log.specs.declared.start.Start.TheVariants as start
use Rattle.pfc_log.specs.Charges.{charges, start_charge, is_there}
use Rattle.pfc_log.specs.Lawful.{IsCached}
use Rattle.pfc_log.specs.Tallies.{tally}
use Rattle.pfc_log.specs.Uncaching.{is_companion, cause_of}
use Rattle.pfc_log.specs.Views.{times}
use Rattle.pfc_core.specs.Marks.{Mark}
use Rattle.pfc_core.specs.Calls.{foreign}
use Rattle.pfc_base.specs.Cinfo.{Head}
use Rattle.pfc_core.specs.New.{IsNew, IsNewUncached}
use Rattle.pfc_core.specs.View.{CoreView}
use Rattle.pfc_core.specs.OpenJobs.{AreJobs, astray, job_of, unsettled}
use Rattle.pfc_report.specs.Caused.{StartsFor}
use Rattle.pfc_actor.specs.Steps.{IsTallied, IsWithin}
use Rattle.pfc_actor.specs.Stages.{shares}
use Rattle.pfc_actor.specs.Clients.{ClientView}
use Rattle.pfc_scene.specs.Scenes.{IsAlone, IsCast, IsCore, IsUnused, AreApart, Renews, lists}
use Rattle.pfc_scene.proofs.Casts.{below_or, at_end, no_share, nothing_within, other_actor, other_log}
use Rattle.pfc_scene.proofs.Totals.{total_push}

-- ---- how a log starts

-- that of a file whose log starts with a store has no cause by which it isn't cached
pub cached_cause : (cause : Option Uncached) (n : ℕ) (first : Start) → StartsFor cause n first → IsCached first → cause ≡ None
cached_cause None n first h cached = refl
cached_cause (Some why) n first h cached = absurd (subst IsCached h cached)

few_by : (companion many : Bool) → (if companion then Some Suffix else if many then Some Blocks else None) ≡ None → many ≡ false
few_by true many h = absurd cc
few_by false true h = absurd cc
few_by false false h = refl

-- such a file has few enough blocks
pub few_blocks : (path : List ℕ) (n : ℕ) → cause_of path n ≡ None → n ≤ 16777216
few_blocks path n h = let few : nat_lt 16777216 n ≡ false = few_by (is_companion path) (nat_lt 16777216 n) h in grind (arith, nat_tests, few)

unpaid_by : (companion many : Bool) (why : Uncached) → (if companion then Some Suffix else if many then Some Blocks else None) ≡ Some why → start_charge (start.Uncached why) ≡ 0
unpaid_by true many why h = let is : Suffix ≡ why = cc in subst (λ (w : Uncached). start_charge (start.Uncached w) ≡ 0) is refl
unpaid_by false true why h = let is : Blocks ≡ why = cc in subst (λ (w : Uncached). start_charge (start.Uncached w) ≡ 0) is refl
unpaid_by false false why h = absurd cc

-- no failed call stands for a cause of the path or of the size
pub unpaid : (path : List ℕ) (n : ℕ) (why : Uncached) → cause_of path n ≡ Some why → start_charge (start.Uncached why) ≡ 0
unpaid path n why h = unpaid_by (is_companion path) (nat_lt 16777216 n) why h

pub cached_unpaid : (first : Start) → IsCached first → start_charge first ≡ 0
cached_unpaid (Stored set) h = refl
cached_unpaid (start.Uncached why) h = absurd h

pub unused_charges : (c : CoreView) → IsUnused c → charges c.first c.entries ≡ 0
unused_charges c u = let none = ap (charges c.first) u.1 in let start = cached_unpaid c.first u.0 in omega (arith, none, start)

-- ---- a new core

pub new_unpaid : {E : Type 0} (r : Result CoreView E) (i : ℕ) (path : List ℕ) (size k : ℕ) (why : Uncached) (p : List ℕ) (n : ℕ) → Some why ≡ cause_of p n → IfOk r (IsNewUncached i path size k why) → IfOk r (λ c. start_charge c.first ≡ 0)
new_unpaid (Ok c) i path size k why p n cause new = ap start_charge new.start ∙ unpaid p n why (sym cause)
new_unpaid (Err e) i path size k why p n cause new = tt

-- nothing of it is out
pub no_jobs : (c : CoreView) → c.out ≡ [] → AreJobs c
no_jobs c out = record {
  here = ap (sum_by (astray c)) out;
  once = λ i. let none = ap (sum_by (job_of i)) out in omega (arith, none);
  waits = λ n low. let none = ap (sum_by (unsettled c)) out in omega (arith, none);
}

pub new_cached : (i : ℕ) (path : List ℕ) (size k : ℕ) (head : Head) (c : CoreView) → IsNew i path size k (replicate (count_of size k) false) head c → cause_of path (count_of size k) ≡ None → IsCore k i c
new_cached i path size k head c new cause = let sizes = ap (λ (n : ℕ). count_of n k) new.size_is in
    let none : cause_of c.path (count_of c.size k) ≡ None = ap (λ (p : List ℕ). cause_of p (count_of c.size k)) new.path_is ∙ ap (cause_of path) sizes ∙ cause in
    let long : length (replicate (count_of size k) false) ≡ count_of c.size k = length-replicate (count_of size k) false ∙ sym sizes in
    record {
      instance_is = new.instance_is;
      own = ap (sum_by (foreign c)) new.out;
      jobs = no_jobs c new.out;
      block_size_is = new.block_size_is;
      start = subst (λ (o : Option Uncached). StartsFor o (count_of c.size k) c.first) (sym none) (subst (StartsFor None (count_of c.size k)) (sym new.start) long);
      theres = ap (times is_there) new.entries;
    }

pub new_uncached : (i : ℕ) (path : List ℕ) (size k : ℕ) (why : Uncached) (c : CoreView) → IsNewUncached i path size k why c → cause_of path (count_of size k) ≡ Some why → IsCore k i c
new_uncached i path size k why c new cause = let sizes = ap (λ (n : ℕ). count_of n k) new.size_is in
    let some : cause_of c.path (count_of c.size k) ≡ Some why = ap (λ (p : List ℕ). cause_of p (count_of c.size k)) new.path_is ∙ ap (cause_of path) sizes ∙ cause in
    record {
      instance_is = new.instance_is;
      own = ap (sum_by (foreign c)) new.out;
      jobs = no_jobs c new.out;
      block_size_is = new.block_size_is;
      start = subst (λ (o : Option Uncached). StartsFor o (count_of c.size k) c.first) (sym some) new.start;
      theres = ap (times is_there) new.entries;
    }

-- behind the others, of a path that has none that is cached
pub made : (k : ℕ) (rest : (Mark → ℕ) → ℕ) (clients : List ClientView) (cores : List CoreView) (c : CoreView) → IsCast k rest clients cores → IsCore k (length cores) c → c.entries ≡ [] → c.out ≡ [] →
    IsAlone cores c.path (count_of c.size k) → IsCast k rest clients (cores ++ c ∷ [])
made k rest clients cores c s core entries out alone = let other = λ (cached : IsCached c.first). alone (cached_cause (cause_of c.path (count_of c.size k)) (count_of c.size k) c.first core.start cached) in record {
  block_size = s.block_size;
  tokens = λ w. let t = s.tokens w in let more = sum_by_push (lists w) cores c in let none = ap (sum_by w) out in omega (arith, t, more, none);
  actors = λ j d lj. let a = get_or clients j d in let was = s.actors j d lj in record {
    tallied = subst (IsTallied a.book a.line a.stage) (sym (total_push a.book.number cores c entries)) was.tallied;
    within = λ x f lx.
        ⊎_elim
        (λ l. subst (λ (v : CoreView). IsWithin (shares x a.stage) v.block_size (tally a.book.number v.entries)) (sym (get_or_append_left cores (c ∷ []) f x l)) (was.within x f l))
        (λ far. let long = length_push cores c in let e : x ≡ length cores = omega (arith, lx, long, far) in
        subst (λ (v : CoreView). IsWithin (shares x a.stage) v.block_size (tally a.book.number v.entries)) (sym (at_end cores c f x lx far))
        (subst (λ (es : List Entry). IsWithin (shares x a.stage) c.block_size (tally a.book.number es)) (sym entries)
        (nothing_within c.block_size (shares x a.stage) (ap (λ y. shares y a.stage) e ∙ no_share k rest clients cores j d c s lj))))
        (below_or x (length cores));
  };
  numbers = s.numbers;
  places = λ x d lx.
      ⊎_elim
      (λ l. subst (IsCore k x) (sym (get_or_append_left cores (c ∷ []) d x l)) (s.places x d l))
      (λ far. let long = length_push cores c in let e : x ≡ length cores = omega (arith, lx, long, far) in
      subst (IsCore k x) (sym (at_end cores c d x lx far)) (subst (λ y. IsCore k y c) (sym e) core))
      (below_or x (length cores));
  paths = λ x y d lx ly cx cy e. let long = length_push cores c in
      ⊎_elim
      (λ l. let left = get_or_append_left cores (c ∷ []) d x l in let kept = subst (λ (v : CoreView). IsCached v.first) left cx in
      ⊎_elim
      (λ m. let right = get_or_append_left cores (c ∷ []) d y m in
      s.paths x y d l m kept (subst (λ (v : CoreView). IsCached v.first) right cy) (sym (ap (λ (v : CoreView). v.path) left) ∙ e ∙ ap (λ (v : CoreView). v.path) right))
      (λ far. let last = at_end cores c d y ly far in absurd (other (subst (λ (v : CoreView). IsCached v.first) last cy) x d l kept (sym (ap (λ (v : CoreView). v.path) left) ∙ e ∙ ap (λ (v : CoreView). v.path) last)))
      (below_or y (length cores)))
      (λ far. let last = at_end cores c d x lx far in ⊎_elim
      (λ m. let right = get_or_append_left cores (c ∷ []) d y m in
      absurd (other (subst (λ (v : CoreView). IsCached v.first) last cx) y d m (subst (λ (v : CoreView). IsCached v.first) right cy) (sym (ap (λ (v : CoreView). v.path) right) ∙ sym e ∙ ap (λ (v : CoreView). v.path) last)))
      (λ far2. omega (arith, lx, ly, long, far, far2))
      (below_or y (length cores)))
      (below_or x (length cores));
  strangers = λ n none x d lx.
      ⊎_elim
      (λ l. ap (λ (v : CoreView). tally n v.entries) (get_or_append_left cores (c ∷ []) d x l) ∙ s.strangers n none x d l)
      (λ far. ap (λ (v : CoreView). tally n v.entries) (at_end cores c d x lx far) ∙ ap (tally n) entries)
      (below_or x (length cores));
}

-- ---- a fresh core in the place of a fresh one

pub renewed_core : (k i : ℕ) (c c2 : CoreView) → IsCore k i c → Renews c c2 → StartsFor None (count_of c.size k) c2.first → IsCore k i c2
renewed_core k i c c2 was r first = let sizes = ap (λ (n : ℕ). count_of n k) r.size_is in
    let none : cause_of c2.path (count_of c2.size k) ≡ None =
    ap (λ (p : List ℕ). cause_of p (count_of c2.size k)) r.path_is ∙ ap (cause_of c.path) sizes ∙ cached_cause (cause_of c.path (count_of c.size k)) (count_of c.size k) c.first was.start r.cached in
    record {
      instance_is = r.instance_is ∙ was.instance_is;
      own = ap (sum_by (foreign c2)) r.out_is;
      jobs = no_jobs c2 r.out_is;
      block_size_is = r.block_size_is ∙ was.block_size_is;
      start = subst (λ (o : Option Uncached). StartsFor o (count_of c2.size k) c2.first) (sym none) (subst (λ (n : ℕ). StartsFor None n c2.first) (sym sizes) first);
      theres = ap (times is_there) r.entries_are;
    }

-- the old one was cached, and of the same path
apart_renewed : (cores : List CoreView) (i : ℕ) (c c2 : CoreView) → AreApart cores → i < length cores → c ≡ get_or cores i c → IsCached c.first → c2.path ≡ c.path → AreApart (set cores i c2)
apart_renewed cores i c c2 apart li ec cached same x y d lx ly cx cy e =
    let long = length-set cores i c2 in
    let there : (j : ℕ) → IsCached (get_or (set cores i c2) j d).first → IsCached (get_or cores j d).first = λ j h.
    dite (ℕ_discrete j i)
    (λ q. subst (λ (n : ℕ). IsCached (get_or cores n d).first) (sym q) (subst (λ (v : CoreView). IsCached v.first) (ec ∙ get_or_default cores i c d li) cached))
    (λ far. subst (λ (v : CoreView). IsCached v.first) (get_or-set_other cores i j c2 d far) h) in
    let path : (j : ℕ) → (get_or (set cores i c2) j d).path ≡ (get_or cores j d).path = λ j.
    dite (ℕ_discrete j i)
    (λ q. let at = subst (λ n. get_or (set cores i c2) n d ≡ c2) (sym q) (get_or-set_same cores i c2 d li) in
    ap (λ (v : CoreView). v.path) at ∙ same ∙ ap (λ (v : CoreView). v.path) (ec ∙ get_or_default cores i c d li ∙ ap (λ n. get_or cores n d) (sym q)))
    (λ far. ap (λ (v : CoreView). v.path) (get_or-set_other cores i j c2 d far)) in
    apart x y d (omega (arith, lx, long)) (omega (arith, ly, long)) (there x cx) (there y cy) (sym (path x) ∙ e ∙ path y)

pub renewed : (k : ℕ) (rest : (Mark → ℕ) → ℕ) (clients : List ClientView) (cores : List CoreView) (i : ℕ) (c c2 : CoreView) → IsCast k rest clients cores → i < length cores → c ≡ get_or cores i c → Renews c c2 →
    StartsFor None (count_of c.size k) c2.first → IsCast k rest clients (set cores i c2)
renewed k rest clients cores i c c2 s li ec r first =
    let log : c2.entries ≡ c.entries = r.entries_are ∙ sym r.entries_were in record {
      block_size = s.block_size;
      tokens = λ w.
          let t = s.tokens w in let m = sum_by-set (lists w) cores i c2 c li in let at_i = ap (lists w) ec in
          let was = ap (sum_by w) r.out_was in let now = ap (sum_by w) r.out_is in omega (arith, t, m, at_i, was, now);
      actors = λ j d lj. other_actor cores i (get_or clients j d) c c2 li ec r.block_size_is (ap (tally (get_or clients j d).book.number) log) (s.actors j d lj);
      numbers = s.numbers;
      places = λ j d lj. let long = length-set cores i c2 in
          dite (ℕ_discrete j i)
          (λ e. let at = subst (λ x. get_or (set cores i c2) x d ≡ c2) (sym e) (get_or-set_same cores i c2 d li) in
          subst (IsCore k j) (sym at) (subst (λ x. IsCore k x c2) (sym e) (renewed_core k i c c2 (subst (IsCore k i) (sym ec) (s.places i c li)) r first)))
          (λ n. subst (IsCore k j) (sym (get_or-set_other cores i j c2 d n)) (s.places j d (omega (arith, lj, long))));
      paths = apart_renewed cores i c c2 s.paths li ec r.cached r.path_is;
      strangers = λ n none. other_log cores i n c c2 li ec (ap (tally n) log) (s.strangers n none);
    }
