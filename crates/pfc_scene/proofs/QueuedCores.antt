-- What is kept of the write queue where the log of a core grows.
use Rattle.std.proofs.Common.{◌≡◌, inl, inr, ℕ, ◌+◌, ◌<◌, ◌≤◌, List, length, take, get_or, set, sum_by, refl, subst, sym, ap, ◌∙◌, arith, Bool, true, false, ◌==◌, ◌&&◌, Option, Some, None}
use Rattle.std.specs.Prelude.{IfSome, not, slice_get}
use mathlib.Core.Logic.{dite}
use native.Mathlib.Decide.{ℕ_discrete}
use Rattle.std.proofs.lemmas.Bool.{eqb-true}
use Rattle.std.proofs.lemmas.List.{length-map, length-set, map-set, get_or-map, get_or-set_same, get_or-set_other}
use Rattle.std.proofs.lemmas.List.Sums.{sum_by-set, sum_by-le-sum_by}
use Rattle.pfc_log.specs.declared.entry.DropCause.TheVariants as cause
use Rattle.pfc_log.specs.declared.entry.Entry.{Entry}
use Rattle.pfc_log.specs.declared.entry.Entry.TheVariants.{Dropped}
use Rattle.pfc_log.specs.Views.{Place, Away, Flying, Here, place, times}
use Rattle.pfc_log.proofs.Places.{by_bool, eq_self, eq_sym}
use Rattle.pfc_log.specs.Waiting.{is_worked, Begins, AreEarlier}
use Rattle.pfc_log.proofs.Earlier.{earlier_set, found_later, was_later}
use Rattle.pfc_core.specs.Leaves.{is_here_at, is_done_at}
use Rattle.pfc_core.specs.Marks.{Mark}
use Rattle.pfc_core.specs.View.{CoreView}
use Rattle.pfc_core.specs.OpenJobs.{is_job_mark, a_job, job_of, astray, settled, unsettled}
use Rattle.pfc_actor.specs.StageView.{StageView}
use Rattle.pfc_actor.specs.Steps.{full_in, StaysFull}
use Rattle.pfc_actor.specs.Clients.{ClientView, holds}
use Rattle.pfc_scene.specs.Queues.{logs_of, settled_in, progress, HaveWorked, IsFullFor, IsDroppedFor}
use Rattle.pfc_scene.proofs.Growing.{bit, done, only, none, IsNew, Grows}
use Rattle.pfc_scene.proofs.Weighing.{of_core, by_settled, clients_add, clients_le, sum_le_add, sum_settled}

-- ---- a job

gate : (q a b e : Bool) → bit a ≤ bit b + bit e → bit (q && a) ≤ bit (q && b) + bit (q && e)
gate true a b e le = le
gate false a b e le = omega arith

eq_flip : (a b : ℕ) → (a == b) ≡ (b == a)
eq_flip a b = by_bool (a == b) (λ y. y ∙ sym (subst (λ n. (n == a) ≡ true) (eqb-true a b y) (eq_self a))) (λ n. n ∙ sym (eq_sym a b n))

-- none is settled but for those of the block that was written or dropped
pub settled_only : (k n : ℕ) (full : Option (ℕ × ℕ)) (c c2 : CoreView) → Grows (only k) n full c.entries c2.entries → (m : Mark) → settled c2 m ≤ settled c m + job_of k m
settled_only k n full c c2 g m =
    let le = g.turned m.flight m.block in
    let here = subst (λ (q : Bool). done m.flight m.block c2.entries ≤ done m.flight m.block c.entries + bit q) (eq_flip k m.block) le in
    gate (is_job_mark m) (is_done_at m.flight (place m.block c2.entries)) (is_done_at m.flight (place m.block c.entries)) (m.block == k) here

pub settled_none : (n : ℕ) (full : Option (ℕ × ℕ)) (c c2 : CoreView) → Grows none n full c.entries c2.entries → (m : Mark) → settled c2 m ≤ settled c m
settled_none n full c c2 g m =
    let h = gate (is_job_mark m) (is_done_at m.flight (place m.block c2.entries)) (is_done_at m.flight (place m.block c.entries)) false (g.turned m.flight m.block) in
    let off = off_and (is_job_mark m) in omega (arith, h, off)
  where
    off_and : (q : Bool) → bit (q && false) ≡ 0
    off_and true = refl
    off_and false = refl

pub unsettled_only : (k n : ℕ) (full : Option (ℕ × ℕ)) (c c2 : CoreView) → Grows (only k) n full c.entries c2.entries → (m : Mark) → unsettled c m ≤ unsettled c2 m + job_of k m
unsettled_only k n full c c2 g m = let s = settled_only k n full c c2 g m in let a = by_settled c m in let b = by_settled c2 m in omega (arith, s, a, b)

pub unsettled_none : (n : ℕ) (full : Option (ℕ × ℕ)) (c c2 : CoreView) → Grows none n full c.entries c2.entries → (m : Mark) → unsettled c m ≤ unsettled c2 m
unsettled_none n full c c2 g m = let s = settled_none n full c c2 g m in let a = by_settled c m in let b = by_settled c2 m in omega (arith, s, a, b)

-- one that is neither astray nor settled waits
pub waits_here : (c : CoreView) (m : Mark) → is_job_mark m ≡ true → astray c m ≡ 0 → settled c m ≡ 0 → place m.block c.entries ≡ Here m.flight false
waits_here c m job here idle =
    at_place (place m.block c.entries) m.flight (passed (is_job_mark m) (is_here_at m.flight (place m.block c.entries)) job here) (failed (is_job_mark m) (is_done_at m.flight (place m.block c.entries)) job idle)
  where
    passed : (q a : Bool) → q ≡ true → bit (q && not a) ≡ 0 → a ≡ true
    passed true true is h = refl
    passed true false is h = absurd (omega (arith, h))
    passed false a is h = absurd cc

    failed : (q a : Bool) → q ≡ true → bit (q && a) ≡ 0 → a ≡ false
    failed true true is h = absurd (omega (arith, h))
    failed true false is h = refl
    failed false a is h = absurd cc

    undone : (t u : ℕ) (d : Bool) → (u == t) ≡ true → ((u == t) && d) ≡ false → Here u d ≡ Here t false
    undone t u d same off = let e = eqb-true u t same in let h : d ≡ false = rw same at off in cc

    at_place : (p : Place) (t : ℕ) → is_here_at t p ≡ true → is_done_at t p ≡ false → p ≡ Here t false
    at_place Away t h d = absurd cc
    at_place (Flying u n) t h d = absurd cc
    at_place (Here u q) t h d = undone t u q h d

-- ---- what is settled in all cores

-- the term of one core is another
pub settled_set : (cores : List CoreView) (i : ℕ) (c c2 : CoreView) (m : Mark) → i < length cores → c ≡ get_or cores i c → settled_in (set cores i c2) m + of_core c.instance (settled c) m ≡ settled_in cores m + of_core c2.instance (settled c2) m
settled_set cores i c c2 m li ec =
    let l = sum_by-set (λ (x : CoreView). of_core x.instance (settled x) m) cores i c2 c li in let at = ap (λ (x : CoreView). of_core x.instance (settled x) m) ec in omega (arith, l, at)

of_le : (i : ℕ) (w u : Mark → ℕ) (m : Mark) → w m ≤ u m → of_core i w m ≤ of_core i u m
of_le i w u m le = by_bool (i == m.instance) (λ y. rw y le) (λ n. rw n (omega arith))

of_le_add : (i : ℕ) (w u x : Mark → ℕ) (m : Mark) → w m ≤ u m + x m → of_core i w m ≤ of_core i u m + of_core i x m
of_le_add i w u x m le = by_bool (i == m.instance) (λ y. rw y le) (λ n. rw n (omega arith))

pub in_none_more : (cores : List CoreView) (i : ℕ) (c c2 : CoreView) → i < length cores → c ≡ get_or cores i c → c2.instance ≡ c.instance → ((m : Mark) → settled c2 m ≤ settled c m) → (m : Mark) → settled_in (set cores i c2) m ≤ settled_in cores m
in_none_more cores i c c2 li ec same le m =
    let s = settled_set cores i c c2 m li ec in let o = of_le c.instance (settled c2) (settled c) m (le m) in let e = ap (λ n. of_core n (settled c2) m) same in omega (arith, s, o, e)

pub in_only_more : (k : ℕ) (cores : List CoreView) (i : ℕ) (c c2 : CoreView) → i < length cores → c ≡ get_or cores i c → c2.instance ≡ c.instance → ((m : Mark) → settled c2 m ≤ settled c m + job_of k m) →
    (m : Mark) → settled_in (set cores i c2) m ≤ settled_in cores m + of_core c.instance (job_of k) m
in_only_more k cores i c c2 li ec same le m =
    let s = settled_set cores i c c2 m li ec in let o = of_le_add c.instance (settled c2) (settled c) (job_of k) m (le m) in let e = ap (λ n. of_core n (settled c2) m) same in omega (arith, s, o, e)

-- jobs that are idle stay so: none more is settled
pub idle_none : (w u : Mark → ℕ) (clients clients2 : List ClientView) (queue : List Mark) → ((m : Mark) → u m ≤ w m) → sum_by (holds u) clients2 ≤ sum_by (holds u) clients →
    sum_by (holds w) clients + sum_by w queue ≡ 0 → sum_by (holds u) clients2 + sum_by u queue ≡ 0
idle_none w u clients clients2 queue le fewer idle = let a = clients_le u w clients le in let b = sum_by-le-sum_by u w queue le in omega (arith, a, b, fewer, idle)

-- or those of one block, of which nobody holds one
pub idle_only : (w u x : Mark → ℕ) (clients clients2 : List ClientView) (queue : List Mark) → ((m : Mark) → u m ≤ w m + x m) → sum_by (holds w) clients2 ≤ sum_by (holds w) clients → sum_by (holds x) clients2 + sum_by x queue ≡ 0 →
    sum_by (holds w) clients + sum_by w queue ≡ 0 → sum_by (holds u) clients2 + sum_by u queue ≡ 0
idle_only w u x clients clients2 queue le fewer nobody idle =
    let a = clients_le u (λ m. w m + x m) clients2 le in let b = clients_add w x clients2 in let q = sum_le_add u w x queue le in omega (arith, a, b, q, fewer, nobody, idle)

-- ---- what writers came to an end with

-- a core goes on, and what has come of its jobs is no less
pub worked_core : (n : ℕ) (clients : List ClientView) (cores : List CoreView) (i : ℕ) (c c2 : CoreView) → i < length cores → c ≡ get_or cores i c → progress c ≤ progress c2 → HaveWorked n clients cores → HaveWorked n clients (set cores i c2)
worked_core n clients cores i c c2 li ec le h = let l = sum_by-set progress cores i c2 c li in let at = ap progress ec in omega (arith, l, at, le, h)

-- a client steps on it
pub worked_on : (n : ℕ) (clients : List ClientView) (cores : List CoreView) (j i : ℕ) (a a2 : ClientView) (c c2 : CoreView) → j < length clients → i < length cores → a ≡ get_or clients j a → c ≡ get_or cores i c →
    holds a_job a2 + sum_by a_job c.out ≡ holds a_job a + sum_by a_job c2.out → sum_by (settled c2) c2.out + times is_worked c.entries ≤ sum_by (settled c) c.out + times is_worked c2.entries →
    HaveWorked n clients cores → HaveWorked n (set clients j a2) (set cores i c2)
worked_on n clients cores j i a a2 c c2 lj li ea ec tokens le h =
    let l = sum_by-set progress cores i c2 c li in let at_i = ap progress ec in let r = sum_by-set (holds a_job) clients j a2 a lj in let at_j = ap (holds a_job) ea in
    let was = sum_settled c c.out in let now = sum_settled c2 c2.out in omega (arith, l, at_i, r, at_j, was, now, tokens, le, h)

-- ---- all logs

pub log_at : (cores : List CoreView) (i : ℕ) (c : CoreView) (d : List Entry) → i < length cores → c ≡ get_or cores i c → get_or (logs_of cores) i d ≡ c.entries
log_at cores i c d li ec = get_or-map (λ (x : CoreView). x.entries) cores i c d li ∙ sym (ap (λ (x : CoreView). x.entries) ec)

pub logs_later : (cores : List CoreView) (i : ℕ) (c c2 : CoreView) → i < length cores → c ≡ get_or cores i c → Begins c.entries c2.entries → AreEarlier (logs_of cores) (logs_of (set cores i c2))
logs_later cores i c c2 li ec begins =
    let long = length-map cores (λ (x : CoreView). x.entries) in
    subst (AreEarlier (logs_of cores)) (sym (map-set (λ (x : CoreView). x.entries) cores i c2))
    (earlier_set (logs_of cores) i c2.entries (omega (arith, li, long)) (subst (λ es. Begins es c2.entries) (sym (log_at cores i c c2.entries li ec)) begins))

-- ---- causes

-- what is known of earlier moments is known later
pub record Later (clients clients2 : List ClientView) (cores cores2 : List CoreView) : Type 0 where
  pub worked : (n : ℕ) → HaveWorked n clients cores → HaveWorked n clients2 cores2
  pub logs : AreEarlier (logs_of cores) (logs_of cores2)

pub full_later : (capacity : ℕ) (clients clients2 : List ClientView) (cores cores2 : List CoreView) (full : Mark × ℕ) → Later clients clients2 cores cores2 → IsFullFor capacity clients cores full → IsFullFor capacity clients2 cores2 full
full_later capacity clients clients2 cores cores2 full later is = record {
  job = is.job;
  capacity_is = is.capacity_is;
  worked = later.worked full.1 is.worked;
  found = found_later full.1 full.0.instance full.0.block full.0.flight (logs_of cores) (logs_of cores2) later.logs is.found;
}

pub drop_later : (capacity : ℕ) (clients clients2 : List ClientView) (cores cores2 : List CoreView) (x i c : ℕ) (before : List Entry) → Later clients clients2 cores cores2 → IsDroppedFor capacity clients cores x i c before →
    IsDroppedFor capacity clients2 cores2 x i c before
drop_later capacity clients clients2 cores cores2 x i c before later is = record {
  capacity_is = is.capacity_is;
  worked = later.worked c is.worked;
  was = was_later c x i before (logs_of cores) (logs_of cores2) later.logs is.was;
}

some_full : (o o2 : Option (Mark × ℕ)) (P Q : Mark × ℕ → Type 0) → IfSome o2 (λ full. o ≡ Some full) → ((full : Mark × ℕ) → P full → Q full) → IfSome o P → IfSome o2 Q
some_full o None P Q stays f h = tt
some_full o (Some full) P Q stays f h = f full (subst (λ q. IfSome q P) stays h)

-- who had found the queue full has its cause still
pub stage_later : (capacity : ℕ) (clients clients2 : List ClientView) (cores cores2 : List CoreView) (st st2 : StageView) → Later clients clients2 cores cores2 → StaysFull st st2 →
    IfSome (full_in st) (IsFullFor capacity clients cores) → IfSome (full_in st2) (IsFullFor capacity clients2 cores2)
stage_later capacity clients clients2 cores cores2 st st2 later stays h =
    some_full (full_in st) (full_in st2) (IsFullFor capacity clients cores) (IsFullFor capacity clients2 cores2) stays (λ full is. full_later capacity clients clients2 cores cores2 full later is) h

pub stays_self : (st : StageView) → StaysFull st st
stays_self st = self (full_in st)
  where
    self : (o : Option (Mark × ℕ)) → IfSome o (λ full. o ≡ Some full)
    self None = tt
    self (Some full) = refl

-- each block that was dropped for want of room has its cause still, and the one that is dropped now
pub drops_later : (capacity n : ℕ) (turns : ℕ → ℕ) (full : Option (ℕ × ℕ)) (clients clients2 : List ClientView) (cores : List CoreView) (i : ℕ) (c c2 : CoreView) → i < length cores → c ≡ get_or cores i c →
    Grows turns n full c.entries c2.entries → Later clients clients2 cores (set cores i c2) →
    ((k room : ℕ) → full ≡ Some (k, room) → IsDroppedFor capacity clients2 (set cores i c2) i k room c.entries) →
    ((x p k room : ℕ) (d : CoreView) → x < length cores → slice_get (get_or cores x d).entries p ≡ Some (Dropped k (cause.Full room)) → IsDroppedFor capacity clients cores x k room (take p (get_or cores x d).entries)) →
    (x p k room : ℕ) (d : CoreView) → x < length (set cores i c2) → slice_get (get_or (set cores i c2) x d).entries p ≡ Some (Dropped k (cause.Full room)) → IsDroppedFor capacity clients2 (set cores i c2) x k room (take p (get_or (set cores i c2) x d).entries)
drops_later capacity n turns full clients clients2 cores i c c2 li ec g later fresh was x p k room d lx at =
    let long = length-set cores i c2 in
    dite (ℕ_discrete x i)
    (λ e.
    let is : get_or (set cores i c2) x d ≡ c2 = subst (λ y. get_or (set cores i c2) y d ≡ c2) (sym e) (get_or-set_same cores i c2 d li) in
    let here = subst (λ (v : CoreView). slice_get v.entries p ≡ Some (Dropped k (cause.Full room))) is at in
    subst (λ (v : CoreView). IsDroppedFor capacity clients2 (set cores i c2) x k room (take p v.entries)) (sym is)
    (subst (λ y. IsDroppedFor capacity clients2 (set cores i c2) y k room (take p c2.entries)) (sym e)
    (elim (g.drops p k room here) [
      | inl o ↦ subst (IsDroppedFor capacity clients2 (set cores i c2) i k room) (sym o.1)
          (drop_later capacity clients clients2 cores (set cores i c2) i k room (take p c.entries) later
          (subst (λ (v : CoreView). IsDroppedFor capacity clients cores i k room (take p v.entries)) (sym ec)
          (was i p k room c li (subst (λ (v : CoreView). slice_get v.entries p ≡ Some (Dropped k (cause.Full room))) ec o.0))))
      | inr o ↦ by_new full (take p c2.entries) o fresh
    ])))
    (λ far.
    let is = get_or-set_other cores i x c2 d far in
    let there = subst (λ (v : CoreView). slice_get v.entries p ≡ Some (Dropped k (cause.Full room))) is at in
    subst (λ (v : CoreView). IsDroppedFor capacity clients2 (set cores i c2) x k room (take p v.entries)) (sym is)
    (drop_later capacity clients clients2 cores (set cores i c2) x k room (take p (get_or cores x d).entries) later (was x p k room d (omega (arith, lx, long)) there)))
  where
    same_pair : (f : ℕ × ℕ) (k room : ℕ) → k ≡ f.0 → room ≡ f.1 → Some f ≡ Some (k, room)
    same_pair f k room a b = rw (a, b) refl

    by_new : (f : Option (ℕ × ℕ)) (before : List Entry) → IsNew f c.entries before k room → ((k room : ℕ) → f ≡ Some (k, room) → IsDroppedFor capacity clients2 (set cores i c2) i k room c.entries) → IsDroppedFor capacity clients2 (set cores i c2) i k room before
    by_new None before new fresh = absurd new
    by_new (Some f) before new fresh = subst (IsDroppedFor capacity clients2 (set cores i c2) i k room) (sym new.0) (fresh k room (same_pair f k room new.1 new.2))
