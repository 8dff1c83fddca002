-- The jobs that wait, and what was found full, where no log grows.
use Rattle.std.proofs.Common.{◌≡◌, ⊎_elim, ℕ, ◌+◌, ◌<◌, ◌≤◌, List, [], ◌∷◌, ◌++◌, length, take, get_or, set, sum_by, refl, subst, sym, ap, ◌∙◌, arith, Bool, true, false, ◌&&◌, ◌==◌, if◌then◌else◌}
use Rattle.std.specs.Prelude.{slice_get, option_map, Option, Some, None, IfSome, IsSome}
use mathlib.Core.Logic.{dite}
use native.Mathlib.Decide.{ℕ_discrete}
use Rattle.std.proofs.Math.Seq.{map-set_same}
use Rattle.std.proofs.lemmas.List.{length-set, get_or-set_same, get_or-set_other, get_or_append_left, map-append}
use Rattle.std.proofs.lemmas.List.Sums.{sum_by-set, sum_by_push, sum_by-le-sum_by}
use Rattle.std.proofs.lemmas.Option.{IfSome_then, slice_get_within}
use Rattle.pfc_log.specs.declared.entry.DropCause.TheVariants as cause
use Rattle.pfc_log.specs.declared.entry.Entry.{Entry}
use Rattle.pfc_log.specs.declared.entry.Entry.TheVariants.{Dropped}
use Rattle.pfc_log.specs.Views.{times}
use Rattle.pfc_log.proofs.Earlier.{earlier_same, earlier_more, found_later, was_later}
use Rattle.pfc_log.specs.Waiting.{AreEarlier, is_worked}
use Rattle.pfc_core.specs.Marks.{Mark}
use Rattle.pfc_core.specs.View.{CoreView}
use Rattle.pfc_core.specs.OpenJobs as jobs
use Rattle.pfc_writer.specs.Writer.{Task, gone_on, turned, work_weight}
use Rattle.pfc_actor.specs.Backings.{BackingView, bare, written_in, WroteFor}
use Rattle.pfc_actor.specs.StageView.{StageView}
use Rattle.pfc_actor.specs.Steps.{full_in, StaysFull}
use Rattle.pfc_actor.specs.Clients.{ClientView, holds}
use Rattle.pfc_scene.specs.Queues.{AreQueued, HaveWorked, IsDroppedFor, IsFullFor, IsReturned, MayGoOn, logs_of, progress, settled_in}
use Rattle.pfc_scene.proofs.Casts.{below_or, at_end, same_rows}
use Rattle.pfc_scene.proofs.QueuedWorks.{AtJob, take_works, works_set}
use Rattle.pfc_scene.proofs.Weighing.{clients_le}

-- ---- what was found full

-- What was found full was so, and came of as much, also with these clients and cores.
pub record Follows (clients clients2 : List ClientView) (cores cores2 : List CoreView) : Type 0 where
  pub worked : (n : ℕ) → HaveWorked n clients cores → HaveWorked n clients2 cores2
  pub logs : AreEarlier (logs_of cores) (logs_of cores2)

pub full_on : (capacity : ℕ) (clients clients2 : List ClientView) (cores cores2 : List CoreView) (full : Mark × ℕ) → Follows clients clients2 cores cores2 → IsFullFor capacity clients cores full → IsFullFor capacity clients2 cores2 full
full_on capacity clients clients2 cores cores2 full f was = record {
  job = was.job;
  capacity_is = was.capacity_is;
  worked = f.worked full.1 was.worked;
  found = found_later full.1 full.0.instance full.0.block full.0.flight (logs_of cores) (logs_of cores2) f.logs was.found;
}

pub dropped_on : (capacity : ℕ) (clients clients2 : List ClientView) (cores cores2 : List CoreView) (x i c : ℕ) (before : List Entry) → Follows clients clients2 cores cores2 → IsDroppedFor capacity clients cores x i c before → IsDroppedFor capacity clients2 cores2 x i c before
dropped_on capacity clients clients2 cores cores2 x i c before f was = record {
  capacity_is = was.capacity_is;
  worked = f.worked c was.worked;
  was = was_later c x i before (logs_of cores) (logs_of cores2) f.logs was.was;
}

pub fulls_on : (capacity : ℕ) (clients clients2 : List ClientView) (cores cores2 : List CoreView) (stage : StageView) → Follows clients clients2 cores cores2 → IfSome (full_in stage) (IsFullFor capacity clients cores) → IfSome (full_in stage) (IsFullFor capacity clients2 cores2)
fulls_on capacity clients clients2 cores cores2 stage f was = IfSome_then (full_in stage) was (λ full. full_on capacity clients clients2 cores cores2 full f)

-- what is said of a value is said of the same value elsewhere
pub from_same : {X : Type 0} (o o2 : Option X) (P : X → Type 0) → IfSome o2 (λ x. o ≡ Some x) → IfSome o P → IfSome o2 P
from_same {X} o None P same was = tt
from_same {X} o (Some x) P same was = subst (λ (r : Option X). IfSome r P) same was

pub some_then : {X : Type 0} (o : Option X) (P Q : X → Type 0) → IfSome o P → ((x : X) → o ≡ Some x → P x → Q x) → IfSome o Q
some_then None P Q was next = tt
some_then (Some x) P Q was next = next x refl was

pub as_written : {X : Type 0} (o o2 : Option X) → o2 ≡ o → IfSome o2 (λ x. o ≡ Some x)
as_written {X} o None same = tt
as_written {X} o (Some x) same = sym same

-- ---- a client goes on by itself

pub same_hold : (w : Mark → ℕ) (clients : List ClientView) (j : ℕ) (a a2 : ClientView) → j < length clients → a ≡ get_or clients j a → holds w a2 ≡ holds w a → sum_by (holds w) (set clients j a2) ≡ sum_by (holds w) clients
same_hold w clients j a a2 lj ea same = let l = sum_by-set (holds w) clients j a2 a lj in let at_j = ap (holds w) ea in omega (arith, l, at_j, same)

-- the stages of all clients, where one is another
pub stages_set : (clients : List ClientView) (j : ℕ) (a2 : ClientView) (P : Mark × ℕ → Type 0) → j < length clients → IfSome (full_in a2.stage) P → ((x : ℕ) (d : ClientView) → x < length clients → IfSome (full_in (get_or clients x d).stage) P) →
    (x : ℕ) (d : ClientView) → x < length (set clients j a2) → IfSome (full_in (get_or (set clients j a2) x d).stage) P
stages_set clients j a2 P lj new was x d lx = let long = length-set clients j a2 in
    dite (ℕ_discrete x j)
    (λ e. let at = subst (λ y. get_or (set clients j a2) y d ≡ a2) (sym e) (get_or-set_same clients j a2 d lj) in subst (λ (v : ClientView). IfSome (full_in v.stage) P) (sym at) new)
    (λ far. subst (λ (v : ClientView). IfSome (full_in v.stage) P) (sym (get_or-set_other clients j x a2 d far)) (was x d (omega (arith, lx, long))))

pub client_queued : (capacity : ℕ) (clients : List ClientView) (cores : List CoreView) (backings : List BackingView) (writers : List (Option Task)) (queue : List Mark) (j : ℕ) (a a2 : ClientView) →
    AreQueued capacity clients cores backings writers queue → j < length clients → a ≡ get_or clients j a → ((w : Mark → ℕ) → holds w a2 ≡ holds w a) → StaysFull a.stage a2.stage → AreQueued capacity (set clients j a2) cores backings writers queue
client_queued capacity clients cores backings writers queue j a a2 q lj ea tokens full =
    let held = same_hold jobs.a_job clients j a a2 lj ea (tokens jobs.a_job) in let idle = same_hold (settled_in cores) clients j a a2 lj ea (tokens (settled_in cores)) in
    let f : Follows clients (set clients j a2) cores cores = record { worked = λ n h. omega (arith, h, held); logs = earlier_same (logs_of cores) } in
    let P = IsFullFor capacity clients cores in record {
      kinds = q.kinds;
      idle = let was = q.idle in omega (arith, was, idle);
      works = q.works;
      returned = q.returned;
      stages = stages_set clients j a2 (IsFullFor capacity (set clients j a2) cores) lj
          (fulls_on capacity clients (set clients j a2) cores cores a2.stage f (from_same (full_in a.stage) (full_in a2.stage) P full (subst (λ (v : ClientView). IfSome (full_in v.stage) P) (sym ea) (q.stages j a lj))))
          (λ x d lx. fulls_on capacity clients (set clients j a2) cores cores (get_or clients x d).stage f (q.stages x d lx));
      drops = λ x p i c d lx at. dropped_on capacity clients (set clients j a2) cores cores x i c (take p (get_or cores x d).entries) f (q.drops x p i c d lx at);
    }

-- ---- what stands beside a core goes on by itself

pub backing_queued : (capacity : ℕ) (clients : List ClientView) (cores : List CoreView) (backings : List BackingView) (writers : List (Option Task)) (queue : List Mark) (i : ℕ) (b b2 : BackingView) →
    AreQueued capacity clients cores backings writers queue → i < length backings → b ≡ get_or backings i b → IfSome (written_in b2.stand) (λ block. written_in b.stand ≡ Some block) → AreQueued capacity clients cores (set backings i b2) writers queue
backing_queued capacity clients cores backings writers queue i b b2 q li eb written = record {
  kinds = q.kinds;
  idle = q.idle;
  works = q.works;
  returned = λ x e lx. let long = length-set backings i b2 in
      dite (ℕ_discrete x i)
      (λ s. let at = subst (λ y. get_or (set backings i b2) y e ≡ b2) (sym s) (get_or-set_same backings i b2 e li) in
      subst (λ (v : BackingView). IfSome (written_in v.stand) (λ block. IsReturned x block writers)) (sym at)
      (subst (λ y. IfSome (written_in b2.stand) (λ block. IsReturned y block writers)) (sym s)
      (from_same (written_in b.stand) (written_in b2.stand) (λ block. IsReturned i block writers) written (subst (λ (v : BackingView). IfSome (written_in v.stand) (λ block. IsReturned i block writers)) (sym eb) (q.returned i b li)))))
      (λ far. subst (λ (v : BackingView). IfSome (written_in v.stand) (λ block. IsReturned x block writers)) (sym (get_or-set_other backings i x b2 e far)) (q.returned x e (omega (arith, lx, long))));
  stages = q.stages;
  drops = q.drops;
}

-- ---- a writer goes on

-- the writer at a place is another
pub returned_set : (writers : List (Option Task)) (w : ℕ) (x x2 : Option Task) (i block : ℕ) → w < length writers → x ≡ get_or writers w x → ((task : Task) → x ≡ Some task → task.job.instance ≡ i → task.job.block ≡ block → task.returning ≡ true → x2 ≡ x) →
    IsReturned i block writers → IsReturned i block (set writers w x2)
returned_set writers w x x2 i block lw ex keeps r = let long = length-set writers w x2 in let low = r.low in record {
  place = r.place;
  task = r.task;
  low = omega (arith, low, long);
  at = λ d.
      dite (ℕ_discrete r.place w)
      (λ e. let here : x ≡ Some r.task = ex ∙ ap (λ y. get_or writers y x) (sym e) ∙ r.at x in
      subst (λ y. get_or (set writers w x2) y d ≡ Some r.task) (sym e) (get_or-set_same writers w x2 d lw ∙ keeps r.task here r.instance_is r.block_is r.returning ∙ here))
      (λ far. get_or-set_other writers w r.place x2 d far ∙ r.at d);
  instance_is = r.instance_is;
  block_is = r.block_is;
  returning = r.returning;
}

pub one_value : {X : Type 0} (x y : X) → Some x ≡ Some y → x ≡ y
one_value x y e = cc

is_some : (x : Option Task) (task : Task) → x ≡ Some task → IsSome x
is_some x task is = subst IsSome (sym is) refl

-- the job of the writer at a place
job_at : (writers : List (Option Task)) (w : ℕ) (x : Option Task) → ((v : ℕ) (d : Option Task) → v < length writers → AtJob (get_or writers v d)) → w < length writers → x ≡ get_or writers w x → AtJob x
job_at writers w x works lw ex = subst AtJob (sym ex) (works w x lw)

gone_job : (x : Option Task) → AtJob x → AtJob (option_map gone_on x)
gone_job None job = tt
gone_job (Some task) job = job

took_less : (f : Mark → ℕ) (x x2 : Option Task) (jobs2 jobs1 : List Mark) → work_weight f x2 + sum_by f jobs2 ≡ work_weight f x + sum_by f jobs1 → (IsSome x → (x2 ≡ x) × (jobs2 ≡ jobs1)) → sum_by f jobs2 ≤ sum_by f jobs1
took_less f None x2 jobs2 jobs1 tokens busy = omega (arith, tokens)
took_less f (Some task) x2 jobs2 jobs1 tokens busy = subst (λ (l : List Mark). sum_by f l ≤ sum_by f jobs1) (sym (busy refl).1) (omega arith)

-- at rest it takes a job
pub job_queued : (capacity capacity2 : ℕ) (clients : List ClientView) (cores : List CoreView) (backings : List BackingView) (writers : List (Option Task)) (queue queue2 : List Mark) (w : ℕ) (x x2 : Option Task) →
    AreQueued capacity clients cores backings writers queue → w < length writers → x ≡ get_or writers w x → ((f : Mark → ℕ) → work_weight f x2 + sum_by f queue2 ≡ work_weight f x + sum_by f queue) → capacity2 ≡ capacity →
    (IsSome x → (x2 ≡ x) × (queue2 ≡ queue)) → AreQueued capacity2 clients cores backings (set writers w x2) queue2
job_queued capacity capacity2 clients cores backings writers queue queue2 w x x2 q lw ex tokens same busy =
    let took = take_works x x2 queue queue2 tokens (job_at writers w x q.works lw ex) q.kinds in
    subst (λ n. AreQueued n clients cores backings (set writers w x2) queue2) (sym same) (record {
      kinds = took.1;
      idle = let was = q.idle in let less = took_less (settled_in cores) x x2 queue2 queue (tokens (settled_in cores)) busy in omega (arith, was, less);
      works = works_set writers w x2 lw took.0 q.works;
      returned = λ i e li. IfSome_then (written_in (get_or backings i e).stand) (q.returned i e li) (λ block. returned_set writers w x x2 i block lw ex (λ task is a b c. (busy (is_some x task is)).0));
      stages = q.stages;
      drops = q.drops;
    })

-- its next phase comes
pub gone_queued : (capacity : ℕ) (clients : List ClientView) (cores : List CoreView) (backings : List BackingView) (writers : List (Option Task)) (queue : List Mark) (w : ℕ) (x x2 : Option Task) →
    AreQueued capacity clients cores backings writers queue → w < length writers → x ≡ get_or writers w x → x2 ≡ option_map gone_on x → MayGoOn backings x → AreQueued capacity clients cores backings (set writers w x2) queue
gone_queued capacity clients cores backings writers queue w x x2 q lw ex gone may = record {
  kinds = q.kinds;
  idle = q.idle;
  works = works_set writers w x2 lw (subst AtJob (sym gone) (gone_job x (job_at writers w x q.works lw ex))) q.works;
  returned = λ i e li. some_then (written_in (get_or backings i e).stand) (λ block. IsReturned i block writers) (λ block. IsReturned i block (set writers w x2)) (q.returned i e li)
      (λ block is. returned_set writers w x x2 i block lw ex
      (λ task here at blocks returning.
      let none = may task e here returning (subst (λ n. n < length backings) (sym at) li) in
      absurd (subst (λ (o : Option ℕ). IfSome o (λ block. ⊥)) is (subst (λ n. IfSome (written_in (get_or backings n e).stand) (λ block. ⊥)) at none))));
  stages = q.stages;
  drops = q.drops;
}

-- it had its turn with what stands beside the core of its job
pub turn_queued : (capacity : ℕ) (clients : List ClientView) (cores : List CoreView) (backings : List BackingView) (writers : List (Option Task)) (queue : List Mark) (w i : ℕ) (x x2 : Option Task) (b2 : BackingView) →
    AreQueued capacity clients cores backings writers queue → w < length writers → i < length backings → x ≡ get_or writers w x → option_map (λ (t : Task). t.job.instance) x ≡ Some i → WroteFor x b2 x2 →
    AreQueued capacity clients cores (set backings i b2) (set writers w x2) queue
turn_queued capacity clients cores backings writers queue w i x x2 b2 q lw li ex of t =
    let home : t.task.job.instance ≡ i = one_value t.task.job.instance i (sym (ap (option_map (λ (t : Task). t.job.instance)) t.was) ∙ of) in record {
      kinds = q.kinds;
      idle = q.idle;
      works = works_set writers w x2 lw (subst AtJob (sym t.is) (subst AtJob t.was (job_at writers w x q.works lw ex))) q.works;
      returned = λ y e ly. let long = length-set backings i b2 in
          dite (ℕ_discrete y i)
          (λ s. let at = subst (λ n. get_or (set backings i b2) n e ≡ b2) (sym s) (get_or-set_same backings i b2 e li) in
          subst (λ (v : BackingView). IfSome (written_in v.stand) (λ block. IsReturned y block (set writers w x2))) (sym at)
          (IfSome_then (written_in b2.stand) t.written (λ block same. let long = length-set writers w x2 in record {
            place = w;
            task = turned t.task;
            low = omega (arith, lw, long);
            at = λ d. get_or-set_same writers w x2 d lw ∙ t.is;
            instance_is = home ∙ sym s;
            block_is = same;
            returning = refl;
          })))
          (λ far.
          subst (λ (v : BackingView). IfSome (written_in v.stand) (λ block. IsReturned y block (set writers w x2))) (sym (get_or-set_other backings i y b2 e far))
          (IfSome_then (written_in (get_or backings y e).stand) (q.returned y e (omega (arith, ly, long))) (λ block. returned_set writers w x x2 y block lw ex
          (λ task here at blocks returning. absurd (far (sym at ∙ ap (λ (v : Task). v.job.instance) (one_value task t.task (sym here ∙ t.was)) ∙ home))))));
      stages = q.stages;
      drops = q.drops;
    }

-- ---- a core is made, or renewed

by_job : (a : Bool) → ◌≡◌ {A = ℕ} (if a && false then 1 else 0) 0
by_job true = refl
by_job false = refl

-- no job of it is of a block that was written or dropped
silent : (c : CoreView) (m : Mark) → c.entries ≡ [] → jobs.settled c m ≡ 0
silent c m none = rw none (by_job (jobs.is_job_mark m))

by_core : (a : Bool) (n : ℕ) → n ≡ 0 → (if a then n else 0) ≡ 0
by_core true n none = none
by_core false n none = refl

-- what one core has to do with it
abbrev pub settled_by : Mark → CoreView → ℕ
settled_by m c = if c.instance == m.instance then jobs.settled c m else 0

silent_by : (c : CoreView) (m : Mark) → c.entries ≡ [] → settled_by m c ≡ 0
silent_by c m none = by_core (c.instance == m.instance) (jobs.settled c m) (silent c m none)

nothing_yet : (c : CoreView) → c.entries ≡ [] → c.out ≡ [] → progress c ≡ 0
nothing_yet c none out = let log = ap (times is_worked) none in let jobs = ap (sum_by (jobs.unsettled c)) out in omega (arith, log, jobs)

no_drop : {C : Type 0} (es : List Entry) (p : ℕ) (e : Entry) → es ≡ [] → slice_get es p ≡ Some e → C
no_drop es p e none at = let within = slice_get_within es p e at in let long = ap length none in absurd (omega (arith, within, long))

-- the jobs are of blocks that aren't done, where no more are done
idle_less : (clients : List ClientView) (queue : List Mark) (w u : Mark → ℕ) → ((m : Mark) → u m ≤ w m) → sum_by (holds w) clients + sum_by w queue ≡ 0 → sum_by (holds u) clients + sum_by u queue ≡ 0
idle_less clients queue w u less was = let held = clients_le u w clients less in let waits = sum_by-le-sum_by u w queue less in omega (arith, was, held, waits)

bare_returned : (backings : List BackingView) (writers : List (Option Task)) → ((i : ℕ) (e : BackingView) → i < length backings → IfSome (written_in (get_or backings i e).stand) (λ block. IsReturned i block writers)) →
    (i : ℕ) (e : BackingView) → i < length (backings ++ bare ∷ []) → IfSome (written_in (get_or (backings ++ bare ∷ []) i e).stand) (λ block. IsReturned i block writers)
bare_returned backings writers was i e li =
    ⊎_elim
    (λ l. subst (λ (b : BackingView). IfSome (written_in b.stand) (λ block. IsReturned i block writers)) (sym (get_or_append_left backings (bare ∷ []) e i l)) (was i e l))
    (λ far. subst (λ (b : BackingView). IfSome (written_in b.stand) (λ block. IsReturned i block writers)) (sym (at_end backings bare e i li far)) tt)
    (below_or i (length backings))

-- behind the others, and nothing stands beside it
pub made_queued : (capacity : ℕ) (clients : List ClientView) (cores : List CoreView) (backings : List BackingView) (writers : List (Option Task)) (queue : List Mark) (c : CoreView) →
    AreQueued capacity clients cores backings writers queue → c.entries ≡ [] → c.out ≡ [] → AreQueued capacity clients (cores ++ c ∷ []) (backings ++ bare ∷ []) writers queue
made_queued capacity clients cores backings writers queue c q none out =
    let more = sum_by_push progress cores c in let zero_is = nothing_yet c none out in
    let f : Follows clients clients cores (cores ++ c ∷ []) = record {
      worked = λ n h. omega (arith, h, more, zero_is);
      logs = subst (AreEarlier (logs_of cores)) (sym (map-append (λ (v : CoreView). v.entries) cores (c ∷ []))) (earlier_more (logs_of cores) (c.entries ∷ []));
    } in record {
      kinds = q.kinds;
      idle = idle_less clients queue (settled_in cores) (settled_in (cores ++ c ∷ [])) (λ m. let push = sum_by_push (settled_by m) cores c in let silent = silent_by c m none in omega (arith, push, silent)) q.idle;
      works = q.works;
      returned = bare_returned backings writers q.returned;
      stages = λ j d lj. fulls_on capacity clients clients cores (cores ++ c ∷ []) (get_or clients j d).stage f (q.stages j d lj);
      drops = λ x p i k d lx at.
          ⊎_elim
          (λ l. let left = sym (get_or_append_left cores (c ∷ []) d x l) in
          subst (λ (v : CoreView). IsDroppedFor capacity clients (cores ++ c ∷ []) x i k (take p v.entries)) left
          (dropped_on capacity clients clients cores (cores ++ c ∷ []) x i k (take p (get_or cores x d).entries) f
          (q.drops x p i k d l (subst (λ (v : CoreView). slice_get v.entries p ≡ Some (Dropped i (cause.Full k))) (sym left) at))))
          (λ far. no_drop (get_or (cores ++ c ∷ []) x d).entries p (Dropped i (cause.Full k)) (ap (λ (v : CoreView). v.entries) (at_end cores c d x lx far) ∙ none) at)
          (below_or x (length cores));
    }

-- a fresh core in the place of a fresh one
pub renewed_queued : (capacity : ℕ) (clients : List ClientView) (cores : List CoreView) (backings : List BackingView) (writers : List (Option Task)) (queue : List Mark) (i : ℕ) (c c2 : CoreView) →
    AreQueued capacity clients cores backings writers queue → i < length cores → c ≡ get_or cores i c → c.entries ≡ [] → c2.entries ≡ [] → c.out ≡ [] → c2.out ≡ [] → AreQueued capacity clients (set cores i c2) backings writers queue
renewed_queued capacity clients cores backings writers queue i c c2 q li ec none none2 out out2 =
    let sum = sum_by-set progress cores i c2 c li in let at_i = ap progress ec in let was = nothing_yet c none out in let now = nothing_yet c2 none2 out2 in
    let same : logs_of (set cores i c2) ≡ logs_of cores = map-set_same (λ (v : CoreView). v.entries) cores i c2 c (none2 ∙ sym none ∙ ap (λ (v : CoreView). v.entries) ec) in
    let f : Follows clients clients cores (set cores i c2) = record {
      worked = λ n h. omega (arith, h, sum, at_i, was, now);
      logs = subst (AreEarlier (logs_of cores)) (sym same) (earlier_same (logs_of cores));
    } in record {
      kinds = q.kinds;
      idle = idle_less clients queue (settled_in cores) (settled_in (set cores i c2)) (λ m. let one = sum_by-set (settled_by m) cores i c2 c li in let silent = silent_by c2 m none2 in omega (arith, one, silent)) q.idle;
      works = q.works;
      returned = q.returned;
      stages = λ j d lj. fulls_on capacity clients clients cores (set cores i c2) (get_or clients j d).stage f (q.stages j d lj);
      drops = λ x p y k d lx at. let long = length-set cores i c2 in let low : x < length cores = omega (arith, lx, long) in
          let log = same_rows (λ (v : CoreView). v.entries) cores i c c2 li ec (none2 ∙ sym none) x d low in
          subst (λ es. IsDroppedFor capacity clients (set cores i c2) x y k (take p es)) (sym log)
          (dropped_on capacity clients clients cores (set cores i c2) x y k (take p (get_or cores x d).entries) f (q.drops x p y k d low (subst (λ es. slice_get es p ≡ Some (Dropped y (cause.Full k))) log at)));
    }

-- ---- at the start

-- there is no core
pub start_queued : (capacity : ℕ) (clients : List ClientView) (writers : List (Option Task)) → ((w : Mark → ℕ) → sum_by (holds w) clients ≡ 0) → ((j : ℕ) (d : ClientView) → j < length clients → full_in (get_or clients j d).stage ≡ None) → ((w : ℕ) (d : Option Task) → w < length writers → get_or writers w d ≡ None) → AreQueued capacity clients [] [] writers []
start_queued capacity clients writers light calm resting = record {
  kinds = refl;
  idle = let none = light (settled_in []) in omega (arith, none);
  works = λ w d lw. subst AtJob (sym (resting w d lw)) tt;
  returned = λ i e li. absurd (omega (arith, li));
  stages = λ j d lj. subst (λ (o : Option (Mark × ℕ)). IfSome o (IsFullFor capacity clients [])) (sym (calm j d lj)) tt;
  drops = λ x p i c d lx at. absurd (omega (arith, lx));
}
