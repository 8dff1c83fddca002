-- What a loan, and the end of a writer's job, keep of the write queue.
use Rattle.std.proofs.Common.{◌≡◌, ◌≢◌, inl, inr, ℕ, ◌+◌, ◌<◌, ◌≤◌, List, length, get_or, set, sum_by, refl, subst, sym, ap, ◌∙◌, arith, Bool, true, false, ◌==◌, ◌&&◌, Option, Some, None}
use Rattle.std.specs.Prelude.{IfSome, IsTrue, not}
use mathlib.Core.Logic.{dite}
use native.Mathlib.Decide.{ℕ_discrete}
use Rattle.std.proofs.lemmas.List.{length-set, get_or-set_same, get_or-set_other}
use Rattle.std.proofs.lemmas.List.Sums.{sum_by-le-sum_by, get_or-le-sum_by}
use Rattle.pfc_log.specs.declared.entry.DropCause.TheVariants as cause
use Rattle.pfc_log.specs.Views.{place}
use Rattle.pfc_core.specs.Calls.{Drops}
use Rattle.pfc_core.specs.Jobs.{Ends}
use Rattle.pfc_core.specs.Leaves.{is_done_at, pins_on}
use Rattle.pfc_core.specs.Marks.{Mark, Loses}
use Rattle.pfc_core.specs.View.{CoreView}
use Rattle.pfc_core.specs.OpenJobs.{AreJobs, is_job_mark, a_job, job_of, unsettled}
use Rattle.pfc_writer.specs.Writer.{Task, work_weight, EndsWork}
use Rattle.pfc_actor.specs.Backings.{BackingView, Stand, loan_weight, written_in, EntersBy, LoanStep}
use Rattle.pfc_actor.specs.Clients.{ClientView, holds}
use Rattle.pfc_scene.specs.Queues.{settled_in, progress, IsReturned, AreQueued}
use Rattle.pfc_scene.specs.Scenes.{SceneView, IsScene}
use Rattle.pfc_scene.proofs.Casts.{same_rows, stays_for}
use Rattle.pfc_scene.proofs.Growing.{bit, only, none, Grows, grows_either, grows_plainly, grows_same, grows_wrote}
use Rattle.pfc_scene.proofs.QueuedCores.{Later, drops_later, idle_none, idle_only, in_none_more, in_only_more, logs_later, settled_none, settled_only, stage_later, stays_self, unsettled_none, unsettled_only, worked_core}
use Rattle.pfc_scene.proofs.QueuedSteps.{core_at, dropped_grows, held_here, job_self, one_job, own_lost}
use Rattle.pfc_scene.proofs.QueuedWorks.{works_set}
use Rattle.pfc_scene.proofs.Weighing.{of_core, of_yes, loan_le, sum_le_add, unsettled_least}

-- ---- a core goes on by itself

-- what these backings and writers are to keep
record Beside (backings : List BackingView) (writers : List (Option Task)) : Type 0 where
  works : (w : ℕ) (d : Option Task) → w < length writers → IfSome (get_or writers w d) (λ task. is_job_mark task.job ≡ true)
  returned : (x : ℕ) (e : BackingView) → x < length backings → IfSome (written_in (get_or backings x e).stand) (λ block. IsReturned x block writers)

core_queued : (v : SceneView) (i : ℕ) (c c2 : CoreView) (backings : List BackingView) (writers : List (Option Task)) (turns : ℕ → ℕ) (n : ℕ) → IsScene v → i < length v.cores → c ≡ get_or v.cores i c → Grows turns n None c.entries c2.entries →
    progress c ≤ progress c2 → sum_by (holds (settled_in (set v.cores i c2))) v.clients + sum_by (settled_in (set v.cores i c2)) v.jobs ≡ 0 →
    Beside backings writers → AreQueued v.capacity v.clients (set v.cores i c2) backings writers v.jobs
core_queued v i c c2 backings writers turns n s li ec g le idle beside =
    let later : Later v.clients v.clients v.cores (set v.cores i c2) = record {
      worked = λ m. worked_core m v.clients v.cores i c c2 li ec le;
      logs = logs_later v.cores i c c2 li ec g.begins;
    } in record {
      kinds = s.queued.kinds;
      idle = idle;
      works = beside.works;
      returned = beside.returned;
      stages = λ x d lx. stage_later v.capacity v.clients v.clients v.cores (set v.cores i c2) (get_or v.clients x d).stage (get_or v.clients x d).stage later (stays_self (get_or v.clients x d).stage) (s.queued.stages x d lx);
      drops = drops_later v.capacity n turns None v.clients v.clients v.cores i c c2 li ec g later (λ k room e. absurd cc) s.queued.drops;
    }

-- no block was written or dropped
plain_queued : (v : SceneView) (i : ℕ) (c c2 : CoreView) (backings : List BackingView) (writers : List (Option Task)) → IsScene v → i < length v.cores → c ≡ get_or v.cores i c → c2.instance ≡ c.instance → Grows none 0 None c.entries c2.entries →
    sum_by (unsettled c) c.out ≤ sum_by (unsettled c) c2.out → Beside backings writers →
    AreQueued v.capacity v.clients (set v.cores i c2) backings writers v.jobs
plain_queued v i c c2 backings writers s li ec same g more beside =
    let less = sum_by-le-sum_by (unsettled c) (unsettled c2) c2.out (unsettled_none 0 None c c2 g) in let worked = g.worked in
    core_queued v i c c2 backings writers none 0 s li ec g (omega (arith, more, less, worked))
    (idle_none (settled_in v.cores) (settled_in (set v.cores i c2)) v.clients v.clients v.jobs (in_none_more v.cores i c c2 li ec same (settled_none 0 None c c2 g)) (omega arith) s.queued.idle)
    beside

-- what a writer is at is a job
task_job : (v : SceneView) (w : ℕ) (task : Task) → IsScene v → w < length v.writers → Some task ≡ get_or v.writers w (Some task) → is_job_mark task.job ≡ true
task_job v w task s lw ew = subst (λ (o : Option Task). IfSome o (λ x. is_job_mark x.job ≡ true)) (sym ew) (s.queued.works w (Some task) lw)

-- who holds a job of a block of a core
record Works (v : SceneView) (c : CoreView) (k : ℕ) : Type 0 where
  place : ℕ
  task : Task
  low : place < length v.writers
  at : Some task ≡ get_or v.writers place (Some task)
  instance_is : task.job.instance ≡ c.instance
  block_is : task.job.block ≡ k
  job : is_job_mark task.job ≡ true

-- nobody else does
nobody : (v : SceneView) (i : ℕ) (c : CoreView) (k : ℕ) → IsScene v → i < length v.cores → c ≡ get_or v.cores i c → Works v c k → sum_by (holds (of_core c.instance (job_of k))) v.clients + sum_by (of_core c.instance (job_of k)) v.jobs ≡ 0
nobody v i c k s li ec works =
    let w = of_core c.instance (job_of k) in
    let held = held_here v i c (job_of k) s li ec in let once = (core_at v i c s li ec).jobs.once k in
    let le = get_or-le-sum_by (work_weight w) v.writers works.place (Some works.task) works.low in let at = ap (work_weight w) works.at in
    let one : w works.task.job ≡ 1 = of_yes c.instance (job_of k) works.task.job (sym works.instance_is) ∙ subst (λ b. job_of b works.task.job ≡ 1) works.block_is (job_self works.task.job ∙ one_job works.task.job works.job) in
    omega (arith, held, once, le, at, one)

-- a writer came to an end with a block
one_queued : (v : SceneView) (i k : ℕ) (c c2 : CoreView) (backings : List BackingView) (writers : List (Option Task)) → IsScene v → i < length v.cores → c ≡ get_or v.cores i c → c2.instance ≡ c.instance → Grows (only k) 1 None c.entries c2.entries →
    Works v c k → sum_by (unsettled c) c.out + sum_by (job_of k) c2.out ≤ sum_by (unsettled c) c2.out + 1 → Beside backings writers →
    AreQueued v.capacity v.clients (set v.cores i c2) backings writers v.jobs
one_queued v i k c c2 backings writers s li ec same g works more beside =
    let less = sum_le_add (unsettled c) (unsettled c2) (job_of k) c2.out (unsettled_only k 1 None c c2 g) in let worked = g.worked in
    core_queued v i c c2 backings writers (only k) 1 s li ec g (omega (arith, more, less, worked))
    (idle_only (settled_in v.cores) (settled_in (set v.cores i c2)) (of_core c.instance (job_of k)) v.clients v.clients v.jobs (in_only_more k v.cores i c c2 li ec same (settled_only k 1 None c c2 g)) (omega arith) (nobody v i c k s li ec works) s.queued.idle)
    beside

-- ---- a loan

-- what a loan wrote is of a job that its writer holds
returned_loan : (v : SceneView) (i : ℕ) (b b2 : BackingView) → IsScene v → i < length v.backings → b ≡ get_or v.backings i b → IfSome (written_in b2.stand) (λ k. written_in b.stand ≡ Some k) →
    (x : ℕ) (e : BackingView) → x < length (set v.backings i b2) → IfSome (written_in (get_or (set v.backings i b2) x e).stand) (λ block. IsReturned x block v.writers)
returned_loan v i b b2 s lb eb kept x e lx = let long = length-set v.backings i b2 in
    dite (ℕ_discrete x i)
    (λ q. let at = subst (λ y. get_or (set v.backings i b2) y e ≡ b2) (sym q) (get_or-set_same v.backings i b2 e lb) in
    subst (λ (y : BackingView). IfSome (written_in y.stand) (λ block. IsReturned x block v.writers)) (sym at)
    (subst (λ y. IfSome (written_in b2.stand) (λ block. IsReturned y block v.writers)) (sym q)
    (some_kept (written_in b.stand) (written_in b2.stand) kept (subst (λ (y : BackingView). IfSome (written_in y.stand) (λ block. IsReturned i block v.writers)) (sym eb) (s.queued.returned i b lb)))))
    (λ far. let at = get_or-set_other v.backings i x b2 e far in
    subst (λ (y : BackingView). IfSome (written_in y.stand) (λ block. IsReturned x block v.writers)) (sym at) (s.queued.returned x e (omega (arith, lx, long))))
  where
    some_kept : (o o2 : Option ℕ) → IfSome o2 (λ k. o ≡ Some k) → IfSome o (λ block. IsReturned i block v.writers) → IfSome o2 (λ block. IsReturned i block v.writers)
    some_kept o None is h = tt
    some_kept o (Some k) is h = subst (λ q. IfSome q (λ block. IsReturned i block v.writers)) is h

first_of_two : (o o2 : Option ℕ) (P : Type 0) → IfSome o2 (λ k. (o ≡ Some k) × P) → IfSome o2 (λ k. o ≡ Some k)
first_of_two o None P h = tt
first_of_two o (Some k) P h = h.0

-- what there is to know of the loan, which is no job
record StepsLent (v : SceneView) (i : ℕ) (c c2 : CoreView) (b b2 : BackingView) : Type 0 where
  scene : IsScene v
  low : i < length v.cores
  core_is : c ≡ get_or v.cores i c
  backing_is : b ≡ get_or v.backings i b
  step : LoanStep c b c2 b2
  loan : loan_weight a_job b.stand ≡ 0
  jobs : AreJobs c2

lent_low : (v : SceneView) (i : ℕ) (c c2 : CoreView) (b b2 : BackingView) → StepsLent v i c c2 b b2 → i < length v.backings
lent_low v i c c2 b b2 st = let long = st.scene.backed.long in let low = st.low in omega (arith, long, low)

lent_beside : (v : SceneView) (i : ℕ) (c c2 : CoreView) (b b2 : BackingView) → StepsLent v i c c2 b b2 → Beside (set v.backings i b2) v.writers
lent_beside v i c c2 b b2 st = record { works = st.scene.queued.works; returned = returned_loan v i b b2 st.scene (lent_low v i c c2 b b2 st) st.backing_is (first_of_two (written_in b.stand) (written_in b2.stand) (c2 ≡ c) st.step.written) }

-- no job that waits is given back with it
lent_unsettled : (v : SceneView) (i : ℕ) (c c2 : CoreView) (b b2 : BackingView) → StepsLent v i c c2 b b2 → sum_by (unsettled c) c.out ≤ sum_by (unsettled c) c2.out
lent_unsettled v i c c2 b b2 st = let t = st.step.tokens (unsettled c) in let le = loan_le (unsettled c) a_job (unsettled_least c) b.stand in let none = st.loan in omega (arith, t, le, none)

lent_plain : (v : SceneView) (i : ℕ) (c c2 : CoreView) (b b2 : BackingView) → StepsLent v i c c2 b b2 → Grows none 0 None c.entries c2.entries → AreQueued v.capacity v.clients (set v.cores i c2) (set v.backings i b2) v.writers v.jobs
lent_plain v i c c2 b b2 st g =
    plain_queued v i c c2 (set v.backings i b2) v.writers st.scene st.low st.core_is (stays_for c c2 st.step.home).instance_is g (lent_unsettled v i c c2 b b2 st) (lent_beside v i c c2 b b2 st)

lent_works : (v : SceneView) (i k : ℕ) (c c2 : CoreView) (b b2 : BackingView) → StepsLent v i c c2 b b2 → written_in b.stand ≡ Some k → Works v c k
lent_works v i k c c2 b b2 st wrote =
    let is : IsReturned i k v.writers = subst (λ (o : Option ℕ). IfSome o (λ block. IsReturned i block v.writers)) wrote
    (subst (λ (y : BackingView). IfSome (written_in y.stand) (λ block. IsReturned i block v.writers)) (sym st.backing_is) (st.scene.queued.returned i b (lent_low v i c c2 b b2 st))) in record {
      place = is.place;
      task = is.task;
      low = is.low;
      at = sym (is.at (Some is.task));
      instance_is = is.instance_is ∙ sym (core_at v i c st.scene st.low st.core_is).instance_is;
      block_is = is.block_is;
      job = task_job v is.place is.task st.scene is.low (sym (is.at (Some is.task)));
    }

by_written : (v : SceneView) (i : ℕ) (c c2 : CoreView) (b b2 : BackingView) → StepsLent v i c c2 b b2 → (o : Option ℕ) → written_in b.stand ≡ o → EntersBy o c c2 → AreQueued v.capacity v.clients (set v.cores i c2) (set v.backings i b2) v.writers v.jobs
by_written v i c c2 b b2 st None is enters = lent_plain v i c c2 b b2 st (grows_plainly c.entries c2.entries enters)
by_written v i c c2 b b2 st (Some k) is (inl same) = lent_plain v i c c2 b b2 st (subst (λ (x : CoreView). Grows none 0 None c.entries x.entries) (sym same) (grows_same c.entries))
by_written v i c c2 b b2 st (Some k) is (inr enters) =
    let more = lent_unsettled v i c c2 b b2 st in let once = st.jobs.once k in
    one_queued v i k c c2 (set v.backings i b2) v.writers st.scene st.low st.core_is (stays_for c c2 st.step.home).instance_is (subst (Grows (only k) 1 None c.entries) (sym enters) (grows_wrote c.entries k))
    (lent_works v i k c c2 b b2 st is) (omega (arith, more, once)) (lent_beside v i c c2 b b2 st)

-- A store is lent, or comes back. The loan is no job.
pub loan_queued : (v : SceneView) (i : ℕ) (c c2 : CoreView) (b b2 : BackingView) → IsScene v → i < length v.cores → c ≡ get_or v.cores i c → b ≡ get_or v.backings i b → LoanStep c b c2 b2 → loan_weight a_job b.stand ≡ 0 → AreJobs c2 →
    AreQueued v.capacity v.clients (set v.cores i c2) (set v.backings i b2) v.writers v.jobs
loan_queued v i c c2 b b2 s li ec eb st loan jobs =
    by_written v i c c2 b b2 (record { scene = s; low = li; core_is = ec; backing_is = eb; step = st; loan = loan; jobs = jobs }) (written_in b.stand) refl st.enters

-- ---- what stands beside a core is another, which stands there alike

pub alike_queued : (capacity : ℕ) (clients : List ClientView) (cores : List CoreView) (backings : List BackingView) (writers : List (Option Task)) (queue : List Mark) (i : ℕ) (b b2 : BackingView) → AreQueued capacity clients cores backings writers queue →
    i < length backings → b ≡ get_or backings i b → b2.stand ≡ b.stand → AreQueued capacity clients cores (set backings i b2) writers queue
alike_queued capacity clients cores backings writers queue i b b2 q lb eb same = record {
  kinds = q.kinds;
  idle = q.idle;
  works = q.works;
  returned = λ x e lx. let long = length-set backings i b2 in let lx2 : x < length backings = omega (arith, lx, long) in
      subst (λ (st : Stand). IfSome (written_in st) (λ block. IsReturned x block writers)) (sym (same_rows (λ (y : BackingView). y.stand) backings i b b2 lb eb same x e lx2)) (q.returned x e lx2);
  stages = q.stages;
  drops = q.drops;
}

-- ---- a writer ends its job

-- the writers that have a written block to give back are others
returned_end : (v : SceneView) (w : ℕ) (task : Task) → IsScene v → w < length v.writers → Some task ≡ get_or v.writers w (Some task) → task.returning ≡ false →
    (x : ℕ) (e : BackingView) → x < length v.backings → IfSome (written_in (get_or v.backings x e).stand) (λ block. IsReturned x block (set v.writers w None))
returned_end v w task s lw ew back x e lx = by_some (written_in (get_or v.backings x e).stand) (s.queued.returned x e lx)
  where
    other : (is : Task) (place : ℕ) → ((d : Option Task) → get_or v.writers place d ≡ Some is) → is.returning ≡ true → place ≢ w
    other is place at returning e =
        let same : Some is ≡ Some task = sym (at (Some task)) ∙ ap (λ n. get_or v.writers n (Some task)) e ∙ sym ew in
        let r : is.returning ≡ task.returning = let h : is ≡ task = cc in ap (λ (y : Task). y.returning) h in absurd (let t : true ≡ false = sym returning ∙ r ∙ back in cc)

    by_some : (o : Option ℕ) → IfSome o (λ block. IsReturned x block v.writers) → IfSome o (λ block. IsReturned x block (set v.writers w None))
    by_some None h = tt
    by_some (Some block) h = record {
      place = h.place;
      task = h.task;
      low = let long = length-set v.writers w None in let low = h.low in omega (arith, long, low);
      at = λ d. get_or-set_other v.writers w h.place None d (other h.task h.place h.at h.returning) ∙ h.at d;
      instance_is = h.instance_is;
      block_is = h.block_is;
      returning = h.returning;
    }

beside_end : (v : SceneView) (w : ℕ) (task : Task) → IsScene v → w < length v.writers → Some task ≡ get_or v.writers w (Some task) → task.returning ≡ false → Beside v.backings (set v.writers w None)
beside_end v w task s lw ew back = record { works = works_set v.writers w None lw tt s.queued.works; returned = returned_end v w task s lw ew back }

-- what there is to know of its end
record EndsOn (v : SceneView) (w i : ℕ) (task : Task) (c c2 : CoreView) : Type 0 where
  scene : IsScene v
  writer_low : w < length v.writers
  core_low : i < length v.cores
  writer_is : Some task ≡ get_or v.writers w (Some task)
  core_is : c ≡ get_or v.cores i c
  back : task.returning ≡ false
  same : c2.instance ≡ c.instance
  loses : Loses c.out task.job c2.out
  job : is_job_mark task.job ≡ true

ends_written : (v : SceneView) (w i : ℕ) (task : Task) (c c2 : CoreView) → EndsOn v w i task c c2 → Ends c task.job c2 → AreQueued v.capacity v.clients (set v.cores i c2) v.backings (set v.writers w None) v.jobs
ends_written v w i task c c2 st ends =
    let g = subst (Grows none 0 None c.entries) (sym (ap (λ (x : CoreView). x.entries) ends.enters)) (grows_either none 0 None c.entries c.entries task.job.block (0 == pins_on task.job.block task.job.flight c.out) (grows_same c.entries)) in
    let lost = st.loses (unsettled c) in let off = done_none (is_job_mark task.job) (is_done_at task.job.flight (place task.job.block c.entries)) ends.written in
    plain_queued v i c c2 v.backings (set v.writers w None) st.scene st.core_low st.core_is st.same g (omega (arith, lost, off)) (beside_end v w task st.scene st.writer_low st.writer_is st.back)
  where
    done_none : (q d : Bool) → IsTrue d → bit (q && not d) ≡ 0
    done_none true true is = refl
    done_none false true is = refl
    done_none q false is = absurd cc

ends_frozen : (v : SceneView) (w i : ℕ) (task : Task) (c c2 : CoreView) → EndsOn v w i task c c2 → Drops c task.job cause.Frozen c2 → AreQueued v.capacity v.clients (set v.cores i c2) v.backings (set v.writers w None) v.jobs
ends_frozen v w i task c c2 st drops =
    let k = task.job.block in let core = core_at v i c st.scene st.core_low st.core_is in
    let lost = st.loses (unsettled c) in let gone = st.loses (job_of k) in let once = core.jobs.once k in
    let self = job_self task.job in let most = unsettled_least c task.job in
    one_queued v i k c c2 v.backings (set v.writers w None) st.scene st.core_low st.core_is st.same (dropped_grows c c2 task.job cause.Frozen drops)
    (record { place = w; task = task; low = st.writer_low; at = st.writer_is; instance_is = own_lost c c2.out task.job st.loses core.own; block_is = refl; job = st.job })
    (omega (arith, lost, gone, once, self, most)) (beside_end v w task st.scene st.writer_low st.writer_is st.back)

-- A writer ends its job, and has no loan to give back.
pub end_queued : (v : SceneView) (w i : ℕ) (task : Task) (c c2 : CoreView) → IsScene v → w < length v.writers → i < length v.cores → Some task ≡ get_or v.writers w (Some task) → c ≡ get_or v.cores i c → EndsWork c (Some task) c2 →
    task.returning ≡ false → AreQueued v.capacity v.clients (set v.cores i c2) v.backings (set v.writers w None) v.jobs
end_queued v w i task c c2 s lw li ew ec ends back =
    let st : EndsOn v w i task c c2 = record {
      scene = s;
      writer_low = lw;
      core_low = li;
      writer_is = ew;
      core_is = ec;
      back = back;
      same = ap (λ (x : CoreView). x.instance) ends.home;
      loses = ends.loses;
      job = task_job v w task s lw ew;
    } in
    elim ends.ends [
      | inl e ↦ elim e [
        | inl y ↦ ends_written v w i task c c2 st y
        | inr y ↦ ends_frozen v w i task c c2 st y.drops
      ]
      | inr y ↦ ends_frozen v w i task c c2 st y
    ]
