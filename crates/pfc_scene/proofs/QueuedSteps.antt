-- What a client's step on a core keeps of the write queue.
use Rattle.std.proofs.Common.{◌≡◌, inl, inr, ℕ, ◌+◌, ◌<◌, ◌≤◌, List, [], ◌∷◌, ◌++◌, length, get_or, set, sum_by, refl, subst, sym, ap, ◌∙◌, arith, Bool, true, false, ◌==◌, ◌&&◌, Option, Some, None}
use Rattle.std.specs.Prelude.{IfSome}
use mathlib.Core.Logic.{dite}
use native.Mathlib.Decide.{ℕ_discrete}
use Rattle.std.proofs.lemmas.List.{length-set, get_or-set_same, get_or-set_other}
use Rattle.std.proofs.lemmas.List.Sums.{sum_by-set, sum_by-le-sum_by, get_or-le-sum_by}
use Rattle.pfc_log.specs.declared.entry.DropCause.{DropCause}
use Rattle.pfc_log.specs.declared.entry.DropCause.TheVariants as cause
use Rattle.pfc_log.specs.declared.entry.Entry.TheVariants.{Dropped}
use Rattle.pfc_log.specs.Views.{Here, place, times}
use Rattle.pfc_log.proofs.Places.{eq_self}
use Rattle.pfc_log.specs.Waiting.{is_frozen_cause, is_worked, Begins, FoundFull}
use Rattle.pfc_log.proofs.Earlier.{earlier_at, found_later}
use Rattle.pfc_core.specs.Calls.{foreign, Drops}
use Rattle.pfc_core.specs.Leaves.{pins_on}
use Rattle.pfc_core.specs.Marks.{Mark, JobKind, kind_code, Loses}
use Rattle.pfc_core.specs.View.{CoreView}
use Rattle.pfc_core.specs.OpenJobs.{is_job_mark, a_job, job_of, astray, settled}
use Rattle.pfc_actor.specs.Steps.{full_in, GrowsBy, StaysFull, Step}
use Rattle.pfc_actor.specs.Clients.{ClientView, holds}
use Rattle.pfc_scene.specs.Queues.{logs_of, settled_in, IsFullFor, IsDroppedFor, AreQueued}
use Rattle.pfc_scene.specs.Scenes.{SceneView, IsCore, IsScene, beside}
use Rattle.pfc_scene.proofs.Casts.{stays_by}
use Rattle.pfc_scene.proofs.Growing.{bit, only, none, Grows, grows_dropped, grows_either, grows_plainly, grows_same, room_for}
use Rattle.pfc_scene.proofs.QueuedCores.{Later, drops_later, idle_none, idle_only, in_none_more, in_only_more, log_at, logs_later, settled_none, settled_only, settled_set, stage_later, stays_self, waits_here, worked_on}
use Rattle.pfc_scene.proofs.Weighing.{of_core, of_yes, held_at, in_own, own_instance, sum_le_add, sum_own}

-- ---- a core of the scene

pub core_at : (v : SceneView) (i : ℕ) (c : CoreView) → IsScene v → i < length v.cores → c ≡ get_or v.cores i c → IsCore v.block_size i c
core_at v i c s li ec = subst (IsCore v.block_size i) (sym ec) (s.cast.places i c li)

-- what it gave out is held by someone
pub held_here : (v : SceneView) (i : ℕ) (c : CoreView) (w : Mark → ℕ) → IsScene v → i < length v.cores → c ≡ get_or v.cores i c → sum_by (holds (of_core c.instance w)) v.clients + beside (of_core c.instance w) v ≡ sum_by w c.out
held_here v i c w s li ec =
    subst (λ n. sum_by (holds (of_core n w)) v.clients + beside (of_core n w) v ≡ sum_by w c.out) (sym (core_at v i c s li ec).instance_is) (held_at v.block_size (λ x. beside x v) v.clients v.cores i c w s.cast li ec)

-- what is settled of it
pub settled_at : (v : SceneView) (i : ℕ) (c : CoreView) (m : Mark) → IsScene v → i < length v.cores → c ≡ get_or v.cores i c → m.instance ≡ c.instance → settled_in v.cores m ≡ settled c m
settled_at v i c m s li ec e = in_own settled v.block_size v.cores i c m s.cast.places li ec (e ∙ (core_at v i c s li ec).instance_is)

-- and of another in its place
pub settled_now : (v : SceneView) (i : ℕ) (c c2 : CoreView) (m : Mark) → IsScene v → i < length v.cores → c ≡ get_or v.cores i c → c2.instance ≡ c.instance → m.instance ≡ c.instance → settled_in (set v.cores i c2) m ≡ settled c2 m
settled_now v i c c2 m s li ec same e =
    let sum = settled_set v.cores i c c2 m li ec in let was = settled_at v i c m s li ec e in
    let before = of_yes c.instance (settled c) m (sym e) in let after = of_yes c2.instance (settled c2) m (same ∙ sym e) in omega (arith, sum, was, before, after)

-- ---- a job

pub job_self : (m : Mark) → job_of m.block m ≡ a_job m
job_self m = ap (λ (q : Bool). bit (is_job_mark m && q)) (eq_self m.block) ∙ and_true (is_job_mark m)
  where
    and_true : (q : Bool) → bit (q && true) ≡ bit q
    and_true true = refl
    and_true false = refl

pub kind_job : (m : Mark) → m.kind ≡ JobKind → is_job_mark m ≡ true
kind_job m job = ap (λ k. kind_code k == kind_code JobKind) job

pub one_job : (m : Mark) → is_job_mark m ≡ true → a_job m ≡ 1
one_job m job = ap bit job

-- what comes back to a core is its own
pub own_lost : (c : CoreView) (out : List Mark) (m : Mark) → Loses c.out m out → sum_by (foreign c) c.out ≡ 0 → m.instance ≡ c.instance
own_lost c out m loses own = let l = loses (foreign c) in own_instance c m (omega (arith, l, own))

-- how a log grows by a drop
pub dropped_grows : (c c2 : CoreView) (job : Mark) (why : DropCause) → Drops c job why c2 → Grows (only job.block) (bit (is_frozen_cause why)) (room_for job.block why) c.entries c2.entries
dropped_grows c c2 job why drops =
    subst (Grows (only job.block) (bit (is_frozen_cause why)) (room_for job.block why) c.entries) (sym (ap (λ (x : CoreView). x.entries) drops.enters))
    (grows_either (only job.block) (bit (is_frozen_cause why)) (room_for job.block why) c.entries (c.entries ++ Dropped job.block why ∷ []) job.block (0 == pins_on job.block job.flight c.out) (grows_dropped c.entries job.block why))

-- ---- a client steps on a core

fewer : (w : Mark → ℕ) (clients : List ClientView) (j : ℕ) (a a2 : ClientView) → j < length clients → a ≡ get_or clients j a → holds w a2 ≤ holds w a → sum_by (holds w) (set clients j a2) ≤ sum_by (holds w) clients
fewer w clients j a a2 lj ea le = let l = sum_by-set (holds w) clients j a2 a lj in let at = ap (holds w) ea in omega (arith, l, at, le)

stages_on : (capacity : ℕ) (clients : List ClientView) (j : ℕ) (a a2 : ClientView) (cores cores2 : List CoreView) → j < length clients → a ≡ get_or clients j a → StaysFull a.stage a2.stage →
    Later clients (set clients j a2) cores cores2 → ((x : ℕ) (d : ClientView) → x < length clients → IfSome (full_in (get_or clients x d).stage) (IsFullFor capacity clients cores)) →
    (x : ℕ) (d : ClientView) → x < length (set clients j a2) → IfSome (full_in (get_or (set clients j a2) x d).stage) (IsFullFor capacity (set clients j a2) cores2)
stages_on capacity clients j a a2 cores cores2 lj ea stays later was x d lx = let long = length-set clients j a2 in
    dite (ℕ_discrete x j)
    (λ e. let at = subst (λ y. get_or (set clients j a2) y d ≡ a2) (sym e) (get_or-set_same clients j a2 d lj) in
    subst (λ (y : ClientView). IfSome (full_in y.stage) (IsFullFor capacity (set clients j a2) cores2)) (sym at)
    (stage_later capacity clients (set clients j a2) cores cores2 a.stage a2.stage later stays (subst (λ (y : ClientView). IfSome (full_in y.stage) (IsFullFor capacity clients cores)) (sym ea) (was j a lj))))
    (λ far. let at = get_or-set_other clients j x a2 d far in
    subst (λ (y : ClientView). IfSome (full_in y.stage) (IsFullFor capacity (set clients j a2) cores2)) (sym at)
    (stage_later capacity clients (set clients j a2) cores cores2 (get_or clients x d).stage (get_or clients x d).stage later (stays_self (get_or clients x d).stage) (was x d (omega (arith, lx, long)))))

-- what there is to know where a client steps
record StepsOn (v : SceneView) (j i : ℕ) (a a2 : ClientView) (c c2 : CoreView) : Type 0 where
  scene : IsScene v
  client_low : j < length v.clients
  core_low : i < length v.cores
  client_is : a ≡ get_or v.clients j a
  core_is : c ≡ get_or v.cores i c
  step : Step a.book a.line a.stage c a2.book a2.line a2.stage c2
  own : sum_by (foreign c2) c2.out ≡ 0
  fresh : sum_by (settled c2) c2.out ≤ sum_by (settled c2) c.out

instance_of : (v : SceneView) (j i : ℕ) (a a2 : ClientView) (c c2 : CoreView) → StepsOn v j i a a2 c c2 → c2.instance ≡ c.instance
instance_of v j i a a2 c c2 st = (stays_by c c2 st.step.home).instance_is

later_on : (v : SceneView) (j i : ℕ) (a a2 : ClientView) (c c2 : CoreView) (turns : ℕ → ℕ) (n : ℕ) (full : Option (ℕ × ℕ)) → StepsOn v j i a a2 c c2 → Grows turns n full c.entries c2.entries →
    sum_by (settled c2) c2.out + times is_worked c.entries ≤ sum_by (settled c) c.out + times is_worked c2.entries → Later v.clients (set v.clients j a2) v.cores (set v.cores i c2)
later_on v j i a a2 c c2 turns n full st g le = record {
  worked = λ m. worked_on m v.clients v.cores j i a a2 c c2 st.client_low st.core_low st.client_is st.core_is (st.step.tokens a_job) le;
  logs = logs_later v.cores i c c2 st.core_low st.core_is g.begins;
}

-- the jobs of the queue and the causes
steps_queued : (v : SceneView) (j i : ℕ) (a a2 : ClientView) (c c2 : CoreView) (turns : ℕ → ℕ) (n : ℕ) (full : Option (ℕ × ℕ)) → StepsOn v j i a a2 c c2 → Grows turns n full c.entries c2.entries →
    Later v.clients (set v.clients j a2) v.cores (set v.cores i c2) → sum_by (holds (settled_in (set v.cores i c2))) (set v.clients j a2) + sum_by (settled_in (set v.cores i c2)) v.jobs ≡ 0 →
    ((k room : ℕ) → full ≡ Some (k, room) → IsDroppedFor v.capacity (set v.clients j a2) (set v.cores i c2) i k room c.entries) →
    AreQueued v.capacity (set v.clients j a2) (set v.cores i c2) v.backings v.writers v.jobs
steps_queued v j i a a2 c c2 turns n full st g later idle new = record {
  kinds = st.scene.queued.kinds;
  idle = idle;
  works = st.scene.queued.works;
  returned = st.scene.queued.returned;
  stages = stages_on v.capacity v.clients j a a2 v.cores (set v.cores i c2) st.client_low st.client_is st.step.full later st.scene.queued.stages;
  drops = drops_later v.capacity n turns full v.clients (set v.clients j a2) v.cores i c c2 st.core_low st.core_is g later new st.scene.queued.drops;
}

-- no block was written or dropped
steps_plain : (v : SceneView) (j i : ℕ) (a a2 : ClientView) (c c2 : CoreView) → StepsOn v j i a a2 c c2 → Grows none 0 None c.entries c2.entries → AreQueued v.capacity (set v.clients j a2) (set v.cores i c2) v.backings v.writers v.jobs
steps_plain v j i a a2 c c2 st g =
    let same = instance_of v j i a a2 c c2 st in let core = core_at v i c st.scene st.core_low st.core_is in
    let now = settled_in (set v.cores i c2) in
    let after : sum_by now c2.out ≡ sum_by (settled c2) c2.out =
    sum_own (foreign c2) now (settled c2) c2.out st.own (λ m own. settled_now v i c c2 m st.scene st.core_low st.core_is same (own_instance c2 m own ∙ same)) in
    let before : sum_by now c.out ≡ sum_by (settled c2) c.out =
    sum_own (foreign c) now (settled c2) c.out core.own (λ m own. settled_now v i c c2 m st.scene st.core_low st.core_is same (own_instance c m own)) in
    let less = sum_by-le-sum_by (settled c2) (settled c) c.out (settled_none 0 None c c2 g) in let fresh = st.fresh in let worked = g.worked in
    let tokens = st.step.tokens now in
    steps_queued v j i a a2 c c2 none 0 None st g
    (later_on v j i a a2 c c2 none 0 None st g (omega (arith, less, fresh, worked)))
    (idle_none (settled_in v.cores) now v.clients (set v.clients j a2) v.jobs (in_none_more v.cores i c c2 st.core_low st.core_is same (settled_none 0 None c c2 g))
    (fewer now v.clients j a a2 st.client_low st.client_is (omega (arith, after, before, fresh, tokens))) st.scene.queued.idle)
    (λ k room e. absurd cc)

-- ---- a client that found the queue full drops its job

-- a job that a client holds is settled nowhere
held_idle : (v : SceneView) (j : ℕ) (a : ClientView) (m : Mark) → IsScene v → j < length v.clients → a ≡ get_or v.clients j a → settled_in v.cores m ≤ holds (settled_in v.cores) a → settled_in v.cores m ≡ 0
held_idle v j a m s lj ea held =
    let le = get_or-le-sum_by (holds (settled_in v.cores)) v.clients j a lj in let at = ap (holds (settled_in v.cores)) ea in let idle = s.queued.idle in omega (arith, le, at, idle, held)

-- how it found the queue full
full_of : (v : SceneView) (j : ℕ) (a : ClientView) (full : Mark × ℕ) → IsScene v → j < length v.clients → a ≡ get_or v.clients j a → full_in a.stage ≡ Some full → IsFullFor v.capacity v.clients v.cores full
full_of v j a full s lj ea is =
    subst (λ (o : Option (Mark × ℕ)). IfSome o (IsFullFor v.capacity v.clients v.cores)) is
    (subst (λ (x : ClientView). IfSome (full_in x.stage) (IsFullFor v.capacity v.clients v.cores)) (sym ea) (s.queued.stages j a lj))

-- what there is to know of the drop
record DropsOn (v : SceneView) (j i : ℕ) (a a2 : ClientView) (c c2 : CoreView) (full : Mark × ℕ) : Type 0 where
  steps : StepsOn v j i a a2 c c2
  found : IsFullFor v.capacity v.clients v.cores full
  job : is_job_mark full.0 ≡ true
  drops : Drops c full.0 (cause.Full full.1) c2
  loses : (w : Mark → ℕ) → holds w a2 + w full.0 ≡ holds w a

drop_instance : (v : SceneView) (j i : ℕ) (a a2 : ClientView) (c c2 : CoreView) (full : Mark × ℕ) → DropsOn v j i a a2 c c2 full → full.0.instance ≡ c.instance
drop_instance v j i a a2 c c2 full d = own_lost c c2.out full.0 d.drops.loses (core_at v i c d.steps.scene d.steps.core_low d.steps.core_is).own

-- no other job of the block is out
drop_gone : (v : SceneView) (j i : ℕ) (a a2 : ClientView) (c c2 : CoreView) (full : Mark × ℕ) → DropsOn v j i a a2 c c2 full → sum_by (job_of full.0.block) c2.out ≡ 0
drop_gone v j i a a2 c c2 full d =
    let once = (core_at v i c d.steps.scene d.steps.core_low d.steps.core_is).jobs.once full.0.block in let l = d.drops.loses (job_of full.0.block) in
    let self = job_self full.0 in let one = one_job full.0 d.job in omega (arith, once, l, self, one)

drop_grows : (v : SceneView) (j i : ℕ) (a a2 : ClientView) (c c2 : CoreView) (full : Mark × ℕ) → DropsOn v j i a a2 c c2 full → Grows (only full.0.block) 0 (Some (full.0.block, full.1)) c.entries c2.entries
drop_grows v j i a a2 c c2 full d = dropped_grows c c2 full.0 (cause.Full full.1) d.drops

-- it waited until then
drop_waits : (v : SceneView) (j i : ℕ) (a a2 : ClientView) (c c2 : CoreView) (full : Mark × ℕ) → DropsOn v j i a a2 c c2 full → place full.0.block c.entries ≡ Here full.0.flight false
drop_waits v j i a a2 c c2 full d =
    let here = (core_at v i c d.steps.scene d.steps.core_low d.steps.core_is).jobs.here in let l = d.drops.loses (astray c) in
    let held = d.loses (settled_in v.cores) in
    let idle = held_idle v j a full.0 d.steps.scene d.steps.client_low d.steps.client_is (omega (arith, held)) in
    let at = settled_at v i c full.0 d.steps.scene d.steps.core_low d.steps.core_is (drop_instance v j i a a2 c c2 full d) in
    waits_here c full.0 d.job (omega (arith, here, l)) (sym at ∙ idle)

-- so it has its cause
drop_cause : (v : SceneView) (j i : ℕ) (a a2 : ClientView) (c c2 : CoreView) (full : Mark × ℕ) → DropsOn v j i a a2 c c2 full → Later v.clients (set v.clients j a2) v.cores (set v.cores i c2) →
    IsDroppedFor v.capacity (set v.clients j a2) (set v.cores i c2) i full.0.block full.1 c.entries
drop_cause v j i a a2 c c2 full d later =
    let core = core_at v i c d.steps.scene d.steps.core_low d.steps.core_is in
    let found : FoundFull full.1 i full.0.block full.0.flight (logs_of v.cores) =
    subst (λ x. FoundFull full.1 x full.0.block full.0.flight (logs_of v.cores)) (drop_instance v j i a a2 c c2 full d ∙ core.instance_is) d.found.found in record {
      capacity_is = d.found.capacity_is;
      worked = later.worked full.1 d.found.worked;
      was = record {
        flight = full.0.flight;
        found = found_later full.1 i full.0.block full.0.flight (logs_of v.cores) (logs_of (set v.cores i c2)) later.logs found;
        since = λ es. subst (Begins (get_or found.past i es)) (log_at v.cores i c es d.steps.core_low d.steps.core_is) (earlier_at found.past (logs_of v.cores) i es found.earlier found.low);
        stays = drop_waits v j i a a2 c c2 full d;
      };
    }

by_pair : (P : ℕ → ℕ → Type 0) (a b k c : ℕ) → ◌≡◌ {A = Option (ℕ × ℕ)} (Some (a, b)) (Some (k, c)) → P a b → P k c
by_pair P a b k c e h = subst (λ (o : Option (ℕ × ℕ)). IfSome o (λ x. P x.0 x.1)) e h

steps_drop : (v : SceneView) (j i : ℕ) (a a2 : ClientView) (c c2 : CoreView) (full : Mark × ℕ) → DropsOn v j i a a2 c c2 full → AreQueued v.capacity (set v.clients j a2) (set v.cores i c2) v.backings v.writers v.jobs
steps_drop v j i a a2 c c2 full d =
    let st = d.steps in let k = full.0.block in let g = drop_grows v j i a a2 c c2 full d in
    let same = instance_of v j i a a2 c c2 st in let core = core_at v i c st.scene st.core_low st.core_is in
    let gone = drop_gone v j i a a2 c c2 full d in
    let more = sum_le_add (settled c2) (settled c) (job_of k) c2.out (settled_only k 0 (Some (k, full.1)) c c2 g) in let lost = d.drops.loses (settled c) in let worked = g.worked in
    let later = later_on v j i a a2 c c2 (only k) 0 (Some (k, full.1)) st g (omega (arith, more, gone, lost, worked)) in
    let was = settled_in v.cores in let mine = of_core c.instance (job_of k) in
    let held = held_here v i c (job_of k) st.scene st.core_low st.core_is in let once = core.jobs.once k in
    let set_mine = sum_by-set (holds mine) v.clients j a2 a st.client_low in let at_mine = ap (holds mine) st.client_is in let less_mine = d.loses mine in
    let one : mine full.0 ≡ 1 = of_yes c.instance (job_of k) full.0 (sym (drop_instance v j i a a2 c c2 full d)) ∙ job_self full.0 ∙ one_job full.0 d.job in
    let less = d.loses was in
    steps_queued v j i a a2 c c2 (only k) 0 (Some (k, full.1)) st g later
    (idle_only was (settled_in (set v.cores i c2)) mine v.clients (set v.clients j a2) v.jobs (in_only_more k v.cores i c c2 st.core_low st.core_is same (settled_only k 0 (Some (k, full.1)) c c2 g))
    (fewer was v.clients j a a2 st.client_low st.client_is (omega (arith, less)))
    (omega (arith, held, once, set_mine, at_mine, less_mine, one)) st.scene.queued.idle)
    (λ x room e. by_pair (λ y z. IsDroppedFor v.capacity (set v.clients j a2) (set v.cores i c2) i y z c.entries) k full.1 x room e (drop_cause v j i a a2 c c2 full d later))

by_stage : (v : SceneView) (j i : ℕ) (a a2 : ClientView) (c c2 : CoreView) → StepsOn v j i a a2 c c2 → (o : Option (Mark × ℕ)) → full_in a.stage ≡ o → GrowsBy o c c2 →
    AreQueued v.capacity (set v.clients j a2) (set v.cores i c2) v.backings v.writers v.jobs
by_stage v j i a a2 c c2 st None is grows = steps_plain v j i a a2 c c2 st (grows_plainly c.entries c2.entries grows)
by_stage v j i a a2 c c2 st (Some full) is (inl same) = steps_plain v j i a a2 c c2 st (subst (λ (x : CoreView). Grows none 0 None c.entries x.entries) (sym same) (grows_same c.entries))
by_stage v j i a a2 c c2 st (Some full) is (inr drops) =
    let found = full_of v j a full st.scene st.client_low st.client_is is in
    steps_drop v j i a a2 c c2 full (record {
      steps = st;
      found = found;
      job = kind_job full.0 found.job;
      drops = drops;
      loses = λ w. let t = st.step.tokens w in let l = drops.loses w in omega (arith, t, l);
    })

-- A client steps on a core. It gives out no job whose block was written or dropped.
pub on_queued : (v : SceneView) (j i : ℕ) (a a2 : ClientView) (c c2 : CoreView) → IsScene v → j < length v.clients → i < length v.cores → a ≡ get_or v.clients j a → c ≡ get_or v.cores i c → Step a.book a.line a.stage c a2.book a2.line a2.stage c2 →
    sum_by (foreign c2) c2.out ≡ 0 → sum_by (settled c2) c2.out ≤ sum_by (settled c2) c.out → AreQueued v.capacity (set v.clients j a2) (set v.cores i c2) v.backings v.writers v.jobs
on_queued v j i a a2 c c2 s lj li ea ec st own fresh =
    by_stage v j i a a2 c c2 (record { scene = s; client_low = lj; core_low = li; client_is = ea; core_is = ec; step = st; own = own; fresh = fresh }) (full_in a.stage) refl st.grows
