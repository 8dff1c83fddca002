-- A job is put to the queue, or finds no room there.
use Rattle.std.proofs.Common.{◌≡◌, ◌⊎◌, ⊎_elim, ℕ, suc, ◌+◌, ◌<◌, ◌≤◌, List, [], ◌∷◌, length, map, take, get_or, set, sum_by, refl, subst, sym, ap, ◌∙◌, arith, Bool, true, false, ◌&&◌, ◌==◌, eq-eqb, if◌then◌else◌}
use Rattle.std.specs.Prelude.{not, Option, Some, IfSome}
use Rattle.std.proofs.lemmas.Bool.{eqb-true}
use Rattle.std.proofs.lemmas.List.{length-map, get_or-map, get_or_default}
use Rattle.std.proofs.lemmas.List.Sums.{sum_by-set, sum_by-cons, sum_by-le-sum_by, get_or-le-sum_by}
use Rattle.pfc_log.specs.Views.{Place, Away, Flying, Here, bound, place}
use Rattle.pfc_log.proofs.Places.{by_bool}
use Rattle.pfc_log.specs.Waiting.{waiting}
use Rattle.pfc_log.proofs.Earlier.{earlier_same}
use Rattle.pfc_core.specs.Leaves.{is_done_at, is_here_at}
use Rattle.pfc_core.specs.Marks.{JobKind, Mark, kind_code, sees}
use Rattle.pfc_core.specs.View.{CoreView}
use Rattle.pfc_core.specs.OpenJobs as jobs
use Rattle.pfc_writer.specs.Queue.{QueueView}
use Rattle.pfc_writer.specs.Writer.{work_weight}
use Rattle.pfc_actor.specs.StageView as st
use Rattle.pfc_actor.specs.StageView.{StageView}
use Rattle.pfc_actor.specs.Stages.{stage_weight}
use Rattle.pfc_actor.specs.Steps.{FindsFull, Puts, full_in}
use Rattle.pfc_actor.specs.Clients.{ClientView, holds}
use Rattle.pfc_scene.specs.Queues.{AreQueued, IsFullFor, logs_of, progress, settled_in}
use Rattle.pfc_scene.specs.Scenes.{SceneView, IsCore, IsScene, beside, lent_of, lists}
use Rattle.pfc_scene.proofs.Casts.{below_or, no_core, there}
use Rattle.pfc_scene.proofs.Queued.{Follows, dropped_on, full_on, fulls_on, some_then, stages_set}
use Rattle.pfc_scene.proofs.Weighing.{held_at, in_none, in_own, lists_in, loan_le, of_core, of_yes, settled_least, sum_add, sum_rows, sum_settled, work_le}

-- ---- sums

-- each term is no more
pub sum_most : {X : Type 0} (f h : X → ℕ) (xs : List X) (d : X) → ((i : ℕ) → i < length xs → f (get_or xs i d) ≤ h (get_or xs i d)) → sum_by f xs ≤ sum_by h xs
sum_most f h [] d le = omega arith
sum_most f h (x ∷ xs) d le = let here = le 0 (omega arith) in let rest = sum_most f h xs d (λ i l. le (suc i) (omega (arith, l))) in omega (arith, sum_by-cons f x xs, sum_by-cons h x xs, here, rest)

-- the terms of other elements
pub sum_map : {X Y : Type 0} (w : Y → ℕ) (f : X → Y) (xs : List X) → sum_by w (map f xs) ≡ sum_by (λ x. w (f x)) xs
sum_map w f [] = refl
sum_map w f (x ∷ xs) = sum_by-cons w (f x) (map f xs) ∙ ap (λ n. w (f x) + n) (sum_map w f xs) ∙ sym (sum_by-cons (λ y. w (f y)) x xs)

-- ---- jobs of blocks that are done, or wait

-- the cores stand at their numbers
abbrev pub ArePlaced : ℕ → List CoreView → Type 0
ArePlaced k cores = (i : ℕ) (d : CoreView) → i < length cores → IsCore k i (get_or cores i d)

-- a job is done where its core says so
settled_at : (k : ℕ) (cores : List CoreView) (i : ℕ) (d : CoreView) (m : Mark) → ArePlaced k cores → i < length cores → m.instance ≡ i → settled_in cores m ≡ jobs.settled (get_or cores i d) m
settled_at k cores i d m places li here = in_own jobs.settled k cores i (get_or cores i d) m places li (get_or_default cores i d (get_or cores i d) li) here

settled_most : (k : ℕ) (cores : List CoreView) → ArePlaced k cores → (m : Mark) → settled_in cores m ≤ jobs.a_job m
settled_most k cores places m =
    ⊎_elim
    (λ l. let at = settled_at k cores m.instance no_core m places l refl in let most = settled_least (get_or cores m.instance no_core) m in omega (arith, at, most))
    (λ far. let none = in_none jobs.settled k cores no_core m places far in omega (arith, none))
    (below_or m.instance (length cores))

-- how many jobs of a core are of blocks that wait
abbrev pub unsettled_out : CoreView → ℕ
unsettled_out c = sum_by (jobs.unsettled c) c.out

abbrev settled_out : CoreView → ℕ
settled_out c = sum_by (jobs.settled c) c.out

all_jobs : (k : ℕ) (cores : List CoreView) → ArePlaced k cores → sum_by (lists jobs.a_job) cores ≡ sum_by (lists (settled_in cores)) cores + sum_by unsettled_out cores
all_jobs k cores places =
    let parts = sum_rows (λ c. settled_out c + unsettled_out c) (lists jobs.a_job) cores no_core (λ i li. sum_settled (get_or cores i no_core) (get_or cores i no_core).out) in
    let both = sum_add settled_out unsettled_out cores in let done = lists_in jobs.settled k cores no_core places in omega (arith, parts, both, done)

-- the jobs of clients and of the queue are of blocks that wait
pub waiting_jobs : (v : SceneView) → IsScene v → sum_by (holds jobs.a_job) v.clients + sum_by jobs.a_job v.jobs ≤ sum_by unsettled_out v.cores
waiting_jobs v s =
    let all = s.cast.tokens jobs.a_job in let done = s.cast.tokens (settled_in v.cores) in let most = settled_most v.block_size v.cores s.cast.places in
    let loans = sum_by-le-sum_by (lent_of (settled_in v.cores)) (lent_of jobs.a_job) v.backings (λ b. loan_le (settled_in v.cores) jobs.a_job most b.stand) in
    let works = sum_by-le-sum_by (work_weight (settled_in v.cores)) (work_weight jobs.a_job) v.writers (work_le (settled_in v.cores) jobs.a_job most) in
    let parts = all_jobs v.block_size v.cores s.cast.places in let idle = s.queued.idle in omega (arith, all, done, loans, works, parts, idle)

-- ---- a job that finds no room

-- who found the queue full holds the job
full_weighs : (w : Mark → ℕ) (s : StageView) (full : Mark × ℕ) → full_in s ≡ Some full → w full.0 ≤ stage_weight w s
full_weighs w (st.Full op job capacity) full is = let same : (job, capacity) ≡ full = cc in let at = ap (λ (x : Mark × ℕ). w x.0) same in omega (arith, at)
full_weighs w st.Rest full is = absurd cc
full_weighs w (st.Wanted wanted) full is = absurd cc
full_weighs w (st.Making wanted) full is = absurd cc
full_weighs w (st.Joining wanted) full is = absurd cc
full_weighs w (st.Planning number pieces) full is = absurd cc
full_weighs w (st.Closing number) full is = absurd cc
full_weighs w st.Closed full is = absurd cc
full_weighs w (st.Reading op) full is = absurd cc
full_weighs w (st.Landed op job) full is = absurd cc
full_weighs w (st.Running op ticket) full is = absurd cc
full_weighs w (st.Directing op leave) full is = absurd cc
full_weighs w (st.Looking op pin part) full is = absurd cc
full_weighs w (st.Loading op disk part) full is = absurd cc
full_weighs w (st.Borrowing op disk part) full is = absurd cc
full_weighs w (st.Loaded op disk) full is = absurd cc
full_weighs w (st.Refused op disk part) full is = absurd cc
full_weighs w (st.Broken op disk part) full is = absurd cc
full_weighs w (st.Ending op) full is = absurd cc

pub full_held : (w : Mark → ℕ) (a : ClientView) (full : Mark × ℕ) → full_in a.stage ≡ Some full → w full.0 ≤ holds w a
full_held w a full is = let at = full_weighs w a.stage full is in omega (arith, at)

waits_by : (job : Bool) (t : ℕ) (p : Place) → job ≡ true → ◌≡◌ {A = ℕ} (if job && not (is_here_at t p) then 1 else 0) 0 → ◌≡◌ {A = ℕ} (if job && is_done_at t p then 1 else 0) 0 → p ≡ Here t false
waits_by false t p is here idle = absurd cc
waits_by true t Away is here idle = absurd (omega (arith, here))
waits_by true t (Flying u n) is here idle = absurd (omega (arith, here))
waits_by true t (Here u done) is here idle = by_bool (u == t)
    (λ yes. let flight : u ≡ t = eqb-true u t yes in by_bool done
    (λ over. let one : ◌≡◌ {A = ℕ} (if (u == t) && done then 1 else 0) 1 = rw (yes, over) refl in absurd (omega (arith, one, idle)))
    (λ not_yet. ap (λ n. Here n done) flight ∙ ap (Here t) not_yet))
    (λ no. let one : ◌≡◌ {A = ℕ} (if not (u == t) then 1 else 0) 1 = rw no refl in absurd (omega (arith, one, here)))

-- the block of a job that a client holds waits
pub held_waits : (v : SceneView) (j i : ℕ) (a : ClientView) (d : CoreView) (job : Mark) → IsScene v → j < length v.clients → a ≡ get_or v.clients j a → ((w : Mark → ℕ) → w job ≤ holds w a) → job.kind ≡ JobKind → job.instance ≡ i → i < length v.cores →
    place job.block (get_or v.cores i d).entries ≡ Here job.flight false
held_waits v j i a d job s lj ea held kind here li =
    let c = get_or v.cores i d in let is = s.cast.places i d li in
    let w : Mark → ℕ = of_core i (jobs.astray c) in
    let all = held_at v.block_size (λ f. beside f v) v.clients v.cores i c (jobs.astray c) s.cast li (get_or_default v.cores i d c li) in let none = is.jobs.here in
    let le = get_or-le-sum_by (holds w) v.clients j a lj in let at_j = ap (holds w) ea in let mine = held w in let same = of_yes i (jobs.astray c) job (sym here) in
    let astray : jobs.astray c job ≡ 0 = omega (arith, all, le, at_j, mine, none, same) in
    let idle = s.queued.idle in let le2 = get_or-le-sum_by (holds (settled_in v.cores)) v.clients j a lj in let at2 = ap (holds (settled_in v.cores)) ea in let mine2 = held (settled_in v.cores) in
    let done = settled_at v.block_size v.cores i d job s.cast.places li here in
    let settled : jobs.settled c job ≡ 0 = omega (arith, idle, le2, at2, mine2, done) in
    let is_job : jobs.is_job_mark job ≡ true = eq-eqb _ _ (ap kind_code kind) in
    waits_by (jobs.is_job_mark job) job.flight (place job.block c.entries) is_job astray settled

-- as many blocks wait as jobs are of such
blocks_wait : (k : ℕ) (cores : List CoreView) → ArePlaced k cores → sum_by unsettled_out cores ≤ sum_by (waiting (sum_by (λ (c : CoreView). bound c.first) cores)) (logs_of cores)
blocks_wait k cores places =
    let below = sum_by (λ (c : CoreView). bound c.first) cores in
    let le = sum_most unsettled_out (λ (c : CoreView). waiting below c.entries) cores no_core (λ i li. (places i no_core li).jobs.waits below (get_or-le-sum_by (λ (c : CoreView). bound c.first) cores i no_core li)) in
    let logs = sum_map (waiting below) (λ (c : CoreView). c.entries) cores in omega (arith, le, logs)

-- where a client finds no room, it and the queue's jobs are the cause
pub found_full : (v : SceneView) (j : ℕ) (a : ClientView) (full : Mark × ℕ) → IsScene v → j < length v.clients → a ≡ get_or v.clients j a → ((w : Mark → ℕ) → w full.0 ≤ holds w a) → full.0.kind ≡ JobKind → full.1 ≡ v.capacity → v.capacity ≤ length v.jobs →
    IsFullFor v.capacity v.clients v.cores full
found_full v j a full s lj ea held kind is many =
    let job = full.0 in
    let all = waiting_jobs v s in let kinds = s.queued.kinds in
    let low : job.instance < length v.cores = there v.block_size (λ w. beside w v) v.clients v.cores j a job no_core s.cast lj ea (held (sees job)) in
    let one : jobs.a_job job ≡ 1 = ap {B = ℕ} (λ (q : Bool). if q then 1 else 0) (eq-eqb _ _ (ap kind_code kind)) in
    let mine = held jobs.a_job in let le = get_or-le-sum_by (holds jobs.a_job) v.clients j a lj in let at_j = ap (holds jobs.a_job) ea in
    let wait = blocks_wait v.block_size v.cores s.cast.places in
    let more = sum_by-le-sum_by unsettled_out progress v.cores (λ c. omega arith) in
    let long = length-map v.cores (λ (c : CoreView). c.entries) in record {
      job = kind;
      capacity_is = is;
      worked = omega (arith, all, kinds, is, many, more);
      found = record {
        past = logs_of v.cores;
        earlier = earlier_same (logs_of v.cores);
        low = omega (arith, low, long);
        waits = λ d. ap (place job.block) (get_or-map (λ (c : CoreView). c.entries) v.cores job.instance no_core d low) ∙ held_waits v j job.instance a no_core job s lj ea held kind refl low;
        below = sum_by (λ (c : CoreView). bound c.first) v.cores;
        full = omega (arith, all, kinds, is, many, mine, le, at_j, one, wait);
      };
    }

-- ---- a client puts a job to the queue, or finds no room there

pub put_queued : (v : SceneView) (j : ℕ) (a a2 : ClientView) (q2 : QueueView) → IsScene v → j < length v.clients → a ≡ get_or v.clients j a → Puts a.book a.line a.stage (record { jobs = v.jobs; capacity = v.capacity }) a2.book a2.line a2.stage q2 →
    AreQueued q2.capacity (set v.clients j a2) v.cores v.backings v.writers q2.jobs
put_queued v j a a2 q2 s lj ea puts =
    let q : QueueView = record { jobs = v.jobs; capacity = v.capacity } in let clients2 = set v.clients j a2 in let was = s.queued in
    let kinds = puts.jobs was.kinds in
    let all = sum_by-set (holds jobs.a_job) v.clients j a2 a lj in let at_j = ap (holds jobs.a_job) ea in let t = puts.tokens jobs.a_job in let more = puts.more in let before = was.kinds in
    let f : Follows v.clients clients2 v.cores v.cores = record { worked = λ n h. omega (arith, h, all, at_j, t, more, before, kinds); logs = earlier_same (logs_of v.cores) } in
    subst (λ n. AreQueued n clients2 v.cores v.backings v.writers q2.jobs) (sym puts.capacity) (record {
      kinds = kinds;
      idle = let idle = was.idle in let done = sum_by-set (holds (settled_in v.cores)) v.clients j a2 a lj in let at2 = ap (holds (settled_in v.cores)) ea in let t2 = puts.tokens (settled_in v.cores) in omega (arith, idle, done, at2, t2);
      works = was.works;
      returned = was.returned;
      stages = stages_set v.clients j a2 (IsFullFor v.capacity clients2 v.cores) lj
          (some_then (full_in a2.stage) (λ full. (full_in a.stage ≡ Some full × (q2 ≡ q)) ⊎ FindsFull full q q2) (IsFullFor v.capacity clients2 v.cores) puts.full
          (λ full now. ⊎_elim
          (λ old. full_on v.capacity v.clients clients2 v.cores v.cores full f
          (subst (λ (o : Option (Mark × ℕ)). IfSome o (IsFullFor v.capacity v.clients v.cores)) old.0 (subst (λ (x : ClientView). IfSome (full_in x.stage) (IsFullFor v.capacity v.clients v.cores)) (sym ea) (was.stages j a lj))))
          (λ finds. full_on v.capacity v.clients clients2 v.cores v.cores full f
          (found_full v j a full s lj ea
          (λ w. let mine = full_held w a2 full now in let tokens = puts.tokens w in let same = ap (λ (x : QueueView). sum_by w x.jobs) finds.same in omega (arith, mine, tokens, same))
          finds.job finds.capacity_is finds.many))))
          (λ x d lx. fulls_on v.capacity v.clients clients2 v.cores v.cores (get_or v.clients x d).stage f (was.stages x d lx));
      drops = λ x p i c d lx at. dropped_on v.capacity v.clients clients2 v.cores v.cores x i c (take p (get_or v.cores x d).entries) f (was.drops x p i c d lx at);
    })
