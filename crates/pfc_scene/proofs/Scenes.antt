-- What a step keeps of the scene.
use Rattle.std.proofs.Common.{◌≡◌, ℕ, List, ◌+◌, ◌<◌, ◌≤◌, [], ◌∷◌, ◌++◌, length, get_or, set, sum_by, refl, subst, sym, ap, ◌∙◌, arith}
use Rattle.std.specs.Prelude.{◌==◌, if◌then◌else◌}
use lib.Seq.{set-get_or}
use Rattle.std.proofs.lemmas.List.{get_or_default, get_or-set_same, length-set}
use Rattle.std.proofs.lemmas.List.Sums.{sum_by-set}
use Rattle.pfc_log.specs.declared.entry.Entry.TheVariants.{Direct}
use Rattle.pfc_log.specs.declared.entry.Way.TheVariants.{Device}
use Rattle.pfc_log.specs.Charges.{charges, is_there, GrowsCalmly}
use Rattle.pfc_log.specs.Views.{times}
use Rattle.pfc_log.proofs.Charging.{theres_calm}
use Rattle.pfc_log.proofs.More.{times_none}
use Rattle.pfc_core.specs.Calls.{foreign}
use Rattle.pfc_core.specs.Marks.{Mark, Kind, JobKind, kind_code}
use Rattle.pfc_core.specs.View.{CoreView}
use Rattle.pfc_core.specs.OpenJobs.{AreJobs, a_job}
use Rattle.pfc_writer.specs.Queue.{QueueView}
use Rattle.pfc_actor.specs.Backings.{BackingView, Stand, Bare, Taken, Open, Lent, StandsFor, loan_weight, path_in, written_in, AllowsLeave, KeepsBacking, LoanStep}
use Rattle.pfc_actor.specs.Clients.{ClientView, Holds, StepsAt}
use Rattle.pfc_actor.specs.Clients as clients
use Rattle.pfc_actor.specs.Stages.{Here}
use Rattle.pfc_actor.specs.Steps.{Own, Puts, Step}
use Rattle.pfc_scene.specs.Scenes.{SceneView, IsScene, Moves, beside, lent_of}
use Rattle.pfc_scene.proofs.Casts.{cast_beside, cast_client, cast_core, cast_on, moves_goes, no_core, own_goes, puts_goes, stays_by, stays_for, there}
use Rattle.pfc_scene.proofs.Backed.{backed_by, backed_on, backed_set, backing_at, calm_charges, lent_set, settled_backing, settled_core, settled_like, settled_same}
use Rattle.pfc_scene.proofs.Following.{follows_same, follows_sized, goes_backing, goes_core, goes_set, goes_still, same_blocks}
use Rattle.pfc_scene.proofs.Moving.{moves_not, same_clients}
use Rattle.pfc_scene.proofs.QueuedLoans.{alike_queued, loan_queued}
use Rattle.pfc_scene.proofs.QueuedSteps.{on_queued}
use Rattle.pfc_scene.proofs.Queued.{as_written, backing_queued, client_queued}
use Rattle.pfc_scene.proofs.Fulls.{put_queued}

-- ---- where a client steps

-- the core of a token that a client holds is there
core_low : (v : SceneView) (j i : ℕ) (a : ClientView) → IsScene v → j < length v.clients → a ≡ get_or v.clients j a → Holds i a.book a.stage → i < length v.cores
core_low v j i a s lj ea h = subst (λ x. x < length v.cores) h.instance_is (there v.block_size (λ w. beside w v) v.clients v.cores j a h.mark no_core s.cast lj ea h.held)

pub holds_low : (u v : SceneView) (j i : ℕ) (a : ClientView) → u ≡ v → IsScene u → j < length u.clients → a ≡ get_or u.clients j a → Holds i a.book a.stage → i < length v.cores
holds_low u v j i a e s lj ea h = subst (λ (x : SceneView). i < length x.cores) e (core_low u j i a s lj ea h)

-- so is that of its next step
pub steps_low : (u v : SceneView) (j i : ℕ) (a : ClientView) → u ≡ v → IsScene u → j < length u.clients → a ≡ get_or u.clients j a → StepsAt i a.book a.stage → i < length v.cores
steps_low u v j i a e s lj ea steps = holds_low u v j i a e s lj ea steps.holds

-- it steps there on any core of that number
pub steps_any : (u v : SceneView) (j i : ℕ) (a : ClientView) → u ≡ v → j < length u.clients → a ≡ get_or u.clients j a → StepsAt i a.book a.stage →
    (d : ClientView) (c : CoreView) → c.instance ≡ i → Here (get_or v.clients j d).book (get_or v.clients j d).stage c
steps_any u v j i a e lj ea steps d c is =
    subst (λ (x : SceneView). Here (get_or x.clients j d).book (get_or x.clients j d).stage c) e
    (subst (λ (x : ClientView). Here x.book x.stage c) (ea ∙ get_or_default u.clients j a d lj) (steps.here c is))

pub steps_here : (u v : SceneView) (j i : ℕ) (a : ClientView) → u ≡ v → IsScene u → j < length u.clients → a ≡ get_or u.clients j a → StepsAt i a.book a.stage →
    (d : ClientView) (c : CoreView) → Here (get_or v.clients j d).book (get_or v.clients j d).stage (get_or v.cores i c)
steps_here u v j i a e s lj ea steps d c =
    steps_any u v j i a e lj ea steps d (get_or v.cores i c) (subst (λ (x : SceneView). (get_or x.cores i c).instance ≡ i) e (s.cast.places i c (core_low u j i a s lj ea steps.holds)).instance_is)

-- ---- a core that was stepped on

-- what it says of its tokens where it stands
pub own_at : (cores : List CoreView) (i : ℕ) (c v : CoreView) → i < length cores → v ≡ get_or (set cores i c) i v → sum_by (foreign v) v.out ≡ 0 → sum_by (foreign c) c.out ≡ 0
own_at cores i c v li ev own = subst (λ (x : CoreView). sum_by (foreign x) x.out ≡ 0) (ev ∙ get_or-set_same cores i c v li) own

-- and of its jobs
pub jobs_at : (cores : List CoreView) (i : ℕ) (c v : CoreView) → i < length cores → v ≡ get_or (set cores i c) i v → AreJobs v → AreJobs c
jobs_at cores i c v li ev jobs = subst AreJobs (ev ∙ get_or-set_same cores i c v li) jobs

-- its blocks have the scene's length
pub least_at : (v : SceneView) (i : ℕ) (c : CoreView) → IsScene v → i < length v.cores → c ≡ get_or v.cores i c → 4096 ≤ c.block_size
least_at v i c s li ec = subst (λ n. 4096 ≤ n) (sym (ap (λ (x : CoreView). x.block_size) ec ∙ (s.cast.places i c li).block_size_is)) s.cast.block_size.0

-- ---- a client goes on by itself

pub client_scene : (v : SceneView) (j : ℕ) (a a2 : ClientView) → IsScene v → j < length v.clients → a ≡ get_or v.clients j a → Own a.book a.line a.stage a2.book a2.line a2.stage → IsScene (record v { clients = set v.clients j a2 })
client_scene v j a a2 s lj ea own = record {
  cast = cast_client v.block_size (λ w. beside w v) (λ w. beside w v) v.clients v.cores j a a2 s.cast lj ea (own_goes a a2 own) (λ w. ap (λ n. n + beside w v) (own.tokens w));
  backed = s.backed;
  queued = client_queued v.capacity v.clients v.cores v.backings v.writers v.jobs j a a2 s.queued lj ea own.tokens own.full;
}

pub client_moves : (v : SceneView) (j : ℕ) (a a2 : ClientView) → a ≡ get_or v.clients j a → Own a.book a.line a.stage a2.book a2.line a2.stage → Moves v (record v { clients = set v.clients j a2 })
client_moves v j a a2 ea own = record {
  same = same_clients v.clients j a a2 ea own.number own.asked;
  clients_are = length-set v.clients j a2;
  writers_are = refl;
  block_size = refl;
  capacity = refl;
  lent = λ d h. h;
  settled_is = refl;
  goes_on = goes_still v (record v { clients = set v.clients j a2 }) refl refl refl;
}

-- a client is asked one more line
pub asked_scene : (v : SceneView) (j : ℕ) (a a2 : ClientView) → IsScene v → j < length v.clients → a ≡ get_or v.clients j a → clients.Moves a a2 → IsScene (record v { clients = set v.clients j a2 })
asked_scene v j a a2 s lj ea m = record {
  cast = cast_client v.block_size (λ w. beside w v) (λ w. beside w v) v.clients v.cores j a a2 s.cast lj ea (moves_goes a a2 m) (λ w. ap (λ n. n + beside w v) (m.tokens w));
  backed = s.backed;
  queued = client_queued v.capacity v.clients v.cores v.backings v.writers v.jobs j a a2 s.queued lj ea m.tokens m.full;
}

-- ---- a client puts a block to the queue

pub put_scene : (v : SceneView) (j : ℕ) (a a2 : ClientView) (q2 : QueueView) → IsScene v → j < length v.clients → a ≡ get_or v.clients j a →
    Puts a.book a.line a.stage (record { jobs = v.jobs; capacity = v.capacity }) a2.book a2.line a2.stage q2 → IsScene (record v { clients = set v.clients j a2; jobs = q2.jobs; capacity = q2.capacity })
put_scene v j a a2 q2 s lj ea puts = let q : QueueView = record { jobs = v.jobs; capacity = v.capacity } in record {
  cast = cast_client v.block_size (λ w. beside w v) (λ w. beside w (record v { jobs = q2.jobs })) v.clients v.cores j a a2 s.cast lj ea (puts_goes a a2 q q2 puts) (λ w. let t = puts.tokens w in omega (arith, t));
  backed = s.backed;
  queued = put_queued v j a a2 q2 s lj ea puts;
}

pub put_moves : (v : SceneView) (j : ℕ) (a a2 : ClientView) (q2 : QueueView) → a ≡ get_or v.clients j a →
    Puts a.book a.line a.stage (record { jobs = v.jobs; capacity = v.capacity }) a2.book a2.line a2.stage q2 → Moves v (record v { clients = set v.clients j a2; jobs = q2.jobs; capacity = q2.capacity })
put_moves v j a a2 q2 ea puts = record {
  same = same_clients v.clients j a a2 ea puts.number puts.asked;
  clients_are = length-set v.clients j a2;
  writers_are = refl;
  block_size = refl;
  capacity = puts.capacity;
  lent = λ d h. h;
  settled_is = refl;
  goes_on = goes_still v (record v { clients = set v.clients j a2; jobs = q2.jobs; capacity = q2.capacity }) refl refl refl;
}

-- ---- a client steps on a core

pub on_scene : (v : SceneView) (j i : ℕ) (a a2 : ClientView) (c c2 : CoreView) → IsScene v → j < length v.clients → i < length v.cores → a ≡ get_or v.clients j a → c ≡ get_or v.cores i c →
    Step a.book a.line a.stage c a2.book a2.line a2.stage c2 → GrowsCalmly c.entries c2.entries → sum_by (foreign c2) c2.out ≡ 0 → AreJobs c2 →
    IsScene (record v { clients = set v.clients j a2; cores = set v.cores i c2 })
on_scene v j i a a2 c c2 s lj li ea ec st calm own jobs = record {
  cast = cast_on v.block_size (λ w. beside w v) (λ w. beside w v) v.clients v.cores j i a a2 c c2 s.cast lj li ea ec st own jobs (theres_calm c.entries c2.entries calm) (λ w. refl);
  backed = let stays = stays_by c c2 st.home in backed_on v.cores v.backings i c c2 s.backed li ec stays (calm_charges c c2 stays calm);
  queued = on_queued v j i a a2 c c2 s lj li ea ec st own st.fresh;
}

pub on_moves : (v : SceneView) (j i : ℕ) (a a2 : ClientView) (c c2 : CoreView) → IsScene v → i < length v.cores → a ≡ get_or v.clients j a → c ≡ get_or v.cores i c →
    Step a.book a.line a.stage c a2.book a2.line a2.stage c2 → GrowsCalmly c.entries c2.entries → Moves v (record v { clients = set v.clients j a2; cores = set v.cores i c2 })
on_moves v j i a a2 c c2 s li ea ec st calm = record {
  same = same_clients v.clients j a a2 ea st.number st.asked;
  clients_are = length-set v.clients j a2;
  writers_are = refl;
  block_size = refl;
  capacity = refl;
  lent = λ d h. h;
  settled_is = settled_core v.cores v.backings i c c2 s.backed.long li ec (calm_charges c c2 (stays_by c c2 st.home) calm);
  goes_on = goes_core v (record v { clients = set v.clients j a2; cores = set v.cores i c2 }) i c c2 refl refl refl s.backed.long li ec (same_blocks c c2 st.home);
}

-- ---- a store is lent, or comes back

lent_sum : (w : Mark → ℕ) (v : SceneView) (i : ℕ) (b b2 : BackingView) → i < length v.backings → b ≡ get_or v.backings i b → beside w (record v { backings = set v.backings i b2 }) + lent_of w b ≡ beside w v + lent_of w b2
lent_sum w v i b b2 li eb = let l = sum_by-set (lent_of w) v.backings i b2 b li in let at = ap (lent_of w) eb in omega (arith, l, at)

-- a loan is no job
loan_light : (s : Stand) (c : CoreView) → StandsFor s c → loan_weight a_job s ≡ 0
loan_light Bare c is = refl
loan_light (Taken path size) c is = refl
loan_light (Open path size k) c is = refl
loan_light (Lent mark done) c is = ap (λ (k : Kind). if kind_code k == kind_code JobKind then 1 else 0) is.2

pub loan_scene : (v : SceneView) (i : ℕ) (c c2 : CoreView) (b b2 : BackingView) → IsScene v → i < length v.cores → c ≡ get_or v.cores i c → b ≡ get_or v.backings i b → LoanStep c b c2 b2 → sum_by (foreign c2) c2.out ≡ 0 → AreJobs c2 →
    IsScene (record v { cores = set v.cores i c2; backings = set v.backings i b2 })
loan_scene v i c c2 b b2 s li ec eb st own jobs = let same = s.backed.long in let lb : i < length v.backings = omega (arith, li, same) in record {
  cast = cast_core v.block_size (λ w. beside w v) (λ w. beside w (record v { backings = set v.backings i b2 })) v.clients v.cores i c c2 s.cast li ec (stays_for c c2 st.home) own jobs st.theres st.tallies
      (λ w. let t = st.tokens w in let l = lent_sum w v i b b2 lb eb in omega (arith, t, l));
  backed = backed_set v.cores v.backings i c2 b2 s.backed li (st.backed (backing_at v.cores v.backings i c b s.backed li ec eb));
  queued = loan_queued v i c c2 b b2 s li ec eb st (loan_light b.stand c (backing_at v.cores v.backings i c b s.backed li ec eb).stands) jobs;
}

pub loan_moves : (v : SceneView) (i : ℕ) (c c2 : CoreView) (b b2 : BackingView) → IsScene v → i < length v.cores → c ≡ get_or v.cores i c → b ≡ get_or v.backings i b → LoanStep c b c2 b2 →
    Moves v (record v { cores = set v.cores i c2; backings = set v.backings i b2 })
loan_moves v i c c2 b b2 s li ec eb st = let same = s.backed.long in let lb : i < length v.backings = omega (arith, li, same) in record {
  same = refl;
  clients_are = refl;
  writers_are = refl;
  block_size = refl;
  capacity = refl;
  lent = λ d h. lent_set d v.backings i b b2 lb eb st.path st.before h;
  settled_is = settled_same v.cores v.backings i c c2 b b2 same li ec eb (settled_like b.stand b2.stand c c2 st.path st.charges);
  goes_on = let stays = stays_for c c2 st.home in
      goes_set v (record v { cores = set v.cores i c2; backings = set v.backings i b2 }) i c c2 b b2 refl refl refl same li ec eb stays.path_is (λ found h. follows_sized v.block_size found c c2 b2 stays.size_is (st.follows c.size v.block_size found h));
}

-- ---- what stands beside a core goes on by itself

pub backing_scene : (v : SceneView) (i : ℕ) (b b2 : BackingView) → IsScene v → i < length v.cores → b ≡ get_or v.backings i b → KeepsBacking b b2 → written_in b2.stand ≡ written_in b.stand → IsScene (record v { backings = set v.backings i b2 })
backing_scene v i b b2 s li eb keeps written = let same = s.backed.long in let lb : i < length v.backings = omega (arith, li, same) in record {
  cast = cast_beside v.block_size (λ w. beside w v) (λ w. beside w (record v { backings = set v.backings i b2 })) v.clients v.cores s.cast (λ w. let t = keeps.loan w in let l = lent_sum w v i b b2 lb eb in omega (arith, t, l));
  backed = backed_by v.cores v.backings i b b2 s.backed li eb keeps.backed;
  queued = backing_queued v.capacity v.clients v.cores v.backings v.writers v.jobs i b b2 s.queued lb eb (as_written (written_in b.stand) (written_in b2.stand) written);
}

pub backing_moves : (v : SceneView) (i : ℕ) (d : CoreView) (b b2 : BackingView) → IsScene v → i < length v.cores → b ≡ get_or v.backings i b → KeepsBacking b b2 → Moves v (record v { backings = set v.backings i b2 })
backing_moves v i d b b2 s li eb keeps = let same = s.backed.long in let lb : i < length v.backings = omega (arith, li, same) in record {
  same = refl;
  clients_are = refl;
  writers_are = refl;
  block_size = refl;
  capacity = refl;
  lent = λ e h. lent_set e v.backings i b b2 lb eb keeps.path keeps.before h;
  settled_is = settled_backing v.cores v.backings i d b b2 same li eb keeps.path;
  goes_on = goes_backing v (record v { backings = set v.backings i b2 }) i b b2 refl refl refl same li eb (λ found c ec h. keeps.follows c.size v.block_size found c h);
}

-- nothing came of it
backing_same : (v : SceneView) (i : ℕ) (b b2 : BackingView) → b ≡ get_or v.backings i b → b2 ≡ b → record v { backings = set v.backings i b2 } ≡ v
backing_same v i b b2 eb same = ap (λ bs. record v { backings = bs }) (ap (set v.backings i) (same ∙ eb) ∙ set-get_or v.backings i b)

pub same_scene : (v : SceneView) (i : ℕ) (b b2 : BackingView) → IsScene v → b ≡ get_or v.backings i b → b2 ≡ b → IsScene (record v { backings = set v.backings i b2 })
same_scene v i b b2 s eb same = subst IsScene (sym (backing_same v i b b2 eb same)) s

pub same_moves : (v : SceneView) (i : ℕ) (b b2 : BackingView) → b ≡ get_or v.backings i b → b2 ≡ b → Moves v (record v { backings = set v.backings i b2 })
same_moves v i b b2 eb same = subst (Moves v) (sym (backing_same v i b b2 eb same)) (moves_not v)

-- ---- a client leaves a part for the origin

pub leave_scene : (v : SceneView) (j i block : ℕ) (a a2 : ClientView) (c c2 : CoreView) (b b2 : BackingView) → IsScene v → j < length v.clients → i < length v.cores → a ≡ get_or v.clients j a → c ≡ get_or v.cores i c → b ≡ get_or v.backings i b →
    Step a.book a.line a.stage c a2.book a2.line a2.stage c2 → c2.entries ≡ c.entries ++ Direct block a.book.number Device ∷ [] → AllowsLeave block c b b2 → sum_by (foreign c2) c2.out ≡ 0 → AreJobs c2 →
    IsScene (record v { clients = set v.clients j a2; cores = set v.cores i c2; backings = set v.backings i b2 })
leave_scene v j i block a a2 c c2 b b2 s lj li ea ec eb st enters allows own jobs =
    let same = s.backed.long in let lb : i < length v.backings = omega (arith, li, same) in
    let theres : times is_there c2.entries ≡ times is_there c.entries = ap (times is_there) enters ∙ times_none is_there c.entries (Direct block a.book.number Device) refl in record {
      cast = cast_on v.block_size (λ w. beside w v) (λ w. beside w (record v { backings = set v.backings i b2 })) v.clients v.cores j i a a2 c c2 s.cast lj li ea ec st own jobs theres
          (λ w. let t = ap (λ x. lent_of w (record b { stand = x })) allows.stand_is in let l = lent_sum w v i b b2 lb eb in omega (arith, t, l));
      backed = backed_set v.cores v.backings i c2 b2 s.backed li (allows.backed a.book.number c2 st.home enters (backing_at v.cores v.backings i c b s.backed li ec eb));
      queued = alike_queued v.capacity (set v.clients j a2) (set v.cores i c2) v.backings v.writers v.jobs i b b2 (on_queued v j i a a2 c c2 s lj li ea ec st own st.fresh) lb eb allows.stand_is;
    }

pub leave_moves : (v : SceneView) (j i block : ℕ) (a a2 : ClientView) (c c2 : CoreView) (b b2 : BackingView) → IsScene v → i < length v.cores → a ≡ get_or v.clients j a → c ≡ get_or v.cores i c → b ≡ get_or v.backings i b →
    Step a.book a.line a.stage c a2.book a2.line a2.stage c2 → c2.entries ≡ c.entries ++ Direct block a.book.number Device ∷ [] → AllowsLeave block c b b2 →
    Moves v (record v { clients = set v.clients j a2; cores = set v.cores i c2; backings = set v.backings i b2 })
leave_moves v j i block a a2 c c2 b b2 s li ea ec eb st enters allows =
    let same = s.backed.long in let lb : i < length v.backings = omega (arith, li, same) in
    let paths = ap path_in allows.stand_is in
    let first : c2.first ≡ c.first = ap (λ (x : CoreView). x.first) st.home in record {
      same = same_clients v.clients j a a2 ea st.number st.asked;
      clients_are = length-set v.clients j a2;
      writers_are = refl;
      block_size = refl;
      capacity = refl;
      lent = λ d h. lent_set d v.backings i b b2 lb eb paths allows.before_is h;
      settled_is = settled_same v.cores v.backings i c c2 b b2 same li ec eb
          (settled_like b.stand b2.stand c c2 paths (λ h. ap (λ x. charges x c2.entries) first ∙ ap (charges c.first) enters ∙ allows.charges h a.book.number));
      goes_on = let same_as = same_blocks c c2 st.home in
          goes_set v (record v { clients = set v.clients j a2; cores = set v.cores i c2; backings = set v.backings i b2 }) i c c2 b b2 refl refl refl same li ec eb same_as.path_is
          (λ found h. follows_same v.block_size found c c2 b2 same_as (allows.follows c.size v.block_size found h));
    }
