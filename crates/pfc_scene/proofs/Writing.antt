-- What a step of a writer keeps.
use Rattle.std.proofs.Common.{◌≡◌, ◌⊎◌, inl, inr, ℕ, ◌+◌, ◌<◌, List, length, get_or, set, sum_by, refl, subst, sym, ap, ◌∙◌, arith, Bool, true, false, IsTrue}
use Rattle.std.specs.Prelude.{Option, Some, None, IsSome, option_map}
use lib.Seq.{set-get_or}
use Rattle.std.proofs.lemmas.List.{length-set, get_or-set_same}
use Rattle.std.proofs.lemmas.List.Sums.{sum_by-set}
use Rattle.pfc_log.specs.Charges.{GrowsCalmly}
use Rattle.pfc_log.specs.Tallies.{tally}
use Rattle.pfc_log.proofs.Charging.{grows_none, theres_calm}
use Rattle.pfc_core.specs.Marks.{Mark}
use Rattle.pfc_core.specs.Calls.{foreign}
use Rattle.pfc_core.specs.View.{CoreView}
use Rattle.pfc_core.specs.OpenJobs.{AreJobs}
use Rattle.pfc_writer.specs.Queue.{QueueView}
use Rattle.pfc_writer.specs.Writer.{Task, work_weight, gone_on, EndsWork}
use Rattle.pfc_actor.specs.Backings.{BackingView, KeepsBacking, WroteFor}
use Rattle.pfc_scene.specs.Queues.{AreQueued, MayGoOn}
use Rattle.pfc_scene.specs.Scenes.{SceneView, IsScene, Moves, beside, lent_of}
use Rattle.pfc_actor.proofs.Entering.{still}
use Rattle.pfc_scene.proofs.Following.{goes_backing, goes_core, goes_still, same_blocks}
use Rattle.pfc_scene.proofs.Casts.{stays_by, cast_beside, cast_core, no_core}
use Rattle.pfc_scene.proofs.Backed.{backed_by, backed_on, calm_charges, lent_set, settled_backing, settled_core}
use Rattle.pfc_scene.proofs.QueuedLoans.{end_queued}
use Rattle.pfc_scene.proofs.Queued.{gone_queued, job_queued, turn_queued}

-- a sum where one element is another
one_of : {X : Type 0} (f : X → ℕ) (xs : List X) (i : ℕ) (x y : X) → i < length xs → x ≡ get_or xs i x → sum_by f (set xs i y) + f x ≡ sum_by f xs + f y
one_of f xs i x y li ex = let at = sum_by-set f xs i y x li in let here = ap f ex in omega (arith, at, here)

-- ---- a writer and the queue

-- writer w is at another job, and others wait
abbrev pub with_job : SceneView → ℕ → Option Task → QueueView → SceneView
with_job v w x2 q2 = record v { writers = set v.writers w x2; jobs = q2.jobs; capacity = q2.capacity }

-- it takes a job where it is at rest
pub job_scene : (v : SceneView) (w : ℕ) (x x2 : Option Task) (q2 : QueueView) → IsScene v → w < length v.writers → x ≡ get_or v.writers w x →
    ((f : Mark → ℕ) → work_weight f x2 + sum_by f q2.jobs ≡ work_weight f x + sum_by f v.jobs) → q2.capacity ≡ v.capacity → (IsSome x → (x2 ≡ x) × (q2 ≡ record { jobs = v.jobs; capacity = v.capacity })) → IsScene (with_job v w x2 q2)
job_scene v w x x2 q2 s lw ex tokens same busy = record {
  cast = cast_beside v.block_size (λ f. beside f v) (λ f. beside f (with_job v w x2 q2)) v.clients v.cores s.cast
      (λ f. let t = tokens f in let one = one_of (work_weight f) v.writers w x x2 lw ex in omega (arith, t, one));
  backed = s.backed;
  queued = job_queued v.capacity q2.capacity v.clients v.cores v.backings v.writers v.jobs q2.jobs w x x2 s.queued lw ex tokens same (λ some. ((busy some).0, ap (λ (q : QueueView). q.jobs) (busy some).1));
}

-- its next phase comes
gone_weight : (f : Mark → ℕ) (x : Option Task) → work_weight f (option_map gone_on x) ≡ work_weight f x
gone_weight f None = refl
gone_weight f (Some task) = refl

pub gone_scene : (v : SceneView) (w : ℕ) (x x2 : Option Task) → IsScene v → w < length v.writers → x ≡ get_or v.writers w x → x2 ≡ option_map gone_on x → MayGoOn v.backings x → IsScene (record v { writers = set v.writers w x2 })
gone_scene v w x x2 s lw ex gone may = record {
  cast = cast_beside v.block_size (λ f. beside f v) (λ f. beside f (record v { writers = set v.writers w x2 })) v.clients v.cores s.cast
      (λ f. let t = ap (work_weight f) gone in let same = gone_weight f x in let one = one_of (work_weight f) v.writers w x x2 lw ex in omega (arith, t, same, one));
  backed = s.backed;
  queued = gone_queued v.capacity v.clients v.cores v.backings v.writers v.jobs w x x2 s.queued lw ex gone may;
}

pub gone_moves : (v : SceneView) (w : ℕ) (x2 : Option Task) → Moves v (record v { writers = set v.writers w x2 })
gone_moves v w x2 = record {
  same = refl;
  clients_are = refl;
  writers_are = length-set v.writers w x2;
  block_size = refl;
  capacity = refl;
  lent = λ d h. h;
  settled_is = refl;
  goes_on = goes_still v (record v { writers = set v.writers w x2 }) refl refl refl;
}

pub job_moves : (v : SceneView) (w : ℕ) (x2 : Option Task) (q2 : QueueView) → q2.capacity ≡ v.capacity → Moves v (with_job v w x2 q2)
job_moves v w x2 q2 same = record {
  same = refl;
  clients_are = refl;
  writers_are = length-set v.writers w x2;
  block_size = refl;
  capacity = same;
  lent = λ d h. h;
  settled_is = refl;
  goes_on = goes_still v (with_job v w x2 q2) refl refl refl;
}

-- ---- a writer and a backing

-- it had its turn, or nothing came of it
abbrev pub Turns : Option Task → BackingView → BackingView → Option Task → Type 0
Turns x b b2 x2 = WroteFor x b2 x2 ⊎ ((x2 ≡ x) × (b2 ≡ b))

pub turns_by : (q : Bool) (x x2 : Option Task) (b b2 : BackingView) → (IsTrue q → WroteFor x b2 x2) → (q ≡ false → (x2 ≡ x) × (b2 ≡ b)) → Turns x b b2 x2
turns_by true x x2 b b2 did same = inl (did refl)
turns_by false x x2 b b2 did same = inr (same refl)

turned_weight : (f : Mark → ℕ) (x x2 : Option Task) (b b2 : BackingView) → Turns x b b2 x2 → work_weight f x2 ≡ work_weight f x
turned_weight f x x2 b b2 (inl t) = ap (work_weight f) t.is ∙ sym (ap (work_weight f) t.was)
turned_weight f x x2 b b2 (inr same) = ap (work_weight f) same.0

turned_queued : (v : SceneView) (w i : ℕ) (x x2 : Option Task) (b b2 : BackingView) → AreQueued v.capacity v.clients v.cores v.backings v.writers v.jobs → w < length v.writers → i < length v.backings → x ≡ get_or v.writers w x → b ≡ get_or v.backings i b →
    option_map (λ (t : Task). t.job.instance) x ≡ Some i → Turns x b b2 x2 → AreQueued v.capacity v.clients v.cores (set v.backings i b2) (set v.writers w x2) v.jobs
turned_queued v w i x x2 b b2 q lw lb ex eb of (inl t) = turn_queued v.capacity v.clients v.cores v.backings v.writers v.jobs w i x x2 b2 q lw lb ex of t
turned_queued v w i x x2 b b2 q lw lb ex eb of (inr same) =
    subst (λ (bs : List BackingView). AreQueued v.capacity v.clients v.cores bs (set v.writers w x2) v.jobs) (sym (ap (set v.backings i) (same.1 ∙ eb) ∙ set-get_or v.backings i b))
    (subst (λ (xs : List (Option Task)). AreQueued v.capacity v.clients v.cores v.backings xs v.jobs) (sym (ap (set v.writers w) (same.0 ∙ ex) ∙ set-get_or v.writers w x)) q)

-- so is what stands beside core i
abbrev pub with_turn : SceneView → ℕ → ℕ → Option Task → BackingView → SceneView
with_turn v w i x2 b2 = record v { backings = set v.backings i b2; writers = set v.writers w x2 }

pub turn_scene : (v : SceneView) (w i : ℕ) (x x2 : Option Task) (b b2 : BackingView) → IsScene v → w < length v.writers → i < length v.cores → x ≡ get_or v.writers w x → b ≡ get_or v.backings i b →
    option_map (λ (t : Task). t.job.instance) x ≡ Some i → KeepsBacking b b2 → Turns x b b2 x2 → IsScene (with_turn v w i x2 b2)
turn_scene v w i x x2 b b2 s lw li ex eb of keeps turns = let long = s.backed.long in let lb : i < length v.backings = omega (arith, li, long) in record {
  cast = cast_beside v.block_size (λ f. beside f v) (λ f. beside f (with_turn v w i x2 b2)) v.clients v.cores s.cast
      (λ f.
      let writers = one_of (work_weight f) v.writers w x x2 lw ex in let job = turned_weight f x x2 b b2 turns in
      let backings = one_of (lent_of f) v.backings i b b2 lb eb in let loan = keeps.loan f in omega (arith, writers, job, backings, loan));
  backed = backed_by v.cores v.backings i b b2 s.backed li eb keeps.backed;
  queued = turned_queued v w i x x2 b b2 s.queued lw lb ex eb of turns;
}

pub turn_moves : (v : SceneView) (w i : ℕ) (x2 : Option Task) (b b2 : BackingView) → IsScene v → i < length v.cores → b ≡ get_or v.backings i b → KeepsBacking b b2 → Moves v (with_turn v w i x2 b2)
turn_moves v w i x2 b b2 s li eb keeps = let long = s.backed.long in let lb : i < length v.backings = omega (arith, li, long) in record {
  same = refl;
  clients_are = refl;
  writers_are = length-set v.writers w x2;
  block_size = refl;
  capacity = refl;
  lent = λ d h. lent_set d v.backings i b b2 lb eb keeps.path keeps.before h;
  settled_is = settled_backing v.cores v.backings i no_core b b2 long li eb keeps.path;
  goes_on = goes_backing v (with_turn v w i x2 b2) i b b2 refl refl refl long li eb (λ found c ec h. keeps.follows c.size v.block_size found c h);
}

-- ---- a writer and a core

-- a writer ends its job in the core, or nothing has changed
pub record EndsAt (x : Option Task) (c : CoreView) (x2 : Option Task) (c2 : CoreView) : Type 0 where
  pub tokens : (f : Mark → ℕ) → sum_by f c2.out + work_weight f x ≡ sum_by f c.out + work_weight f x2
  pub home : c2 ≡ record c { entries = c2.entries; out = c2.out; access = c2.access }
  pub calm : GrowsCalmly c.entries c2.entries
  pub tallies : (n : ℕ) → tally n c2.entries ≡ tally n c.entries
  pub ends : (EndsWork c x c2 × (x2 ≡ None)) ⊎ ((x2 ≡ x) × (c2 ≡ c))

did_end : (x x2 : Option Task) (c c2 : CoreView) → EndsWork c x c2 → x2 ≡ None → EndsAt x c x2 c2
did_end None x2 c c2 ends none = absurd ends
did_end (Some task) x2 c c2 ends none = record {
  tokens = λ f. let loses = ends.loses f in let rests = ap (work_weight f) none in omega (arith, loses, rests);
  home = still c c2 c.access ends.home;
  calm = ends.calm;
  tallies = ends.tallies;
  ends = inl (ends, none);
}

not_ended : (x x2 : Option Task) (c c2 : CoreView) → x2 ≡ x → c2 ≡ c → EndsAt x c x2 c2
not_ended x x2 c c2 ex ec = subst (λ y. EndsAt x c y c2) (sym ex) (subst (EndsAt x c x) (sym ec) (record { tokens = λ f. refl; home = refl; calm = grows_none c.entries; tallies = λ n. refl; ends = inr (refl, refl) }))

pub ends_at : (q : Bool) (x x2 : Option Task) (c c2 : CoreView) → (IsTrue q → EndsWork c x c2 × (x2 ≡ None)) → (q ≡ false → (x2 ≡ x) × (c2 ≡ c)) → EndsAt x c x2 c2
ends_at true x x2 c c2 did same = let h = did refl in did_end x x2 c c2 h.0 h.1
ends_at false x x2 c c2 did same = let h = same refl in not_ended x x2 c c2 h.0 h.1

-- what is said of the core that stands there is said of the one that was put there
pub own_put : (cores : List CoreView) (i : ℕ) (v c2 : CoreView) → i < length cores → v ≡ get_or (set cores i c2) i v → sum_by (foreign v) v.out ≡ 0 → sum_by (foreign c2) c2.out ≡ 0
own_put cores i v c2 li is own = subst (λ (x : CoreView). sum_by (foreign x) x.out ≡ 0) (is ∙ get_or-set_same cores i c2 v li) own

pub jobs_put : (cores : List CoreView) (i : ℕ) (v c2 : CoreView) → i < length cores → v ≡ get_or (set cores i c2) i v → AreJobs v → AreJobs c2
jobs_put cores i v c2 li is jobs = subst AreJobs (is ∙ get_or-set_same cores i c2 v li) jobs

-- so is core i
abbrev pub with_end : SceneView → ℕ → ℕ → Option Task → CoreView → SceneView
with_end v w i x2 c2 = record v { cores = set v.cores i c2; writers = set v.writers w x2 }

-- a writer that isn't about to give a block back has none to give back
pub not_returning : (writers : List (Option Task)) (w : ℕ) (x : Option Task) → x ≡ get_or writers w x → ((d : Option Task) → option_map (λ (t : Task). t.returning) (get_or writers w d) ≡ Some false) → (task : Task) → x ≡ Some task → task.returning ≡ false
not_returning writers w x ex phase task is =
    let here : ◌≡◌ {A = Option Bool} (Some task.returning) (Some false) = subst (λ (o : Option Task). option_map (λ (t : Task). t.returning) o ≡ Some false) is (subst (λ (o : Option Task). option_map (λ (t : Task). t.returning) o ≡ Some false) (sym ex) (phase x)) in cc

-- what is put back where it was changes nothing
same_put : {X : Type 0} (xs : List X) (i : ℕ) (x y : X) → x ≡ get_or xs i x → y ≡ x → set xs i y ≡ xs
same_put xs i x y ex same = ap (set xs i) (same ∙ ex) ∙ set-get_or xs i x

-- the jobs and the causes
end_case : (v : SceneView) (w i : ℕ) (x x2 : Option Task) (c c2 : CoreView) → IsScene v → w < length v.writers → i < length v.cores → x ≡ get_or v.writers w x → c ≡ get_or v.cores i c → ((task : Task) → x ≡ Some task → task.returning ≡ false) →
    (EndsWork c x c2 × (x2 ≡ None)) ⊎ ((x2 ≡ x) × (c2 ≡ c)) → AreQueued v.capacity v.clients (set v.cores i c2) v.backings (set v.writers w x2) v.jobs
end_case v w i x x2 c c2 s lw li ex ec back (inr same) =
    subst (λ (cores : List CoreView). AreQueued v.capacity v.clients cores v.backings (set v.writers w x2) v.jobs) (sym (same_put v.cores i c c2 ec same.1))
    (subst (λ (writers : List (Option Task)). AreQueued v.capacity v.clients v.cores v.backings writers v.jobs) (sym (same_put v.writers w x x2 ex same.0)) s.queued)
end_case v w i None x2 c c2 s lw li ex ec back (inl ended) = absurd ended.0
end_case v w i (Some task) x2 c c2 s lw li ex ec back (inl ended) =
    subst (λ (y : Option Task). AreQueued v.capacity v.clients (set v.cores i c2) v.backings (set v.writers w y) v.jobs) (sym ended.1) (end_queued v w i task c c2 s lw li ex ec ended.0 (back task refl))

pub end_scene : (v : SceneView) (w i : ℕ) (x x2 : Option Task) (c c2 : CoreView) → IsScene v → w < length v.writers → i < length v.cores → x ≡ get_or v.writers w x → c ≡ get_or v.cores i c →
    ((task : Task) → x ≡ Some task → task.returning ≡ false) → EndsAt x c x2 c2 → sum_by (foreign c2) c2.out ≡ 0 → AreJobs c2 → IsScene (with_end v w i x2 c2)
end_scene v w i x x2 c c2 s lw li ex ec back e own jobs = let st = stays_by c c2 e.home in record {
  cast = cast_core v.block_size (λ f. beside f v) (λ f. beside f (with_end v w i x2 c2)) v.clients v.cores i c c2 s.cast li ec st own jobs (theres_calm c.entries c2.entries e.calm) e.tallies
      (λ f. let t = e.tokens f in let writers = one_of (work_weight f) v.writers w x x2 lw ex in omega (arith, t, writers));
  backed = backed_on v.cores v.backings i c c2 s.backed li ec st (calm_charges c c2 st e.calm);
  queued = end_case v w i x x2 c c2 s lw li ex ec back e.ends;
}

pub end_moves : (v : SceneView) (w i : ℕ) (x x2 : Option Task) (c c2 : CoreView) → IsScene v → i < length v.cores → c ≡ get_or v.cores i c → EndsAt x c x2 c2 → Moves v (with_end v w i x2 c2)
end_moves v w i x x2 c c2 s li ec e = record {
  same = refl;
  clients_are = refl;
  writers_are = length-set v.writers w x2;
  block_size = refl;
  capacity = refl;
  lent = λ d h. h;
  settled_is = settled_core v.cores v.backings i c c2 s.backed.long li ec (calm_charges c c2 (stays_by c c2 e.home) e.calm);
  goes_on = goes_core v (with_end v w i x2 c2) i c c2 refl refl refl s.backed.long li ec (same_blocks c c2 e.home);
}
