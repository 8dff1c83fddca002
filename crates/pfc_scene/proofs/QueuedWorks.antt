-- What writers are at are jobs, where one of them goes on.
use Rattle.std.proofs.Common.{◌≡◌, ℕ, ◌+◌, ◌<◌, ◌≤◌, List, [], ◌∷◌, length, get_or, set, sum_by, refl, subst, sym, ap, arith, Bool, true, false}
use Rattle.std.specs.Prelude.{Option, Some, None, IfSome}
use mathlib.Core.Logic.{dite}
use native.Mathlib.Decide.{ℕ_discrete}
use Rattle.std.proofs.lemmas.List.{length-set, get_or-set_same, get_or-set_other}
use Rattle.std.proofs.lemmas.List.Sums.{sum_by-cons, sum_by-le-sum_by}
use Rattle.pfc_core.specs.Marks.{Mark}
use Rattle.pfc_core.specs.OpenJobs.{is_job_mark, a_job}
use Rattle.pfc_writer.specs.Writer.{Task, work_weight}
use Rattle.pfc_scene.proofs.Growing.{bit}
use Rattle.pfc_scene.proofs.Weighing.{work_le}

abbrev pub AtJob : Option Task → Type 0
AtJob x = IfSome x (λ task. is_job_mark task.job ≡ true)

-- one writer is at another job, or at none
pub works_set : (writers : List (Option Task)) (w : ℕ) (x2 : Option Task) → w < length writers → AtJob x2 → ((x : ℕ) (d : Option Task) → x < length writers → AtJob (get_or writers x d)) →
    (x : ℕ) (d : Option Task) → x < length (set writers w x2) → AtJob (get_or (set writers w x2) x d)
works_set writers w x2 lw job works x d lx = let long = length-set writers w x2 in
    dite (ℕ_discrete x w)
    (λ e. subst AtJob (sym (subst (λ y. get_or (set writers w x2) y d ≡ x2) (sym e) (get_or-set_same writers w x2 d lw))) job)
    (λ far. subst AtJob (sym (get_or-set_other writers w x x2 d far)) (works x d (omega (arith, lx, long))))

-- ---- a writer takes a job from the queue

ones : (ms : List Mark) → sum_by (λ (m : Mark). 1) ms ≡ length ms
ones [] = refl
ones (m ∷ ms) = let r = ones ms in omega (arith, r, sum_by-cons (λ (x : Mark). 1) m ms)

job_most : (m : Mark) → a_job m ≤ 1
job_most m = most (is_job_mark m)
  where
    most : (q : Bool) → bit q ≤ 1
    most true = omega arith
    most false = omega arith

job_weight : (x : Option Task) → AtJob x → work_weight a_job x ≡ work_weight (λ m. 1) x
job_weight None job = refl
job_weight (Some task) job = ap bit job

weight_job : (x : Option Task) → work_weight a_job x ≡ work_weight (λ m. 1) x → AtJob x
weight_job None is = tt
weight_job (Some task) is = by_bit (is_job_mark task.job) is
  where
    by_bit : (q : Bool) → bit q ≡ 1 → q ≡ true
    by_bit true h = refl
    by_bit false h = absurd (omega (arith, h))

-- all that is in the queue are jobs, so what it takes is one, and the rest are
pub take_works : (x x2 : Option Task) (queue queue2 : List Mark) → ((f : Mark → ℕ) → work_weight f x2 + sum_by f queue2 ≡ work_weight f x + sum_by f queue) → AtJob x → sum_by a_job queue ≡ length queue → AtJob x2 × (sum_by a_job queue2 ≡ length queue2)
take_works x x2 queue queue2 tokens job kinds =
    let jobs = tokens a_job in let all = tokens (λ m. 1) in let was = job_weight x job in
    let l = ones queue in let l2 = ones queue2 in let le = work_le a_job (λ m. 1) job_most x2 in let le2 = sum_by-le-sum_by a_job (λ m. 1) queue2 job_most in
    (weight_job x2 (omega (arith, jobs, all, was, l, l2, le, le2, kinds)), omega (arith, jobs, all, was, l, l2, le, le2, kinds))
