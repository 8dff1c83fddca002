-- The write queue of a run: which blocks its jobs are of, and what it means that it was full.
use Rattle.std.specs.Prelude.{◌≡◌, ℕ, ◌+◌, ◌<◌, ◌≤◌, ◌==◌, if◌then◌else◌, true, List, take, length, map, sum_by, slice_get, slice_index_or, Option, Some, IfSome}
use Rattle.pfc_log.specs.declared.entry.DropCause.TheVariants as cause
use Rattle.pfc_log.specs.declared.entry.Entry.{Entry}
use Rattle.pfc_log.specs.declared.entry.Entry.TheVariants.{Dropped}
use Rattle.pfc_log.specs.Views.{times}
use Rattle.pfc_log.specs.Waiting.{is_worked, FoundFull, WasFull}
use Rattle.pfc_core.specs.Marks.{Mark, JobKind}
use Rattle.pfc_core.specs.OpenJobs as jobs
use Rattle.pfc_core.specs.View.{CoreView}
use Rattle.pfc_writer.specs.Writer.{Task}
use Rattle.pfc_actor.specs.Backings.{BackingView, written_in}
use Rattle.pfc_actor.specs.Steps.{full_in}
use Rattle.pfc_actor.specs.Clients.{ClientView, holds}

abbrev pub logs_of : List CoreView → List (List Entry)
logs_of cores = map (λ c. c.entries) cores

-- 1 for a job of one of these cores whose block was written or dropped by now
abbrev pub settled_in : List CoreView → Mark → ℕ
settled_in cores m = sum_by (λ c. if c.instance == m.instance then jobs.settled c m else 0) cores

-- What has come of the jobs of a core: the blocks with which writers came to an end, and the jobs whose block waits still.
abbrev pub progress : CoreView → ℕ
progress c = times is_worked c.entries + sum_by (jobs.unsettled c) c.out

-- As many jobs as that came into the hands of writers: clients hold so many less than what came of all.
abbrev pub HaveWorked : ℕ → List ClientView → List CoreView → Type 0
HaveWorked n clients cores = n + sum_by (holds jobs.a_job) clients ≤ sum_by progress cores

-- a queue of this capacity had no room for a job, with so many in it
pub record IsFullFor (capacity : ℕ) (clients : List ClientView) (cores : List CoreView) (full : Mark × ℕ) : Type 0 where
  pub job : full.0.kind ≡ JobKind
  pub capacity_is : full.1 ≡ capacity
  pub worked : HaveWorked full.1 clients cores
  pub found : FoundFull full.1 full.0.instance full.0.block full.0.flight (logs_of cores)

-- block i of the core at place x was dropped for it behind these entries
pub record IsDroppedFor (capacity : ℕ) (clients : List ClientView) (cores : List CoreView) (x i c : ℕ) (before : List Entry) : Type 0 where
  pub capacity_is : c ≡ capacity
  pub worked : HaveWorked c clients cores
  pub was : WasFull c x i before (logs_of cores)

-- a writer has this block of the core at place i to give back
pub record IsReturned (i block : ℕ) (writers : List (Option Task)) : Type 0 where
  pub place : ℕ
  pub task : Task
  pub low : place < length writers
  pub at : (d : Option Task) → slice_index_or writers place d ≡ Some task
  pub instance_is : task.job.instance ≡ i
  pub block_is : task.job.block ≡ block
  pub returning : task.returning ≡ true

-- The jobs that wait in the queue, and those that clients hold, are of blocks that are neither written nor dropped. What writers
-- are at are jobs. What a loan wrote is of a job that its writer holds. Who found the queue full, and each block that was dropped so, has its cause.
pub record AreQueued (capacity : ℕ) (clients : List ClientView) (cores : List CoreView) (backings : List BackingView) (writers : List (Option Task)) (queue : List Mark) : Type 0 where
  pub kinds : sum_by jobs.a_job queue ≡ length queue
  pub idle : sum_by (holds (settled_in cores)) clients + sum_by (settled_in cores) queue ≡ 0
  pub works : (w : ℕ) (d : Option Task) → w < length writers → IfSome (slice_index_or writers w d) (λ task. jobs.is_job_mark task.job ≡ true)
  pub returned : (i : ℕ) (e : BackingView) → i < length backings → IfSome (written_in (slice_index_or backings i e).stand) (λ block. IsReturned i block writers)
  pub stages : (j : ℕ) (d : ClientView) → j < length clients → IfSome (full_in (slice_index_or clients j d).stage) (IsFullFor capacity clients cores)
  pub drops : (x p i c : ℕ) (d : CoreView) → x < length cores → slice_get (slice_index_or cores x d).entries p ≡ Some (Dropped i (cause.Full c)) → IsDroppedFor capacity clients cores x i c (take p (slice_index_or cores x d).entries)

-- the writer at this place isn't about to give a written block back
abbrev pub MayGoOn : List BackingView → Option Task → Type 0
MayGoOn backings x = (task : Task) (e : BackingView) → x ≡ Some task → task.returning ≡ true → task.job.instance < length backings → IfSome (written_in (slice_index_or backings task.job.instance e).stand) (λ block. ⊥)
