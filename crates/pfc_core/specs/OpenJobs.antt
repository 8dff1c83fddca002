-- The jobs that are out: of which blocks they are, and which of those wait.
use Rattle.std.specs.Prelude.{◌≡◌, ℕ, ◌≤◌, ◌==◌, ◌&&◌, not, Bool, if◌then◌else◌, sum_by}
use Rattle.pfc_log.specs.Views.{place, bound}
use Rattle.pfc_log.specs.Waiting.{waiting}
use Rattle.pfc_core.specs.Leaves.{is_here_at, is_done_at}
use Rattle.pfc_core.specs.Marks.{Mark, JobKind, kind_code}
use Rattle.pfc_core.specs.View.{CoreView}

abbrev pub is_job_mark : Mark → Bool
is_job_mark m = kind_code m.kind == kind_code JobKind

-- 1 for a job
abbrev pub a_job : Mark → ℕ
a_job m = if is_job_mark m then 1 else 0

-- 1 for a job of block i
abbrev pub job_of : ℕ → Mark → ℕ
job_of i m = if is_job_mark m && m.block == i then 1 else 0

-- 1 for a job whose block isn't in memory by the job's flight
abbrev pub astray : CoreView → Mark → ℕ
astray v m = if is_job_mark m && not (is_here_at m.flight (place m.block v.entries)) then 1 else 0

-- 1 for a job whose block was written or dropped by now
abbrev pub settled : CoreView → Mark → ℕ
settled v m = if is_job_mark m && is_done_at m.flight (place m.block v.entries) then 1 else 0

-- 1 for one whose block wasn't
abbrev pub unsettled : CoreView → Mark → ℕ
unsettled v m = if is_job_mark m && not (is_done_at m.flight (place m.block v.entries)) then 1 else 0

-- The block of each job that is out is in memory, and has one job at most. So no more jobs are unsettled than blocks wait.
pub record AreJobs (v : CoreView) : Type 0 where
  pub here : sum_by (astray v) v.out ≡ 0
  pub once : (i : ℕ) → sum_by (job_of i) v.out ≤ 1
  pub waits : (n : ℕ) → bound v.first ≤ n → sum_by (unsettled v) v.out ≤ waiting n v.entries
