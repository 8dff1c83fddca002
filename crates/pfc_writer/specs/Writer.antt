-- What a writer holds, and how it ends its job.
use Rattle.std.specs.Prelude.{◌≡◌, ◌⊎◌, ℕ, Bool, true, false, Option, Some, None}
use Rattle.pfc_store.specs.Views.{StoreView}
use Rattle.pfc_log.specs.Charges.{GrowsCalmly}
use Rattle.pfc_log.specs.Tallies.{tally}
use Rattle.pfc_log.specs.declared.entry.DropCause.TheVariants as cause
use Rattle.pfc_core.specs.Calls.{Drops}
use Rattle.pfc_core.specs.Jobs.{EndsWritten}
use Rattle.pfc_core.specs.Marks.{Mark, Loses}
use Rattle.pfc_core.specs.View.{CoreView}
use Rattle.pfc_writer.specs.declared.writer.Phase.{Phase}
use Rattle.pfc_writer.specs.declared.writer.Phase.TheVariants as phase

-- the job that a writer is at, and whether its turn is over and the loan still to be given back
pub record Task : Type 0 where
  pub job : Mark
  pub returning : Bool

-- whether a phase is that
abbrev pub is_returning : Phase → Bool
is_returning (phase.Returning outcome) = true
is_returning _ = false

-- with its turn over, and with the loan given back
abbrev pub turned : Task → Task
turned task = record task { returning = true }

abbrev pub gone_on : Task → Task
gone_on task = record task { returning = false }

-- the job, weighed
abbrev pub work_weight : (Mark → ℕ) → Option Task → ℕ
work_weight w None = 0
work_weight w (Some task) = w task.job

-- The core has taken the job back: it was written, or is dropped since the store is frozen. The entries that this adds show no
-- failed call and are no client's.
pub record TakesJob (old : CoreView) (job : Mark) (new : CoreView) : Type 0 where
  pub loses : Loses old.out job new.out
  pub home : new ≡ record old { entries = new.entries; out = new.out }
  pub calm : GrowsCalmly old.entries new.entries
  pub tallies : (n : ℕ) → tally n new.entries ≡ tally n old.entries
  pub ends : EndsWritten old job new ⊎ Drops old job cause.Frozen new

abbrev pub EndsWork : CoreView → Option Task → CoreView → Type 0
EndsWork old None new = ⊥
EndsWork old (Some task) new = TakesJob old task.job new

-- the job is of the store's file
abbrev pub IsOfStore : {D I : Type 0} → Mark → StoreView D I → Type 0
IsOfStore job store = (job.path ≡ store.path) × (job.size ≡ store.size) × (job.block_size ≡ store.block_size)
