-- How the job of a block that was written ends.
use Rattle.std.specs.Prelude.{◌≡◌, ◌⊎◌, ◌==◌, ◌++◌, ◌∷◌, [], false, if◌then◌else◌, IsTrue}
use Rattle.pfc_log.specs.declared.entry.Entry.TheVariants.{Left}
use Rattle.pfc_log.specs.declared.entry.DropCause.TheVariants as cause
use Rattle.pfc_log.specs.Lawful.{IsUnfrozen}
use Rattle.pfc_log.specs.Views.{place}
use Rattle.pfc_core.specs.declared.token.Strayed.{Strayed}
use Rattle.pfc_core.specs.Calls.{Drops}
use Rattle.pfc_core.specs.Leaves.{is_done_at, pins_on}
use Rattle.pfc_core.specs.Marks.{Mark, listed, Loses}
use Rattle.pfc_core.specs.View.{CoreView}

-- the block was written since it landed: the job ends, and a block on which no pin is left leaves memory
pub record Ends (old : CoreView) (job : Mark) (new : CoreView) : Type 0 where
  pub written : IsTrue (is_done_at job.flight (place job.block old.entries))
  pub loses : Loses old.out job new.out
  pub enters : new ≡ record old { entries = if 0 == pins_on job.block job.flight old.out then old.entries ++ Left job.block ∷ [] else old.entries; out = new.out }

-- it wasn't, but the store is frozen: it is dropped so
pub record EndsFrozen (old : CoreView) (job : Mark) (new : CoreView) : Type 0 where
  pub unwritten : is_done_at job.flight (place job.block old.entries) ≡ false
  pub drops : Drops old job cause.Frozen new

abbrev pub EndsWritten : CoreView → Mark → CoreView → Type 0
EndsWritten old job new = Ends old job new ⊎ EndsFrozen old job new

-- the core's list has no such job, or its block was neither written nor is the store frozen
pub record StraysUnwritten {T : Type 0} (old : CoreView) (token : T) (m : Mark) (s : Strayed T) (new : CoreView) : Type 0 where
  pub back : s.token ≡ token
  pub why_is : s.why ≡ record { token = record { instance = m.instance; number = m.number }; instance = old.instance }
  pub cause : (listed m old.out ≡ 0) ⊎ ((is_done_at m.flight (place m.block old.entries) ≡ false) × IsUnfrozen old.entries)
  pub unchanged : new ≡ old
