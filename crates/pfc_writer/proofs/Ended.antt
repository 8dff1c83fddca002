-- How a core takes a job back that was written or dropped.
use Rattle.std.proofs.Common.{◌≡◌, ℕ, List, [], ◌∷◌, ◌++◌, refl, sym, ap, ◌∙◌, subst, Bool, true, false, inl, inr}
use Rattle.std.specs.Prelude.{◌⊎◌, ◌==◌, if◌then◌else◌}
use Rattle.pfc_log.specs.declared.entry.DropCause.TheVariants as cause
use Rattle.pfc_log.specs.declared.entry.Entry.{Entry}
use Rattle.pfc_log.specs.declared.entry.Entry.TheVariants as e
use Rattle.pfc_log.specs.Charges.{GrowsCalmly}
use Rattle.pfc_log.specs.Tallies.{tally}
use Rattle.pfc_log.proofs.Charging.{grows_none, grows_one, grows_on}
use Rattle.pfc_log.proofs.Tallied.{tally_same}
use Rattle.pfc_core.specs.Calls.{Drops}
use Rattle.pfc_core.specs.Jobs as jobs
use Rattle.pfc_core.specs.Leaves.{pins_on}
use Rattle.pfc_core.specs.Marks.{Mark, Loses}
use Rattle.pfc_core.specs.View.{CoreView}
use Rattle.pfc_writer.specs.Writer.{TakesJob}

-- the entries that a log grew by show no failed call and are no client's
record IsQuiet (es new : List Entry) : Type 0 where
  calm : GrowsCalmly es new
  tallies : (n : ℕ) → tally n new ≡ tally n es

quiet_none : (es : List Entry) → IsQuiet es es
quiet_none es = record { calm = grows_none es; tallies = λ n. refl }

left : (es mid : List Entry) (i : ℕ) → IsQuiet es mid → IsQuiet es (mid ++ e.Left i ∷ [])
left es mid i quiet = record {
  calm = grows_on es mid (mid ++ e.Left i ∷ []) quiet.calm (grows_one mid (e.Left i) refl);
  tallies = λ n. tally_same n mid (e.Left i) refl ∙ quiet.tallies n;
}

frozen : (es : List Entry) (i : ℕ) → IsQuiet es (es ++ e.Dropped i cause.Frozen ∷ [])
frozen es i = record { calm = grows_one es (e.Dropped i cause.Frozen) refl; tallies = λ n. tally_same n es (e.Dropped i cause.Frozen) refl }

-- whether the block leaves or not
either : (es one other : List Entry) (q : Bool) → IsQuiet es one → IsQuiet es other → IsQuiet es (if q then one else other)
either es one other true this that = this
either es one other false this that = that

takes : (old new : CoreView) (job : Mark) (es : List Entry) → Loses old.out job new.out → new ≡ record old { entries = es; out = new.out } → IsQuiet old.entries es →
    jobs.EndsWritten old job new ⊎ Drops old job cause.Frozen new → TakesJob old job new
takes old new job es loses is quiet ends =
    let same : new.entries ≡ es = ap (λ (v : CoreView). v.entries) is in
    let grown : IsQuiet old.entries new.entries = subst (IsQuiet old.entries) (sym same) quiet in record {
      loses = loses;
      home = subst (λ (l : List Entry). new ≡ record old { entries = l; out = new.out }) (sym same) is;
      calm = grown.calm;
      tallies = grown.tallies;
      ends = ends;
    }

pub takes_frozen : (old new : CoreView) (job : Mark) → Drops old job cause.Frozen new → TakesJob old job new
takes_frozen old new job drops = takes old new job _ drops.loses drops.enters
    (either old.entries _ _ (0 == pins_on job.block job.flight old.out) (left old.entries _ job.block (frozen old.entries job.block)) (frozen old.entries job.block)) (inr drops)

takes_ended : (old new : CoreView) (job : Mark) → jobs.Ends old job new → TakesJob old job new
takes_ended old new job ends = takes old new job _ ends.loses ends.enters
    (either old.entries _ _ (0 == pins_on job.block job.flight old.out) (left old.entries old.entries job.block (quiet_none old.entries)) (quiet_none old.entries)) (inl (inl ends))

pub takes_written : (old new : CoreView) (job : Mark) → jobs.EndsWritten old job new → TakesJob old job new
takes_written old new job (inl ends) = takes_ended old new job ends
takes_written old new job (inr ends) = takes_frozen old new job ends.drops
