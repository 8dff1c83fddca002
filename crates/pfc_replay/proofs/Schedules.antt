-- What was read of a schedule says what the whole of it says.
use Rattle.std.proofs.Common.{◌≡◌, ℕ, ◌+◌, ◌<◌, ◌≤◌, List, length, take, sym, ap, ◌∙◌, arith, take_all, length-take, subst}
use Rattle.std.specs.Prelude.{Option, Some, None, Result, Err, IsSomeAnd, nat_le}
use Rattle.std.proofs.lemmas.Bool.Decides.{nat_tests}
use Rattle.pfc_report.specs.Schedule.{Line, schedule_of, schedule_limit}
use Rattle.pfc_report.proofs.Lines.{schedule_of-long}
use Rattle.pfc_replay.proofs.Configs.{by_bool}

-- one byte more than a schedule may have says it all
schedule_of-take : (writers : ℕ) (all : List ℕ) → schedule_of writers (take (schedule_limit + 1) all) ≡ schedule_of writers all
schedule_of-take writers all = by_bool (nat_le (length all) schedule_limit)
    (λ h. let short : length all ≤ schedule_limit = grind (arith, nat_tests) in ap (schedule_of writers) (take_all (schedule_limit + 1) all (omega arith)))
    (λ h. let long : schedule_limit < length all = grind (arith, nat_tests) in
    schedule_of-long writers (take (schedule_limit + 1) all) (omega (arith, length-take (schedule_limit + 1) all)) ∙ sym (schedule_of-long writers all long))

-- what is said of the part that was read is said of the whole
pub schedule-read : (C : Result (List Line) ℕ → Type 0) (writers : ℕ) (text : Option (List ℕ)) (read : List ℕ) → IsSomeAnd text (λ all. read ≡ take (schedule_limit + 1) all) →
    C (schedule_of writers read) → IsSomeAnd text (λ all. C (schedule_of writers all))
schedule-read C writers None read e h = absurd e
schedule-read C writers (Some all) read e h = subst C (ap (schedule_of writers) e ∙ schedule_of-take writers all) h

-- the same of a line that is refused
pub schedule-refused : (writers : ℕ) (text : Option (List ℕ)) (read : List ℕ) (line named : ℕ) → line ≡ named → IsSomeAnd text (λ all. read ≡ take (schedule_limit + 1) all) →
    schedule_of writers read ≡ Err line → IsSomeAnd text (λ all. schedule_of writers all ≡ Err named)
schedule-refused writers text read line named same e h = schedule-read (λ r. r ≡ Err named) writers text read e (h ∙ ap Err same)
