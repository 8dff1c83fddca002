-- What a step of a plan is, and why a text is none.
use Rattle.std.specs.Prelude.{◌≡◌, ℕ, List, [], Option, Some, None, Result, Err}
use Rattle.pfc_base.specs.Pieces.{pieces_of}
use Rattle.pfc_report.specs.Schedule.{Line, Ask, Go, Write, Sync}
use Rattle.pfc_report.specs.declared.schedule.Step.{Step}
use Rattle.pfc_report.specs.declared.schedule.Step.TheVariants as step
use Rattle.pfc_report.specs.declared.schedule.ScheduleRefusal.{ScheduleRefusal}
use Rattle.pfc_report.specs.declared.schedule.ScheduleRefusal.TheVariants.{Bad, Memory}

abbrev pub line_of : Step → Line
line_of (step.Ask client rest) = Ask client rest.now
line_of (step.Go client times) = Go client times
line_of (step.Write writer times) = Write writer times
line_of (step.Sync path times) = Sync path.now times

-- the words behind a separator, and none where it doesn't stand
abbrev pub words_behind : Option (List ℕ) → List (List ℕ)
words_behind None = []
words_behind (Some rest) = pieces_of 32 rest

-- a line is refused by what the schedule says; want of memory is free
abbrev pub Refuses : ScheduleRefusal → Result (List Line) ℕ → Type 0
Refuses (Bad line) said = said ≡ Err line
Refuses Memory said = Unit {0}
