use Rattle.std.proofs.Common.{◌≡◌, ℕ, ◌<◌, length, take, map, false}
use Rattle.std.specs.Prelude.{slice_index_or}
use Rattle.pfc_report.specs.Schedule.{is_asked}
use Rattle.pfc_report.specs.Plan.{line_of}
use Rattle.pfc_report.proofs.schedule.asked_in.Given as goal

abbrev pub invariant-loop-step : goal.invariant-loop-step
invariant-loop-step l = record {
  count : length l.marks ≡ 65;
  marked : (n : ℕ) → n < 65 → slice_index_or l.marks n false ≡ is_asked (map line_of (take l.step-index l.steps)) n;
}
