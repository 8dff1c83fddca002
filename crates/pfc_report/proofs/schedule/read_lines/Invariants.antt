use Rattle.std.proofs.Common.{◌≡◌, ◌+◌, ◌≤◌, length, map}
use Rattle.pfc_base.specs.Pieces.{pieces_of}
use Rattle.pfc_report.specs.Schedule.{all_said}
use Rattle.pfc_report.specs.Plan.{line_of}
use Rattle.pfc_report.proofs.Lines.{extended}
use Rattle.pfc_report.proofs.schedule.read_lines.Given as goal

abbrev pub invariant-lines : goal.invariant-lines
invariant-lines l = record {
  said : extended (map line_of l.steps.items) (all_said l.writers l.number (pieces_of 10 l.rest)) ≡ all_said l.writers 1 (pieces_of 10 l.text);
  small : l.number + length l.rest ≤ 67108865;
}

abbrev pub decreases-lines : goal.decreases-lines
decreases-lines l = length l.rest
