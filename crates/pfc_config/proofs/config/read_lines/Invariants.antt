use Rattle.std.proofs.Common.{length}
use Rattle.pfc_config.proofs.Reading.{IsReading}
use Rattle.pfc_config.proofs.config.read_lines.Given as goal

abbrev pub invariant-lines : goal.invariant-lines
invariant-lines l = IsReading l.capacity l.bytes l.rest l.line l.settings

abbrev pub decreases-lines : goal.decreases-lines
decreases-lines l = length l.rest
