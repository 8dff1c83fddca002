use Rattle.std.proofs.Common.{◌≤◌}
use Rattle.pfc_memory.specs.Data.{FirmBelow}
use Rattle.pfc_memory.proofs.pick.settled_len.Given as goal

abbrev pub invariant-loop-number : goal.invariant-loop-number
invariant-loop-number l = record { within : l.len ≤ l.number; reach : FirmBelow l.number l.places l.len }
