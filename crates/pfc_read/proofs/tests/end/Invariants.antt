use Rattle.std.proofs.Common.{◌≡◌}
use Rattle.pfc_read.specs.OpView.{Nothing}
use Rattle.pfc_read.proofs.tests.end.Given as goal

abbrev pub invariant-loop : goal.invariant-loop
invariant-loop g l = l.op.given ≡ Nothing
