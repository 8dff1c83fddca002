use Rattle.std.proofs.Common.{◌≡◌, length}
use Rattle.pfc_base.proofs.block_set.tests.all_but_128.Given as goal

abbrev pub invariant-loop-i : goal.invariant-loop-i
invariant-loop-i l = length l.set ≡ 130
