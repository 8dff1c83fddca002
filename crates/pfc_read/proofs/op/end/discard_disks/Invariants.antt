use Rattle.pfc_read.proofs.op.end.discard_disks.Given as goal

abbrev pub invariant-loop-disk : goal.invariant-loop-disk
invariant-loop-disk g l = Unit {0}

abbrev pub decreases-loop-disk : goal.decreases-loop-disk
decreases-loop-disk g l = goal.left-loop-disk g l
