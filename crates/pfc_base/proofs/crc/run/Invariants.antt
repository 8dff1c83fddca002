use Rattle.std.proofs.Common.{◌≡◌, length}
use Rattle.pfc_base.specs.Crc.{after_bytes}
use Rattle.pfc_base.proofs.crc.run.Given as goal

abbrev pub invariant-loop-a : goal.invariant-loop-a
invariant-loop-a l = after_bytes l.c l.rest ≡ after_bytes l.start l.bytes

abbrev pub decreases-loop-a : goal.decreases-loop-a
decreases-loop-a l = length l.rest
