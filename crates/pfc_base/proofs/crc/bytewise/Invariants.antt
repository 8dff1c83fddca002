use Rattle.std.proofs.Common.{◌≡◌, take}
use Rattle.pfc_base.specs.Crc.{after_bytes}
use Rattle.pfc_base.proofs.crc.bytewise.Given as goal

abbrev pub invariant-loop-b : goal.invariant-loop-b
invariant-loop-b l = l.c ≡ after_bytes l.start (take l.b-index l.bytes)
