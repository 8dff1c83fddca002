use Rattle.pfc_memory.specs.Data.{SameWhereFirm}
use Rattle.pfc_memory.proofs.pick.spoil.Given as goal

abbrev pub invariant-loop-number : goal.invariant-loop-number
invariant-loop-number l = SameWhereFirm l.places l.fn.bytes l.bytes
