use Rattle.pfc_base.specs.Pieces.{AreFree}
use Rattle.pfc_base.proofs.pieces.find_byte.Given as goal

abbrev pub invariant-loop-i : goal.invariant-loop-i
invariant-loop-i l = AreFree l.byte l.bytes l.i
