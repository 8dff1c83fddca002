use Rattle.std.proofs.Common.{◌≡◌, take}
use Rattle.pfc_span.specs.Pieces.{total_of}
use Rattle.pfc_span.proofs.pieces.total.Given as goal

abbrev pub invariant-loop-piece : goal.invariant-loop-piece
invariant-loop-piece l = l.sum ≡ total_of l.size (take l.piece-index l.pieces)
