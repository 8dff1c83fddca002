use Rattle.std.proofs.Common.{◌≡◌, ◌-◌, ◌^◌, min, take}
use Rattle.pfc_span.specs.Pieces.{asked_of}
use Rattle.pfc_span.proofs.pieces.asked.Given as goal

abbrev pub invariant-loop-piece : goal.invariant-loop-piece
invariant-loop-piece l = l.sum ≡ min (asked_of (take l.piece-index l.pieces)) (2 ^ 64 - 1)
