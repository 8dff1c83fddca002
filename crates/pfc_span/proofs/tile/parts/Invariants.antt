use Rattle.std.proofs.Common.{map}
use Rattle.pfc_span.proofs.Placed.{TileBelow}
use Rattle.pfc_span.proofs.Spots.{InTurnBelow}
use Rattle.pfc_span.proofs.tile.parts.Given as goal

abbrev pub invariant-loop-i : goal.invariant-loop-i
invariant-loop-i l = record {
  each : TileBelow l.size l.k l.pieces l.i l.placed.items;
  turn : InTurnBelow l.size l.k l.pieces l.i (map (λ x. x.1) l.placed.items);
}
