use Rattle.std.proofs.Common.{◌≡◌, ◌++◌, take, drop}
use Rattle.std.specs.List.{flat_map}
use Rattle.pfc_span.specs.Pieces.{total_of}
use Rattle.pfc_client.specs.Vectors.{piece_text, in_pieces}
use Rattle.pfc_client.proofs.vector.push_pieces.Given as goal

abbrev pub invariant-loop-piece : goal.invariant-loop-piece
invariant-loop-piece l = record {
  at : l.at ≡ total_of l.size (take l.piece-index l.pieces);
  text : l.out.items ++ flat_map piece_text (in_pieces l.size (drop l.piece-index l.pieces) (drop l.at l.bytes)) ≡ l.fn.out.items ++ flat_map piece_text (in_pieces l.size l.pieces l.bytes);
}
