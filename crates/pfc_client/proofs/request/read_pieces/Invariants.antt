use Rattle.std.proofs.Common.{◌≡◌, ◌≤◌, length}
use Rattle.pfc_base.specs.Pieces.{pieces_of}
use Rattle.pfc_client.specs.Requests.{few_pieces}
use Rattle.pfc_client.proofs.Vectors.{behind}
use Rattle.pfc_client.proofs.request.read_pieces.Given as goal

abbrev pub invariant-words : goal.invariant-words
invariant-words l = record {
  named : behind l.pieces.items (pieces_of 32 l.rest) ≡ few_pieces (pieces_of 32 l.words);
  few : length l.pieces.items ≤ 1024;
}

abbrev pub decreases-words : goal.decreases-words
decreases-words l = length l.rest
