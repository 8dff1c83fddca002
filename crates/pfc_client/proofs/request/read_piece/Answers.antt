use Rattle.std.proofs.Common.{◌∷◌, sym, ap, ◌∙◌}
use Rattle.pfc_client.specs.Requests.{piece_by}
use Rattle.pfc_client.proofs.Vectors.{long-piece}
use Rattle.pfc_client.proofs.request.read_piece.Goals as goal

pub returns-in-Some : goal.returns-in-Some
returns-in-Some c =
    let off = c.next_piece.result.0.now in
    let len = c.next_piece-2.result.0.now in
    let first = rw c.in_ok-behind.was at c.next_piece.ensures in
    let second = rw c.in-Some.is at c.next_piece-2.ensures in
    sym (ap piece_by (first.0 ∙ ap (λ ws. off ∷ ws) second.0) ∙ long-piece off len c.in-Some.field-0.now)
