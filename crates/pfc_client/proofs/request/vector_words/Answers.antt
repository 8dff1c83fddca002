use Rattle.std.proofs.Common.{◌∷◌, sym, ap, ◌∙◌}
use Rattle.pfc_client.specs.Requests.{is_word, by_words}
use Rattle.pfc_client.proofs.Vectors.{vector-line}
use Rattle.pfc_client.proofs.request.vector_words.Goals as goal

pub returns-then-eq : goal.returns-then-eq
returns-then-eq c =
    let verb = c.next_piece.result.0.now in
    let number = c.next_piece-2.result.0.now in
    let words = c.in_ok-words.words.now in
    let first = rw c.in_ok-rest.was at c.next_piece.ensures in
    let second = rw c.in_ok-words.was at c.next_piece-2.ensures in
    let named = sym (c.if-eq.ensures ∙ ap (λ w. is_word verb w) c.as_slice.ensures) in
    ap by_words (first.0 ∙ ap (λ ws. verb ∷ ws) second.0) ∙ vector-line verb number words named
