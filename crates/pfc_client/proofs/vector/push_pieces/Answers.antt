use Rattle.std.proofs.Common.{◌≡◌, ◌+◌, ◌++◌, ℕ, List, drop, get_or, sym, ap, ◌∙◌, arith, append_assoc}
use Rattle.std.specs.List.{flat_map}
use Rattle.std.proofs.lemmas.List.Sums.{sum_by_more}
use Rattle.pfc_base.specs.Block.{slice_of}
use Rattle.pfc_base.specs.declared.block.Piece.{Piece}
use Rattle.pfc_span.specs.Pieces.{piece_len}
use Rattle.pfc_client.specs.Vectors.{in_pieces, piece_text}
use Rattle.pfc_client.proofs.Vectors.{text-step}
use Rattle.pfc_client.proofs.vector.push_pieces.Goals as goal

pub loop-piece-preserved : goal.loop-piece-preserved
loop-piece-preserved c =
    let d : Piece = record { off = 0; len = 0 } in
    let pieces = c.args.pieces.now in
    let size = c.args.size in
    let bytes = c.args.bytes.now in
    let i = c.loop-piece.piece-index in
    let at = c.loop-piece.at in
    let n = c.min-len.result in
    let out = c.loop-piece.out.items in
    let long : n ≡ piece_len size (get_or pieces i d) = omega (arith, c.min-len.ensures, c.saturating_sub.ensures) in
    let more = sum_by_more (piece_len size) pieces i d c.loop-piece-test.true in
    let rest : List ℕ = flat_map piece_text (in_pieces size (drop (i + 1) pieces) (drop (at + n) bytes)) in
    record {
      at = omega (arith, long, more, c.loop-piece.invariant.at);
      text = ap (λ o. o ++ rest) (c.in_ok-push_piece.ensures ∙ ap (λ s. out ++ piece_text s) c.slice.ensures)
          ∙ append_assoc out (piece_text (slice_of bytes at n)) rest
          ∙ ap (λ f. out ++ f) (sym (text-step size pieces i n at bytes d c.loop-piece-test.true long))
          ∙ c.loop-piece.invariant.text;
    }
