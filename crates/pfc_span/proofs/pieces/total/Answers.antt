use Rattle.std.proofs.Common.{arith}
use Rattle.std.proofs.lemmas.List.Sums.{sum_by_more_le, sum_by-take-le}
use Rattle.pfc_span.specs.Pieces.{piece_len}
use Rattle.pfc_span.proofs.Spots.{total-asked}
use Rattle.pfc_span.proofs.pieces.total.Goals as goal

pub overflow_add-sum : goal.overflow_add-sum
overflow_add-sum c =
    let most = total-asked c.args.size c.args.pieces.now in
    let more = sum_by_more_le (piece_len c.args.size) c.args.pieces.now c.loop-piece.piece-index (record { off = 0; len = 0 }) c.loop-piece-test.true in
    omega (arith, most, more, c.requires, c.loop-piece.invariant, c.min-sum.ensures, c.saturating_sub.ensures)

pub returns-clause-within : goal.returns-clause-within
returns-clause-within c =
    let most = total-asked c.args.size c.args.pieces.now in
    let part = sum_by-take-le (piece_len c.args.size) c.args.pieces.now c.loop-piece.piece-index in
    omega (arith, most, part, c.requires, c.loop-piece.invariant)
