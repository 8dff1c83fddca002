use Rattle.std.proofs.Common.{arith}
use Rattle.std.specs.Int.RustNames.{count_ones}
use Rattle.std.proofs.lemmas.List.Sums.{sum_by_more_le}
use Rattle.pfc_base.proofs.Counts.{sum_by-ones-le}
use Rattle.pfc_base.proofs.words.ones_one_by_one.Goals as goal

pub overflow_add-total : goal.overflow_add-total
overflow_add-total c =
    let whole = sum_by-ones-le c.args.words.now c.type_inv.words in
    let more = sum_by_more_le count_ones c.args.words.now c.loop-w.w-index 0 c.loop-w-test.true in
    record { fits = omega (arith, whole, more, c.loop-w.invariant, c.from-total.ensures, c.requires) }
