use Rattle.std.proofs.Common.{Bool, ap, ◌∙◌, arith, sum_by, length}
use Rattle.std.specs.Int.RustNames.{count_ones}
use Rattle.std.proofs.lemmas.List.Sums.{count_by-le-length}
use Rattle.pfc_base.proofs.Sets.{words-of_view, sum-of_words}
use Rattle.pfc_base.proofs.block_set.BlockSet.count.Goals as goal

pub ones-requires : goal.ones-requires
ones-requires c = omega (arith, ap length c.deref.ensures.value, c.self.invariant.size, c.self.invariant.small)

pub overflow_cast-result : goal.overflow_cast-result
overflow_cast-result c =
    let words = words-of_view c.self.inside.words.items c.self.inside.bound c.args.self.now c.self.invariant c.self.view_is in
    let count = c.ones.ensures ∙ ap (sum_by count_ones) c.deref.ensures.value ∙ sum-of_words c.self.inside.words.items c.args.self.now c.self.invariant.fits words.1 in
    record { fits = omega (arith, count, count_by-le-length (λ (t : Bool). t) c.args.self.now, words.0, c.self.invariant.small) }

pub returns : goal.returns
returns c =
    let words = words-of_view c.self.inside.words.items c.self.inside.bound c.args.self.now c.self.invariant c.self.view_is in
    c.ones.ensures ∙ ap (sum_by count_ones) c.deref.ensures.value ∙ sum-of_words c.self.inside.words.items c.args.self.now c.self.invariant.fits words.1
