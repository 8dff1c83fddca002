use Rattle.std.proofs.Common.{ℕ, ◌==◌, arith}
use Rattle.std.proofs.lemmas.List.Sums.{prefix_len-le-length}
use Rattle.pfc_base.proofs.words.equal_words.Goals as goal

pub overflow_add-result-2 : goal.overflow_add-result-2
overflow_add-result-2 c =
    record { fits = omega (arith, c.equal_one_by_one.ensures, prefix_len-le-length (λ (w : ℕ). w == c.args.word) c.loop-eight.rest.now, c.loop-eight.invariant.0) }
