use Rattle.std.proofs.Common.{◌≡◌, ◌+◌, length, sum_by}
use Rattle.std.specs.Int.RustNames.{count_ones}
use Rattle.std.specs.Simd.Lanes.{sum_l}
use Rattle.pfc_base.proofs.words.ones.Given as goal

abbrev pub invariant-loop-four : goal.invariant-loop-four
invariant-loop-four l = (length l.sum ≡ 4) × (sum_l l.sum + sum_by count_ones l.rest ≡ sum_by count_ones l.words)

abbrev pub decreases-loop-four : goal.decreases-loop-four
decreases-loop-four l = length l.rest
