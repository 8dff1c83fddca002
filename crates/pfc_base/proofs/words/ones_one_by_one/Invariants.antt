use Rattle.std.proofs.Common.{◌≡◌, sum_by, take}
use Rattle.std.specs.Int.RustNames.{count_ones}
use Rattle.pfc_base.proofs.words.ones_one_by_one.Given as goal

abbrev pub invariant-loop-w : goal.invariant-loop-w
invariant-loop-w l = l.total ≡ sum_by count_ones (take l.w-index l.words)
