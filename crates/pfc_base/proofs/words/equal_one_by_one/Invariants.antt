use Rattle.std.proofs.Common.{◌≡◌, ◌+◌, ◌==◌, length}
use Rattle.std.specs.List.{prefix_len}
use Rattle.pfc_base.proofs.words.equal_one_by_one.Given as goal

abbrev pub invariant-loop-w : goal.invariant-loop-w
invariant-loop-w l = (l.n + length l.rest ≡ length l.words) × (l.n + prefix_len (λ w. w == l.word) l.rest ≡ prefix_len (λ w. w == l.word) l.words)

abbrev pub decreases-loop-w : goal.decreases-loop-w
decreases-loop-w l = length l.rest
