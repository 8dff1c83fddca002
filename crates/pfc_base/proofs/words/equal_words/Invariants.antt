use Rattle.std.proofs.Common.{◌≡◌, ◌+◌, ◌==◌, length}
use Rattle.std.specs.List.{prefix_len}
use Rattle.pfc_base.proofs.words.equal_words.Given as goal

abbrev pub invariant-loop-eight : goal.invariant-loop-eight
invariant-loop-eight l = (l.n + length l.rest ≡ length l.words) × (l.n + prefix_len (λ w. w == l.word) l.rest ≡ prefix_len (λ w. w == l.word) l.words)

abbrev pub decreases-loop-eight : goal.decreases-loop-eight
decreases-loop-eight l = length l.rest
