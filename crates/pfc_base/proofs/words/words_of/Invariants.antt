use Rattle.std.proofs.Common.{◌≡◌, ℕ, ◌<◌, ◌^◌, ◌++◌, length, slice_index}
use Rattle.pfc_base.specs.Words.{bytes_of}
use Rattle.pfc_base.proofs.words.words_of.Given as goal

abbrev pub invariant-loop-eight : goal.invariant-loop-eight
invariant-loop-eight l = record {
  read : bytes_of l.words.items ++ l.rest ≡ l.bytes;
  small : (k : ℕ) → slice_index l.rest k < 256;
  fits : (k : ℕ) → slice_index l.words.items k < 2 ^ 64;
}

abbrev pub decreases-loop-eight : goal.decreases-loop-eight
decreases-loop-eight l = length l.rest
