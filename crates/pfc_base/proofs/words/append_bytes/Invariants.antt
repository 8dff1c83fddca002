use Rattle.std.proofs.Common.{◌≡◌, ◌+◌, ◌-◌, ◌*◌, ◌%◌, ◌≤◌, ◌++◌, length, take, vec_len, vec_capacity}
use Rattle.pfc_base.specs.Words.{bytes_of}
use Rattle.pfc_base.proofs.words.append_bytes.Given as goal

abbrev pub invariant-loop-w : goal.invariant-loop-w
invariant-loop-w l = record {
  written : l.into.items ≡ l.initial.into.items ++ bytes_of (take l.w-index l.whole);
  room : vec_len l.into + (8 * (length l.whole - l.w-index) + l.count % 8) ≤ vec_capacity l.into;
}
