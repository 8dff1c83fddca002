use Rattle.std.proofs.Common.{◌≡◌, ◌+◌, ◌++◌, ◌≤◌, IsTrue, vec_len, ◌-◌, ◌<◌}
use Rattle.pfc_world.proofs.text.read_text.Given as goal

abbrev pub invariant-loop-place : goal.invariant-loop-place
invariant-loop-place g l = record {
  read : IsTrue g.I.Source.told → g.I.Source.left l.fn.input ≡ l.text.items ++ g.I.Source.left l.input;
  faults : g.I.Source.faults l.fn.input ≤ g.I.Source.faults l.input;
  most : vec_len l.text ≤ l.most;
  room : 0 < vec_len l.place;
}

abbrev pub decreases-loop-place : goal.decreases-loop-place
decreases-loop-place g l = l.most - vec_len l.text
