use Rattle.std.proofs.Common.{◌≤◌, length, take, ◌-◌}
use Rattle.pfc_world.specs.Texts.{Appends}
use Rattle.pfc_world.proofs.text.write_text.Given as goal

abbrev pub invariant-loop-at : goal.invariant-loop-at
invariant-loop-at g l = record {
  written : Appends g.S.Sink.told (g.S.Sink.written l.fn.out) (g.S.Sink.written l.out) (take l.at l.bytes);
  faults : g.S.Sink.faults l.fn.out ≤ g.S.Sink.faults l.out;
  within : l.at ≤ length l.bytes;
}

abbrev pub decreases-loop-at : goal.decreases-loop-at
decreases-loop-at g l = length l.bytes - l.at
