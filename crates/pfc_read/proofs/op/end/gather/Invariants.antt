use Rattle.std.proofs.Common.{◌≡◌, ◌+◌, ◌≤◌, ◌++◌, map, reverse, length}
use Rattle.std.specs.Prelude.{vec_capacity}
use Rattle.pfc_read.specs.Segments.{pin_in}
use Rattle.pfc_read.proofs.op.end.gather.Given as goal

abbrev pub invariant-loop-pending : goal.invariant-loop-pending
invariant-loop-pending g l = record {
  gathered : l.fn.pins.items ++ map pin_in (reverse l.fn.pendings.items) ≡ l.pins.items ++ map pin_in (reverse l.pendings.items);
  room : length l.pins.items + length l.pendings.items ≤ vec_capacity l.pins;
}

abbrev pub decreases-loop-pending : goal.decreases-loop-pending
decreases-loop-pending g l = goal.left-loop-pending g l
