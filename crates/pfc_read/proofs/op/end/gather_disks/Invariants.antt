use Rattle.std.proofs.Common.{◌≡◌, ◌+◌, ◌≤◌, ◌++◌, map, reverse, length}
use Rattle.std.specs.Prelude.{vec_capacity}
use Rattle.pfc_read.specs.Segments.{disk_in}
use Rattle.pfc_read.proofs.op.end.gather_disks.Given as goal

abbrev pub invariant-loop-found : goal.invariant-loop-found
invariant-loop-found g l = record {
  gathered : l.fn.unread.items ++ map disk_in (reverse l.fn.disks.items) ≡ l.unread.items ++ map disk_in (reverse l.disks.items);
  room : length l.unread.items + length l.disks.items ≤ vec_capacity l.unread;
}

abbrev pub decreases-loop-found : goal.decreases-loop-found
decreases-loop-found g l = goal.left-loop-found g l
