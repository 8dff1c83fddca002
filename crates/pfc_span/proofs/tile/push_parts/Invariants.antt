use Rattle.std.proofs.Common.{◌≡◌, ◌+◌, ◌-◌, ◌≤◌, ◌++◌, List, min}
use Rattle.pfc_base.specs.declared.block.Part.{Part}
use Rattle.pfc_span.proofs.Cuts.{TilesFirst}
use Rattle.pfc_span.proofs.Placed.{beside}
use Rattle.pfc_span.proofs.tile.push_parts.Given as goal

abbrev pub invariant-loop-left : goal.invariant-loop-left
invariant-loop-left l = record {
  placed : (parts : List Part) × (l.placed.items ≡ l.fn.placed.items ++ beside l.place parts) × TilesFirst l.size l.k l.fn.piece.off (l.from - l.fn.piece.off) parts;
  start : l.fn.piece.off ≤ l.from;
  whole : l.from - l.fn.piece.off + l.left ≡ min l.fn.piece.len (l.size - l.fn.piece.off);
}

abbrev pub decreases-loop-left : goal.decreases-loop-left
decreases-loop-left l = l.left
