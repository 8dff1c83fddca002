use Rattle.std.proofs.Common.{◌≡◌, ◌+◌, ◌≤◌, ◌++◌, map, reverse, length}
use Rattle.std.specs.Prelude.{vec_capacity}
use Rattle.pfc_report.specs.Spent.{rows_of}
use Rattle.pfc_scene.specs.Scenes.{number_of}
use Rattle.pfc_scene.specs.Ends.{row_of, told_of}
use Rattle.pfc_scene.proofs.run.end_clients.Given as goal

abbrev pub invariant-loop-client : goal.invariant-loop-client
invariant-loop-client g l = record {
  links : rows_of g.O.Origin.number g.O.Origin.calls g.O.Origin.faults l.fn.links.items ++ map row_of (reverse l.fn.clients.items) ≡ rows_of g.O.Origin.number g.O.Origin.calls g.O.Origin.faults l.links.items ++ map row_of (reverse l.clients.items);
  told : l.fn.told.items ++ map told_of (reverse l.fn.clients.items) ≡ l.told.items ++ map told_of (reverse l.clients.items);
  numbers : map g.O.Origin.number l.fn.links.items ++ map number_of (reverse l.fn.clients.items) ≡ map g.O.Origin.number l.links.items ++ map number_of (reverse l.clients.items);
  link_room : length l.links.items + length l.clients.items ≤ vec_capacity l.links;
  told_room : length l.told.items + length l.clients.items ≤ vec_capacity l.told;
}

abbrev pub decreases-loop-client : goal.decreases-loop-client
decreases-loop-client g l = goal.left-loop-client g l
