use Rattle.std.proofs.Common.{◌≡◌, ◌+◌, ◌≤◌, ◌++◌, map, reverse, length}
use Rattle.std.specs.Prelude.{All, vec_capacity}
use Rattle.pfc_report.specs.Spent.{rows_of}
use Rattle.pfc_scene.specs.Scenes.{number_of}
use Rattle.pfc_actor.specs.Clients.{IsFresh}
use Rattle.pfc_scene.specs.Ends.{fresh_book}
use Rattle.pfc_scene.proofs.run.make_clients.Given as goal

abbrev pub invariant-loop-book : goal.invariant-loop-book
invariant-loop-book g l = record {
  rows : rows_of g.O.Origin.number g.O.Origin.calls g.O.Origin.faults l.links.items ≡ map (λ b. (b.number, 0, 0)) l.books.items;
  books : All (λ b. b ≡ fresh_book b.number) l.books.items;
  clients : All (λ a. IsFresh a.book.number a) l.clients.items;
  numbers : map number_of l.clients.items ++ reverse (map (λ b. b.number) l.books.items) ≡ reverse (map (λ b. b.number) l.fn.books.items);
  room : length l.clients.items + length l.books.items ≤ vec_capacity l.clients;
  capacity : vec_capacity l.links ≡ vec_capacity l.fn.links;
}

abbrev pub decreases-loop-book : goal.decreases-loop-book
decreases-loop-book g l = goal.left-loop-book g l
