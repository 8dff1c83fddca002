use Rattle.std.proofs.Common.{◌≡◌, ◌-◌, ◌≤◌, map}
use Rattle.std.specs.Prelude.{All, filter}
use Rattle.std.specs.List.{range_with_len}
use Rattle.pfc_report.specs.Schedule.{is_asked}
use Rattle.pfc_scene.specs.Ends.{fresh_book}
use Rattle.pfc_scene.proofs.run.make_books.Given as goal

abbrev pub invariant-loop-number : goal.invariant-loop-number
invariant-loop-number g l = record {
  numbers : map (λ b. b.number) l.books.items ≡ filter (is_asked l.plan) (range_with_len 1 (l.number - 1));
  least : 1 ≤ l.number;
  fresh : All (λ b. b ≡ fresh_book b.number) l.books.items;
}
