use Rattle.std.proofs.Common.{◌≡◌, ◌+◌, ◌-◌, ◌≤◌, ℕ}
use Rattle.std.specs.Prelude.{All, filter, vec_len, vec_capacity}
use Rattle.std.specs.List.{range_with_len}
use Rattle.pfc_report.specs.Schedule.{is_asked}
use Rattle.pfc_report.specs.Spent.{rows_of}
use Rattle.pfc_replay.specs.Play.{fresh_rows}
use Rattle.pfc_replay.proofs.play.add_links.Given as goal

abbrev pub invariant-loop-number : goal.invariant-loop-number
invariant-loop-number g l = record {
  rows : rows_of g.H.Link.Origin.number g.H.Link.Origin.calls g.H.Link.Origin.faults l.links.items ≡ fresh_rows (filter (is_asked l.plan) (range_with_len 1 (l.number - 1)));
  small : All (λ link. g.H.Link.Origin.number link ≤ 64) l.links.items;
  count : vec_len l.links + 1 ≤ l.number;
  room : 64 ≤ vec_capacity l.links;
  faults : g.H.Sources.faults l.fn.host ≤ g.H.Sources.faults l.host;
  spent : (n : ℕ) → g.H.Sources.spent l.host n ≡ g.H.Sources.spent l.fn.host n;
}
