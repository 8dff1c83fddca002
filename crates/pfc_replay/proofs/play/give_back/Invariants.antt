use Rattle.std.proofs.Common.{◌≡◌, ℕ}
use Rattle.pfc_report.specs.Spent.{rows_of}
use Rattle.pfc_replay.specs.Play.{given_back}
use Rattle.pfc_replay.proofs.play.give_back.Given as goal

abbrev pub invariant-loop-link : goal.invariant-loop-link
invariant-loop-link g l = record {
  spent : (n : ℕ) → g.H.Sources.spent l.host n ≡ given_back (g.H.Sources.spent l.fn.host) (rows_of g.H.Link.Origin.number g.H.Link.Origin.calls g.H.Link.Origin.faults l.yielded) n;
  faults : g.H.Sources.faults l.host ≡ g.H.Sources.faults l.fn.host;
}
