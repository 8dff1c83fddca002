use Rattle.std.proofs.Common.{◌≡◌, ◌++◌, drop}
use Rattle.pfc_log.specs.Runs.{more_runs_text}
use Rattle.pfc_log.proofs.runs.push_more_runs.Given as goal

abbrev pub invariant-loop-run : goal.invariant-loop-run
invariant-loop-run l = l.out.items ++ more_runs_text (drop l.run-index l.runs) ≡ l.fn.out.items ++ more_runs_text l.runs
