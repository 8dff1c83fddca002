use Rattle.std.proofs.Common.{◌≡◌, ◌++◌, ℕ, List, OnOk, ◌∙◌, subst}
use Rattle.pfc_log.specs.Runs.{runs_of, runs_text}
use Rattle.pfc_log.proofs.RunsOf.{runs_exact}
use Rattle.pfc_log.proofs.runs.push_set.Goals as goal

pub returns : goal.returns
returns c =
    let is : c.deref.result.now ≡ runs_of c.args.set.now = c.deref.ensures.value ∙ runs_exact c.args.set.now c.in_ok-runs.runs.items c.in_ok-runs.ensures in
    subst (λ (runs : List (ℕ × ℕ)). OnOk c.push_runs.result (c.push_runs.new.out.items ≡ c.args.out.now.items ++ runs_text runs)) is c.push_runs.ensures
