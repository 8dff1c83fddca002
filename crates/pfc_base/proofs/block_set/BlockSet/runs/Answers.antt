use Rattle.std.proofs.Common.{◌-◌, unwrap_or, ap, ◌∙◌, arith}
use Rattle.pfc_base.proofs.Runs.{ends-run, runs-more}
use Rattle.pfc_base.proofs.block_set.BlockSet.runs.Goals as goal

pub loop-first-preserved : goal.loop-first-preserved
loop-first-preserved c =
    let set = c.args.self.now in
    let first = c.in-Some.first in
    let end = c.unwrap_or-end.result in
    let found = c.first_absent.result in
    let ends = ends-run set c.loop-first.from first end found c.in-Some.ensures c.first_absent.ensures (c.unwrap_or-end.ensures ∙ ap (unwrap_or found) c.bound.ensures) in
    rw c.in_ok-push.ensures.items (runs-more c.loop-first.runs.items set c.loop-first.from first end (end - 1) c.loop-first.invariant c.in-Some.ensures ends (omega (arith, ends.after)))
