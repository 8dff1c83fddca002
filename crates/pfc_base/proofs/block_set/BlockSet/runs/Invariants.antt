use Rattle.std.proofs.Common.{◌-◌, length}
use Rattle.pfc_base.proofs.Runs.{RunsBelow}
use Rattle.pfc_base.proofs.block_set.BlockSet.runs.Given as goal

abbrev pub invariant-loop-first : goal.invariant-loop-first
invariant-loop-first l = RunsBelow l.runs.items l.self l.from

abbrev pub decreases-loop-first : goal.decreases-loop-first
decreases-loop-first l = length l.self - l.from
