use Rattle.std.proofs.Common.{rules}
use Rattle.pfc_scene.proofs.Moving.{moves_not, moves_on}
use Rattle.pfc_scene.proofs.scene.Scene.finish_jobs.Goals as goal

pub loop-w-init : goal.loop-w-init
loop-w-init g c = record { moves = moves_not _; len = search rules }

pub loop-w-preserved : goal.loop-w-preserved
loop-w-preserved g c = record { moves = moves_on _ _ _ c.loop-w.invariant.moves c.finish_job.ensures; len = search rules }
