use Rattle.std.proofs.Common.{rules}
use Rattle.pfc_scene.proofs.Moving.{moves_not, moves_on}
use Rattle.pfc_scene.proofs.scene.Scene.sync.Goals as goal

pub loop-step-init : goal.loop-step-init
loop-step-init g c = record { moves = moves_not _; low = search rules }

pub loop-step-preserved : goal.loop-step-preserved
loop-step-preserved g c = record { moves = moves_on _ _ _ c.loop-step.invariant.moves c.sync_step.ensures.moves; low = search rules }
