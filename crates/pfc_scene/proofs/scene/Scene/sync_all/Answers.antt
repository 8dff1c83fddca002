use Rattle.std.proofs.Common.{refl, ◌∙◌}
use Rattle.pfc_scene.proofs.Moving.{moves_not, moves_on}
use Rattle.pfc_scene.proofs.scene.Scene.sync_all.Goals as goal

pub loop-i-init : goal.loop-i-init
loop-i-init g c = record { moves = moves_not _; cores = refl }

pub loop-i-preserved : goal.loop-i-preserved
loop-i-preserved g c = record { moves = moves_on _ _ _ c.loop-i.invariant.moves (moves_on _ _ _ c.sync_step.ensures.moves c.finish_sync_at.ensures.moves); cores = c.finish_sync_at.ensures.cores ∙ c.sync_step.ensures.cores ∙ c.loop-i.invariant.cores }
