use Rattle.std.proofs.Common.{rules}
use Rattle.pfc_scene.proofs.Moving.{moves_not, moves_on}
use Rattle.pfc_scene.proofs.scene.Scene.write_out.Goals as goal

pub loop-turn-init : goal.loop-turn-init
loop-turn-init g c = record { moves = moves_not _; some = search rules }

pub loop-turn-preserved : goal.loop-turn-preserved
loop-turn-preserved g c = record { moves = moves_on _ _ _ c.loop-turn.invariant.moves c.write_step.ensures; some = search rules }
