use Rattle.std.proofs.Common.{rules}
use Rattle.pfc_scene.proofs.Moving.{moves_not, moves_on}
use Rattle.pfc_scene.proofs.scene.Scene.give_all_back.Goals as goal

pub loop-j-init : goal.loop-j-init
loop-j-init g c = record { moves = moves_not _; len = search rules }

pub loop-j-preserved : goal.loop-j-preserved
loop-j-preserved g c = record { moves = moves_on _ _ _ c.loop-j.invariant.moves c.give_back.ensures; len = search rules }
