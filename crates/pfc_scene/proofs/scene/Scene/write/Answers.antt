use Rattle.std.proofs.Common.{length, ap, arith}
use Rattle.pfc_scene.specs.Scenes.{SceneView}
use Rattle.pfc_scene.proofs.Moving.{moves_not, moves_on}
use Rattle.pfc_scene.proofs.scene.Scene.write.Goals as goal

pub loop-step-init : goal.loop-step-init
loop-step-init g c =
    let long = ap (λ (v : SceneView). length v.writers) c.self.view_is in
    record { moves = moves_not c.args.self.now; low = omega (arith, long) }

pub loop-step-preserved : goal.loop-step-preserved
loop-step-preserved g c = record { moves = moves_on _ _ _ c.loop-step.invariant.moves c.write_step.ensures; low = omega (arith, c.write_step.ensures.writers_are, c.loop-step.invariant.low) }
