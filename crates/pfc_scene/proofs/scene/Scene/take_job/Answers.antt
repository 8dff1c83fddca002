use Rattle.std.proofs.Common.{rules}
use Rattle.pfc_scene.proofs.Moving.{moves_from}
use Rattle.pfc_scene.proofs.Writing.{job_scene, job_moves}
use Rattle.pfc_scene.proofs.scene.Scene.take_job.Goals as goal

pub invariant_of-self : goal.invariant_of-self
invariant_of-self g c =
    job_scene _ c.args.w c.index_mut.result.now c.take-taken.new.self c.take-taken.new.queue c.self.invariant (search rules) c.index_mut.ensures.value c.take-taken.ensures.tokens c.take-taken.ensures.capacity c.take-taken.ensures.busy

pub returns : goal.returns
returns g c = moves_from _ _ _ c.self.view_is (job_moves _ c.args.w c.take-taken.new.self c.take-taken.new.queue c.take-taken.ensures.capacity)
