use Rattle.pfc_scene.proofs.Starting.{begun}
use Rattle.pfc_scene.proofs.scene.Scene.new.Goals as goal

pub invariant_of-result : goal.invariant_of-result
invariant_of-result g c =
    rw (c.new.ensures.items, c.new-2.ensures.items, c.requires.empty)
    (begun c.args.block_size c.args.queue.capacity c.args.clients.items c.args.writers.items c.requires.block_size c.requires.fresh c.requires.unique c.requires.resting)
