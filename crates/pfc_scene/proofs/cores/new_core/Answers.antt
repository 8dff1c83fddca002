use Rattle.pfc_scene.proofs.Making.{new_unpaid}
use Rattle.pfc_scene.proofs.cores.new_core.Goals as goal

pub returns-in-Some-clause-unpaid : goal.returns-in-Some-clause-unpaid
returns-in-Some-clause-unpaid g c = new_unpaid c.direct_only.result _ _ _ _ _ c.path.result.now c.block_count-blocks.result c.in-Some.ensures c.direct_only.ensures
