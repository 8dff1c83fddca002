use Rattle.pfc_scene.proofs.Moving.{moves_on}
use Rattle.pfc_scene.proofs.scene.Scene.make.Goals as goal

pub returns-in-Some : goal.returns-in-Some
returns-in-Some g c = moves_on _ _ _ c.add_core.ensures c.join.ensures

pub returns-in-None : goal.returns-in-None
returns-in-None g c = moves_on _ _ _ c.add_core.ensures c.give_up.ensures
