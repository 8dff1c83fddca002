use Rattle.pfc_actor.specs.Backings.{depot_of}
use Rattle.pfc_scene.proofs.Following.{moves_persists}
use Rattle.pfc_scene.proofs.Moving.{moves_plays}
use Rattle.pfc_scene.proofs.scene.Scene.move_on.Goals as goal

pub returns-in_default-clause-lent : goal.returns-in_default-clause-lent
returns-in_default-clause-lent g c = c.move_within.ensures.lent (depot_of g.P.Depot.out g.P.Depot.lent g.P.Depot.faults c.args.depot.now) c.requires.lent

pub returns-in_default-clause-plays : goal.returns-in_default-clause-plays
returns-in_default-clause-plays g c = moves_plays _ _ _ c.move_within.ensures

pub returns-in_default-clause-persists : goal.returns-in_default-clause-persists
returns-in_default-clause-persists g c told tells = moves_persists _ _ _ _ c.move_within.ensures
