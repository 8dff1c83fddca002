use Rattle.pfc_actor.specs.Backings.{depot_of}
use Rattle.std.proofs.Common.{◌∙◌}
use Rattle.pfc_scene.proofs.Following.{moves_persists, persists_on, same_asked}
use Rattle.pfc_scene.proofs.Moving.{moves_on, moves_plays, plays_on}
use Rattle.pfc_scene.proofs.scene.Scene.drain.Goals as goal

pub complete_all-requires-clause-lent : goal.complete_all-requires-clause-lent
complete_all-requires-clause-lent g c κs within = c.give_all.ensures.lent (depot_of g.P.Depot.out g.P.Depot.lent g.P.Depot.faults c.settle_all.new.depot) c.settle_all.ensures.lent

pub returns-clause-lent : goal.returns-clause-lent
returns-clause-lent g c = (moves_on _ _ _ c.write_out.ensures (moves_on _ _ _ c.shut_all.ensures c.sync_all.ensures)).lent (depot_of g.P.Depot.out g.P.Depot.lent g.P.Depot.faults c.complete_all.new.depot) c.complete_all.ensures.lent

pub returns-clause-plays : goal.returns-clause-plays
returns-clause-plays g c =
    plays_on _ _ _ _ _ _ c.settle_all.ensures.plays
    (plays_on _ _ _ _ _ _ (moves_plays _ _ _ c.give_all.ensures)
    (plays_on _ _ _ _ _ _ c.complete_all.ensures.plays (moves_plays _ _ _ (moves_on _ _ _ c.write_out.ensures (moves_on _ _ _ c.shut_all.ensures c.sync_all.ensures)))))

pub returns-clause-persists : goal.returns-clause-persists
returns-clause-persists g c told tells =
    let rest = moves_on _ _ _ c.write_out.ensures (moves_on _ _ _ c.shut_all.ensures c.sync_all.ensures) in
    let last = persists_on _ _ _ _ _ _ _ (same_asked _ _ rest.same) (c.complete_all.ensures.persists told tells) (moves_persists _ _ _ _ rest) in
    let back = persists_on _ _ _ _ _ _ _ (same_asked _ _ (rest.same ∙ c.complete_all.ensures.plays.same)) (moves_persists _ _ _ _ c.give_all.ensures) last in
    persists_on _ _ _ _ _ _ _ (same_asked _ _ (rest.same ∙ c.complete_all.ensures.plays.same ∙ c.give_all.ensures.same)) (c.settle_all.ensures.persists told tells) back
