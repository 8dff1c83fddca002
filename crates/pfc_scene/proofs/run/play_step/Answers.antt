use Rattle.std.proofs.Common.{◌∙◌, ap, sym, subst}
use Rattle.pfc_world.specs.Counts.{RoseBy}
use Rattle.pfc_actor.specs.Backings.{depot_of}
use Rattle.pfc_scene.specs.Scenes.{SceneView, IsLentBy, settled}
use Rattle.pfc_scene.proofs.Following.{each_ok, goes_persists, goes_still, moves_persists}
use Rattle.pfc_scene.proofs.Playing.{goes_none, writes_none, syncs_none, numbers_from_who}
use Rattle.pfc_scene.proofs.run.play_step.Goals as goal

pub returns-in-Ask-clause-lent : goal.returns-in-Ask-clause-lent
returns-in-Ask-clause-lent g c = subst (λ (v : SceneView). IsLentBy (depot_of g.P.Depot.out g.P.Depot.lent g.P.Depot.faults c.args.depot.now) v.backings) (sym c.ask.ensures.rest) c.requires.lent

pub returns-in-Ask-clause-paid : goal.returns-in-Ask-clause-paid
returns-in-Ask-clause-paid g c f rose = subst (λ (v : SceneView). RoseBy f (settled v.cores v.backings) (g.P.Depot.faults c.args.depot.now)) (sym c.ask.ensures.rest) rose

pub returns-in-Ask-clause-block_size : goal.returns-in-Ask-clause-block_size
returns-in-Ask-clause-block_size g c = ap (λ (v : SceneView). v.block_size) c.ask.ensures.rest

pub returns-in-Ask-clause-capacity : goal.returns-in-Ask-clause-capacity
returns-in-Ask-clause-capacity g c = ap (λ (v : SceneView). v.capacity) c.ask.ensures.rest

pub returns-in-Go-clause-paid : goal.returns-in-Go-clause-paid
returns-in-Go-clause-paid g c = c.go.ensures.plays.paid

pub returns-in-Go-clause-asked : goal.returns-in-Go-clause-asked
returns-in-Go-clause-asked g c = rw c.in-Go.is (c.go.ensures.plays.same ∙ sym (goes_none c.in-Go.client c.in-Go.times _))

pub returns-in-Go-clause-numbers : goal.returns-in-Go-clause-numbers
returns-in-Go-clause-numbers g c = numbers_from_who _ _ c.go.ensures.plays.same

pub returns-in-Write-clause-lent : goal.returns-in-Write-clause-lent
returns-in-Write-clause-lent g c = c.write.ensures.lent (depot_of g.P.Depot.out g.P.Depot.lent g.P.Depot.faults c.args.depot.now) c.requires.lent

pub returns-in-Write-clause-paid : goal.returns-in-Write-clause-paid
returns-in-Write-clause-paid g c f rose = subst (λ n. RoseBy f n (g.P.Depot.faults c.args.depot.now)) (sym c.write.ensures.settled_is) rose

pub returns-in-Write-clause-asked : goal.returns-in-Write-clause-asked
returns-in-Write-clause-asked g c = rw c.in-Write.is (c.write.ensures.same ∙ sym (writes_none c.in-Write.writer c.in-Write.times _))

pub returns-in-Write-clause-numbers : goal.returns-in-Write-clause-numbers
returns-in-Write-clause-numbers g c = numbers_from_who _ _ c.write.ensures.same

pub returns-in-Sync-clause-asked : goal.returns-in-Sync-clause-asked
returns-in-Sync-clause-asked g c = rw c.in-Sync.is (c.sync.ensures.same ∙ sym (syncs_none c.in-Sync.path.now c.in-Sync.times _))

pub returns-in-Sync-clause-numbers : goal.returns-in-Sync-clause-numbers
returns-in-Sync-clause-numbers g c = numbers_from_who _ _ c.sync.ensures.same

pub returns-in-Ask-clause-persists : goal.returns-in-Ask-clause-persists
returns-in-Ask-clause-persists g c = each_ok c.ask.result (λ told tells. goes_persists _ _ _ _ _ (ap (λ (v : SceneView). v.block_size) c.ask.ensures.rest)
    (goes_still _ _ (ap (λ (v : SceneView). v.cores) c.ask.ensures.rest) (ap (λ (v : SceneView). v.backings) c.ask.ensures.rest) (ap (λ (v : SceneView). v.block_size) c.ask.ensures.rest)) (λ path main home. home))

pub returns-in-Go-clause-persists : goal.returns-in-Go-clause-persists
returns-in-Go-clause-persists g c = c.go.ensures.persists

pub returns-in-Write-clause-persists : goal.returns-in-Write-clause-persists
returns-in-Write-clause-persists g c told tells = moves_persists _ _ _ _ c.write.ensures

pub returns-in-Sync-clause-persists : goal.returns-in-Sync-clause-persists
returns-in-Sync-clause-persists g c told tells = moves_persists _ _ _ _ c.sync.ensures
