use Rattle.pfc_world.specs.Run.{moment}
use Rattle.pfc_store.proofs.Sound.{stays_sound, in_store}
use Rattle.pfc_store.proofs.store.FileStore.write_block.Goals as goal

pub returns-clause-moments : goal.returns-clause-moments
returns-clause-moments g c =
    let d = c.self.inside.data in
    let i = c.self.inside.info in
    rw (← c.self.view_is, c.freeze.ensures) (stays_sound g.W.World.told g.W.World.files g.D.DataDev.told g.I.InfoDev.told g.D.DataDev.seen g.I.InfoDev.seen _ _
    c.write_block-answer.ensures.solid
    (λ tells. in_store d i (g.I.InfoDev.seen i.device) (moment (g.I.InfoDev.seen i.device)) c.self.invariant.fit (c.keeps.ensures.within tells)))
