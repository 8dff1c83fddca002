use Rattle.std.proofs.Common.{sym, subst}
use Rattle.pfc_world.specs.Run.{Run, moment}
use Rattle.pfc_world.specs.Disk.{Disk}
use Rattle.pfc_store.specs.Blocks.{SolidSince}
use Rattle.pfc_store.proofs.Sound.{stays_sound, in_store}
use Rattle.pfc_store.proofs.store.FileStore.read_part.Goals as goal

pub returns-clause-moments : goal.returns-clause-moments
returns-clause-moments g c =
    let d = c.self.inside.data in
    let i = c.self.inside.info in
    rw (← c.self.view_is) (stays_sound g.W.World.told g.W.World.files g.D.DataDev.told g.I.InfoDev.told g.D.DataDev.seen g.I.InfoDev.seen _ _
    (λ told file is tells. subst (λ (r : Run Disk). SolidSince file d.block_size d.durable r (moment (g.D.DataDev.seen d.device))) (sym (c.read_part.ensures.same tells)) (c.keeps.ensures.solid told file is tells))
    (λ tells. in_store d i (g.I.InfoDev.seen i.device) (moment (g.I.InfoDev.seen i.device)) c.self.invariant.fit (c.keeps-2.ensures.within tells)))
