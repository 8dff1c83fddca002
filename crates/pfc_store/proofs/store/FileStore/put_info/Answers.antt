use Rattle.std.proofs.Common.{◌≡◌, IsTrue, sym, subst}
use Rattle.pfc_world.specs.Run.{moment}
use Rattle.pfc_store.specs.Claims.{WithinSince}
use Rattle.pfc_store.specs.Views.{InfoView}
use Rattle.pfc_store.proofs.Sound.{stays_sound}
use Rattle.pfc_store.proofs.store.FileStore.put_info.Goals as goal

pub returns-clause-moments : goal.returns-clause-moments
returns-clause-moments g c =
    let d = c.self.inside.data in
    let i = c.self.inside.info in
    let raised : c.raise.new.self ≡ record i { due = d.durable } = cc in
    let new = c.put_info-answer.new.self in
    let within : IsTrue g.I.InfoDev.told → WithinSince i.size i.block_size i.claimed d.durable (g.I.InfoDev.seen new.device) (moment (g.I.InfoDev.seen i.device)) = λ tells. subst (λ (v : InfoView _). WithinSince v.size v.block_size v.claimed v.due (g.I.InfoDev.seen new.device) (moment (g.I.InfoDev.seen v.device))) raised (c.put_info-answer.ensures.within tells) in
    rw (← c.self.view_is, c.freeze.ensures) (stays_sound g.W.World.told g.W.World.files g.D.DataDev.told g.I.InfoDev.told g.D.DataDev.seen g.I.InfoDev.seen _ _
    c.keeps.ensures.solid
    (λ tells. subst (λ n. WithinSince n d.block_size i.claimed d.durable (g.I.InfoDev.seen new.device) (moment (g.I.InfoDev.seen i.device))) (sym c.self.invariant.fit.size_is)
    (subst (λ n. WithinSince i.size n i.claimed d.durable (g.I.InfoDev.seen new.device) (moment (g.I.InfoDev.seen i.device))) (sym c.self.invariant.fit.block_is) (within tells))))
