use Rattle.std.proofs.Common.{◌≡◌, ◌∙◌, sym, ap, subst}
use Rattle.pfc_read.specs.OpView.{OpView, ToRead}
use Rattle.pfc_read.specs.Steps.{IsLeaveOf}
use Rattle.pfc_read.specs.Kept.{given_of}
use Rattle.pfc_read.proofs.Moves.{kept-left, same-read}
use Rattle.pfc_read.proofs.op.ReadOp.owe.Goals as goal

pub invariant_of-self : goal.invariant_of-self
invariant_of-self g c =
    let s = c.self.inside in
    let seg = c.in-Disk.segment in
    let leave = c.args.leave in
    let given : ToRead seg.part ≡ ToRead leave.part = ap given_of (sym c.in-Disk.is) ∙ ap (λ (v : OpView). v.given) c.self.view_is ∙ c.requires.given in
    let fits : IsLeaveOf s.reading leave = subst (λ (v : OpView). IsLeaveOf v.reading leave) (sym c.self.view_is) c.requires.leave in
    kept-left g.W.World.told g.W.World.files s seg leave c.add_owed.new.owed c.in-Disk.is fits (sym (same-read seg.part leave.part given)) c.add_owed.ensures.items c.add_owed.ensures.room c.self.invariant
