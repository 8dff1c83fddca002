use Rattle.std.proofs.Common.{◌≡◌, ◌∙◌, sym, ap, subst, Some, None}
use Rattle.pfc_read.specs.OpView.{OpView, ToEnd}
use Rattle.pfc_read.specs.Ends.{IsData, EndsRead}
use Rattle.pfc_read.specs.Kept.{given_of}
use Rattle.pfc_read.proofs.Ended.{data-of, ends-op}
use Rattle.pfc_read.proofs.op.ReadOp.finish.Goals as goal

pub returns-in-None-clause-answer : goal.returns-in-None-clause-answer
returns-in-None-clause-answer g c =
    let s = c.self.inside in
    let ended : given_of s.hand ≡ ToEnd = ap (λ (v : OpView). v.given) c.self.view_is ∙ c.requires in (
      ap (λ (v : OpView). v.met) (sym c.self.view_is) ∙ c.in-None.is,
      ap (λ (v : OpView). v.pieces) c.self.view_is,
      c.self.invariant.size_is ∙ ap (λ (v : OpView). v.reading.size) c.self.view_is,
      subst (λ v. IsData g.W.World.told g.W.World.files v s.bytes.items s.served) c.self.view_is (data-of g.W.World.told g.W.World.files s ended c.in-None.is c.self.invariant),
    )

pub returns-in-None-clause-core : goal.returns-in-None-clause-core
returns-in-None-clause-core g c =
    let s = c.self.inside in
    let ended : given_of s.hand ≡ ToEnd = ap (λ (v : OpView). v.given) c.self.view_is ∙ c.requires in
    subst (λ v. EndsRead c.args.core.now v (Some s.served) c.give_back.new.core) c.self.view_is
    (ends-op g.W.World.told g.W.World.files s ended c.args.core.now c.gather-pins.result.items c.gather_disks-disks.result.items (Some s.served) c.give_back.new.core c.gather-pins.ensures c.gather_disks-disks.ensures c.self.invariant c.give_back.ensures)

pub returns-in-Some-Fault-clause-core : goal.returns-in-Some-Fault-clause-core
returns-in-Some-Fault-clause-core g c =
    let s = c.self.inside in
    let ended : given_of s.hand ≡ ToEnd = ap (λ (v : OpView). v.given) c.self.view_is ∙ c.requires in
    subst (λ v. EndsRead c.args.core.now v None c.give_back-in-Some-Fault.new.core) c.self.view_is
    (ends-op g.W.World.told g.W.World.files s ended c.args.core.now c.gather-pins.result.items c.gather_disks-disks.result.items None c.give_back-in-Some-Fault.new.core c.gather-pins.ensures c.gather_disks-disks.ensures c.self.invariant c.give_back-in-Some-Fault.ensures)

pub returns-clause-core : goal.returns-clause-core
returns-clause-core g c =
    let s = c.self.inside in
    let ended : given_of s.hand ≡ ToEnd = ap (λ (v : OpView). v.given) c.self.view_is ∙ c.requires in
    subst (λ v. EndsRead c.args.core.now v None c.give_back-in-Some-Memory.new.core) c.self.view_is
    (ends-op g.W.World.told g.W.World.files s ended c.args.core.now c.gather-pins.result.items c.gather_disks-disks.result.items None c.give_back-in-Some-Memory.new.core c.gather-pins.ensures c.gather_disks-disks.ensures c.self.invariant c.give_back-in-Some-Memory.ensures)
