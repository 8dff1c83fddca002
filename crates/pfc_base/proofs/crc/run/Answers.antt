use Rattle.std.proofs.Common.{take, refl, sym, ap, ◌∙◌, arith}
use Rattle.pfc_base.proofs.CrcLinear.{after_bytes_cut}
use Rattle.pfc_base.specs.Crc.{after_bytes}
use Rattle.pfc_base.proofs.crc.run.Goals as goal

pub loop-a-init : goal.loop-a-init
loop-a-init c = refl

pub loop-a-smaller : goal.loop-a-smaller
loop-a-smaller c = omega (arith, c.in-Some.ensures.cases.2)

pub loop-a-preserved : goal.loop-a-preserved
loop-a-preserved c =
    let cut = c.in-Some.ensures.cases in
    ap (λ r. after_bytes r c.in-Some.more.now) (c.eight-c.ensures ∙ ap (after_bytes c.loop-a.c) cut.0)
    ∙ ap (after_bytes (after_bytes c.loop-a.c (take 8 c.loop-a.rest.now))) cut.1
    ∙ sym (after_bytes_cut 8 c.loop-a.rest.now c.loop-a.c)
    ∙ c.loop-a.invariant

pub returns : goal.returns
returns c = c.bytewise.ensures ∙ c.loop-a.invariant
