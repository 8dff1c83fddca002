use Rattle.std.proofs.Common.{◌∙◌, sym, arith}
use Rattle.pfc_base.specs.Number.{digits_from-past}
use Rattle.pfc_base.proofs.number.digits.Goals as goal

pub returns-then-n-d : goal.returns-then-n-d
returns-then-n-d c =
    sym (digits_from-past c.loop-b.n c.loop-b.b-index c.args.bytes.now c.loop-b-test.true c.if-b-lt48.false c.if-b-gt57.false (omega (arith, c.if-n-d.true, c.from-d.ensures)))
    ∙ c.loop-b.invariant
