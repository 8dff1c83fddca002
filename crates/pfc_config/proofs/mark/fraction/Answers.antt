use Rattle.std.proofs.Common.{◌≡◌, ◌^◌, ◌<◌, ◌≤◌, length, Some, sym, ◌∙◌, arith}
use Rattle.std.proofs.Math.Nat.{one-le-pow}
use Rattle.pfc_base.specs.Number.{digits_from}
use Rattle.pfc_config.proofs.Fractions.{digits_from-below, digits_from-fitting, share-within, fraction_of-none}
use Rattle.pfc_config.proofs.mark.fraction.Goals as goal

pub returns-in_err-n : goal.returns-in_err-n
returns-in_err-n c =
    let few : length c.args.places.now ≤ 6 = omega (arith, c.if-places-gt-MOST_DIGITS.false) in
    rw c.from_residual.ensures (fraction_of-none c.args.capacity c.args.places.now
    (sym (digits_from-fitting c.args.places.now few) ∙ sym c.digits.ensures ∙ c.in_err-n.was))

pub nonzero_div-result : goal.nonzero_div-result
nonzero_div-result c =
    let some : 0 < 10 = omega arith in
    rw (c.from-3.ensures, c.pow-scale.ensures) (one-le-pow (length c.args.places.now) 10 some)

pub overflow_cast-result : goal.overflow_cast-result
overflow_cast-result c =
    let few : length c.args.places.now ≤ 6 = omega (arith, c.if-places-gt-MOST_DIGITS.false) in
    let read : digits_from 0 c.args.places.now ≡ Some c.in_ok-n.n = sym (digits_from-fitting c.args.places.now few) ∙ sym c.digits.ensures ∙ c.in_ok-n.was in
    let below = digits_from-below 0 c.in_ok-n.n c.args.places.now read in
    let within = share-within c.args.capacity c.in_ok-n.n (10 ^ length c.args.places.now) (omega (arith, below)) in
    rw (c.from.ensures, c.from-2.ensures, c.from-3.ensures, c.pow-scale.ensures) (omega (arith, within, c.ranges.capacity.fits))
