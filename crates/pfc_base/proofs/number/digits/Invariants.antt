use Rattle.std.proofs.Common.{◌≡◌, drop, option_and_then}
use Rattle.pfc_base.specs.Number.{digits_from, fitting}
use Rattle.pfc_base.proofs.number.digits.Given as goal

abbrev pub invariant-loop-b : goal.invariant-loop-b
invariant-loop-b l = option_and_then fitting (digits_from l.n (drop l.b-index l.bytes)) ≡ option_and_then fitting (digits_from 0 l.bytes)
