use Rattle.std.proofs.Common.{refl, arith}
use Rattle.pfc_actor.proofs.Steps.{own_told}
use Rattle.pfc_actor.proofs.taking.refuse.Goals as goal

pub returns-in-Form-clause-step : goal.returns-in-Form-clause-step
returns-in-Form-clause-step g c = own_told _ _ _ _ _ _ 0 c.reply.ensures c.requires.next refl refl refl refl (omega arith) (omega arith) refl

pub returns-in-Path-clause-step : goal.returns-in-Path-clause-step
returns-in-Path-clause-step g c = own_told _ _ _ _ _ _ 0 c.reply-in-Path.ensures c.requires.next refl refl refl refl (omega arith) (omega arith) refl
