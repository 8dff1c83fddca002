use Rattle.std.proofs.Common.{refl, arith}
use Rattle.pfc_actor.proofs.Steps.{own_told}
use Rattle.pfc_actor.proofs.taking.see_close.Goals as goal

pub returns-then-is_none-clause-step : goal.returns-then-is_none-clause-step
returns-then-is_none-clause-step g c = own_told _ _ _ _ _ _ 0 c.reply.ensures c.requires.work.next refl refl refl refl (omega arith) (omega arith) refl
