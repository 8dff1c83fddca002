use Rattle.std.proofs.Common.{refl, arith}
use Rattle.pfc_client.specs.declared.reply.Reply.TheVariants as r
use Rattle.pfc_actor.proofs.Answering.{no_stats}
use Rattle.pfc_actor.proofs.Steps.{own_told}
use Rattle.pfc_actor.proofs.taking.take.Goals as goal

pub returns-in_default-clause-step : goal.returns-in_default-clause-step
returns-in_default-clause-step g c = let lacks = c.in_default.ensures.memory in
    own_told _ _ _ _ lacks.said _ 0 c.reply.ensures lacks.next refl refl refl refl (omega arith) (omega arith) (no_stats lacks.said r.Memory lacks.nothing)
