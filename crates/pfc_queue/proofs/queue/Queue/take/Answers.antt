use Rattle.pfc_queue.proofs.Keeps.{takes, learns}
use Rattle.pfc_queue.proofs.Balance.{next}
use Rattle.pfc_queue.proofs.queue.Queue.take.Goals as goal

pub pop_as-requires-clause-rule : goal.pop_as-requires-clause-rule
pop_as-requires-clause-rule g c = (takes _ _, learns _ _)

pub returns-clause-alone : goal.returns-clause-alone
returns-clause-alone g c = next c.args.pass.now c.pop_as.result _ c.pop_as.ensures.rule
