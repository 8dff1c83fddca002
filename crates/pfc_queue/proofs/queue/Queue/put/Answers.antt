use Rattle.pfc_queue.proofs.Keeps.{puts, learns}
use Rattle.pfc_queue.proofs.Balance.{full}
use Rattle.pfc_queue.proofs.queue.Queue.put.Goals as goal

pub push_as-requires-clause-rule : goal.push_as-requires-clause-rule
push_as-requires-clause-rule g c = (puts _ _ _ _, learns _ _)

pub returns-in-Err-clause-alone : goal.returns-in-Err-clause-alone
returns-in-Err-clause-alone g c = full c.args.self.now c.args.pass.now c.in-Err.ensures.rule.2
