use Rattle.pfc_log.proofs.Sets.{written_exact, durable_exact}
use Rattle.pfc_log.proofs.laws.sets_read_back.Goals as goal

pub returns-clause-written : goal.returns-clause-written
returns-clause-written c = written_exact

pub returns-clause-durable : goal.returns-clause-durable
returns-clause-durable c = durable_exact
