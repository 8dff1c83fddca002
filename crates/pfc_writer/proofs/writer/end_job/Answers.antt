use Rattle.std.proofs.lemmas.Result.{on_ok_weaker}
use Rattle.pfc_writer.proofs.Ended.{takes_frozen, takes_written}
use Rattle.pfc_writer.proofs.writer.end_job.Goals as goal

pub returns-in-Counted-Written-clause-ok : goal.returns-in-Counted-Written-clause-ok
returns-in-Counted-Written-clause-ok g c = on_ok_weaker c.wrote.result (takes_written _ _ _) c.wrote.ensures.ok

pub returns-in_default-clause-ok : goal.returns-in_default-clause-ok
returns-in_default-clause-ok g c = on_ok_weaker c.drop_job.result (takes_frozen _ _ _) c.drop_job.ensures.ok
