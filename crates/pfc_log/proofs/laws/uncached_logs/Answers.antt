use Rattle.pfc_log.proofs.Bare.{uncached_only}
use Rattle.pfc_log.proofs.Bounds.{off_behind}
use Rattle.pfc_log.proofs.laws.uncached_logs.Goals as goal

pub returns-clause-start : goal.returns-clause-start
returns-clause-start c = uncached_only

pub returns-clause-later : goal.returns-clause-later
returns-clause-later c = off_behind
