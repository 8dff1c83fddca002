use Rattle.pfc_log.proofs.Stated.{flying_at, here_at}
use Rattle.pfc_log.proofs.laws.places_read_back.Goals as goal

pub returns-clause-flying : goal.returns-clause-flying
returns-clause-flying c = flying_at

pub returns-clause-here : goal.returns-clause-here
returns-clause-here c = here_at
