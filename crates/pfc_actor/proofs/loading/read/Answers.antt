use Rattle.pfc_actor.proofs.Going.{loaded_own, refused_own}
use Rattle.pfc_actor.proofs.loading.read.Goals as goal

pub returns-in-Ok-clause-own : goal.returns-in-Ok-clause-own
returns-in-Ok-clause-own g c = loaded_own _ _ _ _ _ _ c.in-Ok.ensures.ok

pub returns-in-Err-clause-own : goal.returns-in-Err-clause-own
returns-in-Err-clause-own g c = refused_own _ _ _ _ _ _ c.in-Err.ensures.err
