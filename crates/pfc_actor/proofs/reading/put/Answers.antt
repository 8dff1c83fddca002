use Rattle.pfc_actor.proofs.Going.{full_puts, queued_puts}
use Rattle.pfc_actor.proofs.reading.put.Goals as goal

pub returns-in-Ok-clause-puts : goal.returns-in-Ok-clause-puts
returns-in-Ok-clause-puts g c = queued_puts _ _ _ _ _ _ c.in-Ok.ensures.ok c.requires.work.2

pub returns-in-Err-clause-puts : goal.returns-in-Err-clause-puts
returns-in-Err-clause-puts g c = let back = c.in-Err.ensures.full in rw (back.0, c.capacity.ensures) (full_puts _ _ _ _ _ _ back.1 c.requires.work.2 back.2)
