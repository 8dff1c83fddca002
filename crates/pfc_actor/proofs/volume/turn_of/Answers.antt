use Rattle.pfc_actor.proofs.Turning.{turn_taken}
use Rattle.pfc_actor.proofs.volume.turn_of.Goals as goal

pub returns : goal.returns
returns g c = turn_taken _ _ _ _ _ _ _ _ c.args.loan.now c.turn_by.new.loan c.turn_by.result c.turn_by.ensures
