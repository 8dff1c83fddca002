use Rattle.pfc_read.proofs.Ended.{gives-back}
use Rattle.pfc_read.proofs.op.end.give_back.Goals as goal

pub returns-in-Ok : goal.returns-in-Ok
returns-in-Ok g c = gives-back c.args.core.now c.args.reading c.args.pins.items c.args.disks.items c.args.served c.finish.new.self c.in-Ok.ensures.ok c.in-Ok.ensures.rest c.in-Ok.ensures.known
