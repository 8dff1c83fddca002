use Rattle.pfc_store.proofs.Volumes.{keeps_takes, keeps_then_takes}
use Rattle.pfc_store.proofs.bare.take_main.Goals as goal

pub returns-in_err-settle-clause-mains : goal.returns-in_err-settle-clause-mains
returns-in_err-settle-clause-mains g c tells = keeps_takes (g.I.InfoDev.seen c.args.second.now) (g.I.InfoDev.seen c.settle.new.second) (c.settle.ensures.mains tells)

pub returns-clause-mains : goal.returns-clause-mains
returns-clause-mains g c tells = keeps_then_takes (g.I.InfoDev.seen c.args.second.now) (g.I.InfoDev.seen c.settle.new.second) (g.I.InfoDev.seen c.remove.new.second) (c.settle.ensures.mains tells) (c.remove.ensures.mains tells)
