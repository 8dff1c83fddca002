use Rattle.std.proofs.Common.{true, false, refl}
use Rattle.pfc_store.proofs.Volumes.{settle_keeps}
use Rattle.pfc_store.proofs.volume.settle.Goals as goal

pub returns-in-Err-clause-mains : goal.returns-in-Err-clause-mains
returns-in-Err-clause-mains g c tells = settle_keeps false (g.I.InfoDev.seen c.args.second.now) (g.I.InfoDev.seen c.settle.new.self) (c.in-Err.ensures.settle tells)

pub returns-clause-mains : goal.returns-clause-mains
returns-clause-mains g c tells = settle_keeps true (g.I.InfoDev.seen c.args.second.now) (g.I.InfoDev.seen c.settle.new.self) (c.in_default.ensures.settle tells)

pub returns-clause-one : goal.returns-clause-one
returns-clause-one g c done tells = (c.in_default.ensures.settle tells).does.one refl
