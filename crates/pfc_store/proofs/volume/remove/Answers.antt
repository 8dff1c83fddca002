use Rattle.std.proofs.Common.{true, false, refl}
use Rattle.pfc_store.proofs.Volumes.{remove_takes}
use Rattle.pfc_store.proofs.volume.remove.Goals as goal

pub returns-in-Err-clause-mains : goal.returns-in-Err-clause-mains
returns-in-Err-clause-mains g c tells = remove_takes false (g.I.InfoDev.seen c.args.second.now) (g.I.InfoDev.seen c.remove.new.self) (c.in-Err.ensures.remove tells)

pub returns-clause-mains : goal.returns-clause-mains
returns-clause-mains g c tells = remove_takes true (g.I.InfoDev.seen c.args.second.now) (g.I.InfoDev.seen c.remove.new.self) (c.in_default.ensures.remove tells)

pub returns-clause-gone : goal.returns-clause-gone
returns-clause-gone g c done tells = (c.in_default.ensures.remove tells).does.done refl
