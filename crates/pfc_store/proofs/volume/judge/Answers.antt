use Rattle.std.proofs.Common.{refl}
use Rattle.pfc_store.proofs.Volumes.{judged}
use Rattle.pfc_store.proofs.volume.judge.Goals as goal

pub returns-clause-found : goal.returns-clause-found
returns-clause-found g c tells = judged (g.I.InfoDev.seen c.args.second.now) (g.I.InfoDev.seen c.settle.new.second) (g.I.InfoDev.seen c.read_cinfo.new.second) c.in_ok-found.found (c.settle.ensures.shown tells) (c.in-Ok.ensures.one refl tells) (c.read_cinfo.ensures.same tells) (c.in_ok-found.ensures.found tells)
