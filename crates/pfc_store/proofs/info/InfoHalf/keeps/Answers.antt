use Rattle.pfc_store.proofs.Mains.{within_now}
use Rattle.pfc_store.proofs.info.InfoHalf.keeps.Goals as goal

pub returns-clause-within : goal.returns-clause-within
returns-clause-within g c = rw (← c.self.view_is) (λ tells. let s = c.self.inside in within_now s.known.size s.block_size s.claimed s.due (g.I.InfoDev.seen s.device) (c.self.invariant.mains tells))
