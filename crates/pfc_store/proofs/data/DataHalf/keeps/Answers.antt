use Rattle.pfc_store.proofs.Stored.{solid_now}
use Rattle.pfc_store.proofs.data.DataHalf.keeps.Goals as goal

pub returns-clause-solid : goal.returns-clause-solid
returns-clause-solid g c = rw (← c.self.view_is) (λ told file is tells. let s = c.self.inside in solid_now file s.block_size s.durable s.written _ (g.D.DataDev.seen s.device) (c.self.invariant.stored told file is tells))
