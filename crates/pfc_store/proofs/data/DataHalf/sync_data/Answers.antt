use Rattle.std.proofs.Common.{true, false}
use Rattle.pfc_store.proofs.Stored.{solid_now, solid_synced}
use Rattle.pfc_store.proofs.data.DataHalf.sync_data.Goals as goal

pub returns-in-Some-clause-solid : goal.returns-in-Some-clause-solid
returns-in-Some-clause-solid g c = rw (← c.self.view_is) (λ told file is tells. let s = c.self.inside in solid_now file s.block_size s.durable s.written _ (g.D.DataDev.seen s.device) (c.self.invariant.stored told file is tells))

pub returns-in-Ok-clause-solid : goal.returns-in-Ok-clause-solid
returns-in-Ok-clause-solid g c = rw (← c.self.view_is) (λ told file is tells. let s = c.self.inside in solid_synced file s.block_size s.durable s.written _ true (g.D.DataDev.seen s.device) (g.D.DataDev.seen c.sync.new.self) (c.self.invariant.stored told file is tells) (c.in-Ok.ensures.sync tells))

pub returns-in-Err-clause-solid : goal.returns-in-Err-clause-solid
returns-in-Err-clause-solid g c = rw (← c.self.view_is) (λ told file is tells. let s = c.self.inside in solid_synced file s.block_size s.durable s.written _ false (g.D.DataDev.seen s.device) (g.D.DataDev.seen c.sync.new.self) (c.self.invariant.stored told file is tells) (c.in-Err.ensures.sync tells))
