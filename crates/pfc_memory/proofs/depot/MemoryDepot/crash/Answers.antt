use Rattle.std.proofs.Common.{subst, sym}
use Rattle.pfc_world.specs.Depot.{InByteOrder}
use Rattle.pfc_memory.proofs.Crashes.{paths_left, outs_left, lent_left, away_left, home_left, fresh_left}
use Rattle.pfc_memory.proofs.depot.MemoryDepot.crash.Goals as goal

pub invariant_of-result : goal.invariant_of-result
invariant_of-result c = record { order = subst (λ paths. InByteOrder paths) (sym (paths_left _ c.args.self.volumes.items c.in_ok-volumes.volumes.items c.in_ok-volumes.ensures)) c.args.self.order }

pub returns-clause-out : goal.returns-clause-out
returns-clause-out c = outs_left _ _ _ c.in_ok-volumes.ensures

pub returns-clause-lent : goal.returns-clause-lent
returns-clause-lent c = λ path. lent_left _ _ _ path c.in_ok-volumes.ensures

pub returns-clause-away : goal.returns-clause-away
returns-clause-away c = λ path held. away_left _ c.args.self.volumes.items _ path c.args.self.order c.in_ok-volumes.ensures held

pub returns-clause-home : goal.returns-clause-home
returns-clause-home c = λ path home. home_left _ _ _ path c.in_ok-volumes.ensures home

pub returns-clause-fresh : goal.returns-clause-fresh
returns-clause-fresh c = λ path. fresh_left _ c.args.self.volumes.items _ path c.in_ok-volumes.ensures
