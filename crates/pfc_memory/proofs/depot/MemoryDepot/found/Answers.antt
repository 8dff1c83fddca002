use Rattle.std.proofs.Common.{subst, sym, refl}
use Rattle.pfc_memory.specs.Depot.{Lends}
use Rattle.pfc_memory.proofs.Lending.{lends_insert, order_inserted}
use Rattle.pfc_memory.proofs.depot.MemoryDepot.found.Goals as goal

pub invariant_of-self : goal.invariant_of-self
invariant_of-self c = record { order = order_inserted _ _ c.args.at _ _ _ c.requires c.copy.ensures c.args.self.now.order c.insert.ensures.items }

pub returns-clause-ok : goal.returns-clause-ok
returns-clause-ok c =
    let devices = c.in_ok-devices.devices in
    let made = c.in_ok-devices.ensures in
    subst (λ l. Lends c.args.path.now c.args.self.now.volumes.items l devices.data devices.info) (sym c.in_ok-insert.ensures.items)
    (lends_insert _ _ c.args.at _ devices c.requires made.data made.main (record { same = c.copy.ensures; none = refl; counts = c.faults.ensures }))
