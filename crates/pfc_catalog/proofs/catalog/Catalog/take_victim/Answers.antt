use Rattle.std.proofs.Common.{arith, ◌<◌}
use Rattle.pfc_catalog.specs.Catalog.{usage_of}
use Rattle.pfc_catalog.proofs.Turning.{takes}
use Rattle.pfc_catalog.proofs.catalog.Catalog.take_victim.Goals as goal

pub returns : goal.returns
returns c =
    let above : c.args.low < usage_of c.args.self.now.entries = rw (← c.usage-usage.ensures) (omega arith) in
    let v = c.in-Some.ensures.some in
    takes c.args.low c.args.self.now c.put.new.self c.in-Some.path c.in-Some.place c.in-Some.was above c.put.ensures.distinct v.0 v.1 (rw c.with.ensures at c.put.ensures.set)
