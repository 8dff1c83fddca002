use Rattle.std.proofs.Common.{ap}
use Rattle.pfc_catalog.specs.declared.entry.Entry.{Entry}
use Rattle.pfc_catalog.specs.Entry.{shell_of}
use Rattle.pfc_catalog.proofs.Turning.{holder-pushed, enters-pushed}
use Rattle.pfc_catalog.proofs.catalog.Catalog.open_new.Goals as goal

pub enter-instance-requires-clause-free : goal.enter-instance-requires-clause-free
enter-instance-requires-clause-free c =
    rw c.in_ok-place.ensures.ok (holder-pushed c.in-Some.shell c.args.self.now.entries (c.args.path.now, c.fresh-entry.result) (ap (λ (e : Entry). shell_of e.state) c.fresh-entry.ensures) c.in-Some.ensures.free.1)

pub returns-clause-entered : goal.returns-clause-entered
returns-clause-entered c =
    enters-pushed c.args.self.now c.enter-instance.new.self c.args.path.now c.in-Some.shell c.enter-instance.result c.requires
    (rw (c.in_ok-place.ensures.ok, c.fresh-entry.ensures) at c.enter-instance.ensures)
