use Rattle.pfc_catalog.proofs.Turning.{enters-join}
use Rattle.pfc_catalog.proofs.catalog.Catalog.open_known.Goals as goal

pub returns-in-Live : goal.returns-in-Live
returns-in-Live c =
    enters-join c.args.self.now c.put.new.self c.args.path.now c.args.place c.args.was c.in-Live.shell c.in-Live.instance c.in-Live.count c.put.ensures.distinct c.requires.there c.in-Live.is
    (rw (c.with-joined.ensures, c.saturating_add-count.ensures) at c.put.ensures.set)
