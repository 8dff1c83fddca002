use Rattle.pfc_catalog.proofs.Firsts.{is-catalog}
use Rattle.pfc_catalog.proofs.catalog.Catalog.known.Goals as goal

pub returns-clause-catalog : goal.returns-clause-catalog
returns-clause-catalog c = rw (← c.self.view_is) (is-catalog c.self.inside.files c.self.inside.shells c.find.ensures.distinct c.self.invariant.table)
