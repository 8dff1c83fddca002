use Rattle.pfc_core.proofs.Shelves.{single}
use Rattle.pfc_core.proofs.shelf.Shelf.len.Goals as goal

pub returns-clause-single : goal.returns-clause-single
returns-clause-single g c = rw (← c.self.view_is) (single _ c.self.invariant.unique (λ j p h. (c.self.invariant.kept j p h).number))
