use Rattle.pfc_catalog.proofs.catalog.Catalog.first_candidate.Goals as goal

pub returns-then-is_whole-clause-none : goal.returns-then-is_whole-clause-none
returns-then-is_whole-clause-none c = rw (← c.self.view_is) c.first_noted.ensures.none

pub returns-clause-none : goal.returns-clause-none
returns-clause-none c = rw (← c.self.view_is) c.first_searched.ensures.none
