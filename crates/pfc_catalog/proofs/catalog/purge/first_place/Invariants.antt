use Rattle.pfc_catalog.specs.Best.{IsBest}
use Rattle.pfc_catalog.proofs.catalog.purge.first_place.Given as goal

abbrev pub invariant-loop-place : goal.invariant-loop-place
invariant-loop-place l = IsBest l.files l.place l.best
