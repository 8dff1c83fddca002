use Rattle.std.proofs.Common.{◌≡◌}
use Rattle.std.specs.Prelude.{take}
use Rattle.pfc_catalog.specs.Purge.{candidates}
use Rattle.pfc_catalog.proofs.catalog.plans.unordered.Given as goal

abbrev pub invariant-loop-place : goal.invariant-loop-place
invariant-loop-place l = l.found.items ≡ candidates (take l.place l.files)
