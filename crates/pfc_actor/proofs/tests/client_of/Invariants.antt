use Rattle.std.proofs.Common.{◌≡◌, ℕ}
use Rattle.pfc_core.specs.Marks.{Mark}
use Rattle.pfc_actor.specs.Clients.{holds}
use Rattle.pfc_actor.proofs.tests.client_of.Given as goal

abbrev pub invariant-loop-line : goal.invariant-loop-line
invariant-loop-line l = (w : Mark → ℕ) → holds w l.client ≡ 0
