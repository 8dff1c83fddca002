use Rattle.std.proofs.Common.{◌≡◌, ℕ, ◌+◌}
use Rattle.std.specs.Prelude.{sum_by}
use Rattle.pfc_core.specs.Marks.{Mark}
use Rattle.pfc_actor.specs.Clients.{holds}
use Rattle.pfc_actor.proofs.tests.drive.Given as goal

abbrev pub invariant-loop-step : goal.invariant-loop-step
invariant-loop-step l = record {
  blocks : l.core.block_size ≡ 4096;
  tokens : (w : Mark → ℕ) → holds w l.client + sum_by w l.queue.jobs ≡ sum_by w l.core.out;
}
