use Rattle.pfc_queue.specs.Queue.{IsPassOf}
use Rattle.pfc_queue.proofs.tests.consume.Given as goal

abbrev pub invariant-loop : goal.invariant-loop
invariant-loop g l = IsPassOf l.queue l.pass
