use Rattle.pfc_queue.specs.Queue.{IsPassOf}
use Rattle.pfc_bench.proofs.queue.turns.Given as goal

abbrev pub invariant-loop-i : goal.invariant-loop-i
invariant-loop-i g l = IsPassOf l.queue l.pass
