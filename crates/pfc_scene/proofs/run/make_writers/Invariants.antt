use Rattle.std.proofs.Common.{◌≡◌, ◌≤◌, length}
use Rattle.std.specs.Prelude.{All, vec_capacity, None}
use Rattle.pfc_scene.proofs.run.make_writers.Given as goal

abbrev pub invariant-loop-writer : goal.invariant-loop-writer
invariant-loop-writer g l = record {
  resting : All (λ job. job ≡ None) l.writers.items;
  same_length : length l.writers.items ≡ l._writer;
  room : l.count ≤ vec_capacity l.writers;
}
