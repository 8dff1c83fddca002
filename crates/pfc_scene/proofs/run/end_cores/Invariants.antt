use Rattle.std.proofs.Common.{◌≡◌, ◌≤◌, length}
use Rattle.std.specs.Prelude.{vec_capacity}
use Rattle.pfc_scene.specs.Ends.{AreSections}
use Rattle.pfc_scene.proofs.run.end_cores.Given as goal

abbrev pub invariant-loop-core : goal.invariant-loop-core
invariant-loop-core g l = record {
  sections : AreSections g.W.World.told g.W.World.files l.logs.items l.yielded;
  same_length : length l.logs.items ≡ length l.yielded;
  room : length l.fn.cores.items ≤ vec_capacity l.logs;
}
