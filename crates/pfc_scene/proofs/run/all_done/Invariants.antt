use Rattle.std.proofs.Common.{◌<◌, ℕ}
use Rattle.std.specs.Prelude.{slice_index_or}
use Rattle.pfc_actor.specs.Clients.{ClientView, IsDone}
use Rattle.pfc_scene.proofs.run.all_done.Given as goal

abbrev pub invariant-loop-j : goal.invariant-loop-j
invariant-loop-j g l = (x : ℕ) (d : ClientView) → x < l.j → IsDone g.W.World.told g.W.World.files (slice_index_or l.clients x d).book (slice_index_or l.clients x d).line (slice_index_or l.clients x d).stage
