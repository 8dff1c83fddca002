use Rattle.std.proofs.Common.{◌≢◌, ◌<◌, [], ℕ, slice_index_or}
use Rattle.pfc_core.specs.View.{CoreView}
use Rattle.pfc_log.specs.Lawful.{IsCached}
use Rattle.pfc_actor.specs.Backings.{BackingView, IsOpen}
use Rattle.pfc_scene.proofs.run.all_open.Given as goal

abbrev pub invariant-loop-i : goal.invariant-loop-i
invariant-loop-i g l = record {
  opened : (i : ℕ) (d : CoreView) (e : BackingView) → i < l.i → IsCached (slice_index_or l.fn.cores i d).first → (slice_index_or l.fn.cores i d).entries ≢ [] → IsOpen (slice_index_or l.fn.backings i e).stand;
}
