use Rattle.std.proofs.Common.{◌≡◌, ◌<◌, ℕ}
use Rattle.std.specs.Prelude.{slice_index_or}
use Rattle.pfc_log.specs.Lawful.{IsCached}
use Rattle.pfc_core.specs.View.{CoreView}
use Rattle.pfc_scene.proofs.cores.find_core.Given as goal

abbrev pub invariant-loop-i : goal.invariant-loop-i
invariant-loop-i g l = (x : ℕ) (d : CoreView) → x < l.i → IsCached (slice_index_or l.cores x d).first → (slice_index_or l.cores x d).path ≡ l.path → ⊥
