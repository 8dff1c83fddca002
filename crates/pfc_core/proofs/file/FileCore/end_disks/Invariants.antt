use Rattle.std.proofs.Common.{length}
use Rattle.std.specs.Prelude.{reverse}
use Rattle.pfc_core.specs.Finishes.{ReleasesDisks}
use Rattle.pfc_core.specs.View.{CoreView}
use Rattle.pfc_core.proofs.file.FileCore.end_disks.Given as goal

-- what becomes of the rest in order from here, becomes of all from the start
abbrev pub invariant-loop-disk : goal.invariant-loop-disk
invariant-loop-disk g l = (new : CoreView) → ReleasesDisks l.self (reverse l.disks.items) new → ReleasesDisks l.fn.self l.fn.disks.items new

abbrev pub decreases-loop-disk : goal.decreases-loop-disk
decreases-loop-disk g l = length l.disks.items
