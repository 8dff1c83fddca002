use Rattle.std.proofs.Common.{take}
use Rattle.pfc_core.specs.Finishes.{ReleasesAll}
use Rattle.pfc_core.proofs.file.FileCore.release_all.Given as goal

abbrev pub invariant-loop-pin : goal.invariant-loop-pin
invariant-loop-pin g l = ReleasesAll l.initial.self (take l.pin-index l.pins) l.self
