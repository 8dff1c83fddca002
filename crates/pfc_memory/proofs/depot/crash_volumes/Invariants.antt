use Rattle.std.specs.List.{AllZip}
use Rattle.pfc_memory.specs.Depot.{IsVolumeLeftOf}
use Rattle.pfc_memory.proofs.depot.crash_volumes.Given as goal

abbrev pub invariant-loop-volume : goal.invariant-loop-volume
invariant-loop-volume l = AllZip (IsVolumeLeftOf l.numbers) l.yielded l.left.items
