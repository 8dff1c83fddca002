use Rattle.std.proofs.Common.{take}
use Rattle.pfc_memory.proofs.Listings.{Listing}
use Rattle.pfc_memory.proofs.depot.held_paths.Given as goal

abbrev pub invariant-loop-volume : goal.invariant-loop-volume
invariant-loop-volume l = Listing (take l.volume-index l.volumes) l.paths.items
