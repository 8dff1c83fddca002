use Rattle.std.proofs.Common.{◌≡◌, take}
use Rattle.pfc_memory.specs.Mains.{mains_of}
use Rattle.pfc_memory.proofs.main_file.copy_others.Given as goal

abbrev pub invariant-loop-main : goal.invariant-loop-main
invariant-loop-main l = mains_of l.others.items ≡ mains_of (take l.main-index l.mains)
