use Rattle.std.proofs.Common.{◌≡◌, drop, is_some}
use Rattle.std.specs.List.{list_any}
use Rattle.pfc_memory.proofs.info.is_some_main.Given as goal

abbrev pub invariant-loop-main : goal.invariant-loop-main
invariant-loop-main l = list_any is_some (drop l.main-index l.mains) ≡ list_any is_some l.mains
