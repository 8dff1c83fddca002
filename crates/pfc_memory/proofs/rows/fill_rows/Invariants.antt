use Rattle.std.proofs.Common.{◌≡◌, take}
use Rattle.pfc_memory.specs.Rows.{row_bytes}
use Rattle.pfc_memory.proofs.rows.fill_rows.Given as goal

abbrev pub invariant-loop-j : goal.invariant-loop-j
invariant-loop-j l = take l.j l.into ≡ row_bytes l.at l.j
