use Rattle.std.proofs.Common.{◌≡◌, ◌++◌, drop}
use Rattle.pfc_log.specs.Text.{lines_text}
use Rattle.pfc_log.proofs.text.push_lines.Given as goal

abbrev pub invariant-loop-entry : goal.invariant-loop-entry
invariant-loop-entry l = l.out.items ++ lines_text (drop l.entry-index l.entries) ≡ l.fn.out.items ++ lines_text l.entries
