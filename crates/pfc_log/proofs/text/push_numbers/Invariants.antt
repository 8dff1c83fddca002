use Rattle.std.proofs.Common.{◌≡◌, ◌++◌, drop}
use Rattle.pfc_log.specs.Text.{numbers_text}
use Rattle.pfc_log.proofs.text.push_numbers.Given as goal

abbrev pub invariant-loop-n : goal.invariant-loop-n
invariant-loop-n l = l.out.items ++ numbers_text (drop l.n-index l.numbers) ≡ l.fn.out.items ++ numbers_text l.numbers
