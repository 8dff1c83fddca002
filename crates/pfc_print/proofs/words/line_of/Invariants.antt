use Rattle.std.proofs.Common.{◌≡◌, ◌∷◌, map, take, codes, string_bytes}
use Rattle.pfc_print.proofs.words.line_of.Given as goal

abbrev pub invariant-loop-word : goal.invariant-loop-word
invariant-loop-word l = map (λ word. word.now) l.line.items ≡ codes "xrdpfc_print" ∷ map string_bytes (take l.word-index l.words)
