use Rattle.std.proofs.Common.{◌≡◌, length}
use Rattle.std.specs.List.{list_any}
use Rattle.pfc_config.specs.Words.{words_of}
use Rattle.pfc_config.specs.Line.{is_purge_word}
use Rattle.pfc_config.proofs.line.any_purge_word.Given as goal

abbrev pub invariant-words : goal.invariant-words
invariant-words l = list_any is_purge_word (words_of l.rest) ≡ list_any is_purge_word (words_of l.text)

abbrev pub decreases-words : goal.decreases-words
decreases-words l = length l.rest
