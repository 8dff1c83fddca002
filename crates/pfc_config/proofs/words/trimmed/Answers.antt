use Rattle.std.proofs.Common.{arith}
use Rattle.pfc_config.proofs.Worded.{words_of-drop_blanks, prefix_len-behind}
use Rattle.pfc_config.proofs.words.trimmed.Goals as goal

pub returns-clause-words : goal.returns-clause-words
returns-clause-words c = let h = words_of-drop_blanks c.args.bytes.now in grind (arith, h)

pub returns-clause-front : goal.returns-clause-front
returns-clause-front c = let h = prefix_len-behind c.args.bytes.now in grind (arith, h)
