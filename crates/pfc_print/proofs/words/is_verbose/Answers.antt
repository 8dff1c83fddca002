use Rattle.std.proofs.Common.{ap, codes, ◌∙◌}
use Rattle.clap.specs.Words.{found_of}
use Rattle.clap.proofs.WalkLemmas.{first_value-rows}
use Rattle.pfc_print.specs.Words.{says_true}
use Rattle.pfc_print.proofs.words.is_verbose.Goals as goal

pub returns-in-Some : goal.returns-in-Some
returns-in-Some c = c.eq.ensures ∙ ap says_true (c.in-Some.ensures ∙ first_value-rows (found_of c.args.found.now) (codes "verbose"))

pub returns-in-None : goal.returns-in-None
returns-in-None c = ap says_true (c.in-None.ensures ∙ first_value-rows (found_of c.args.found.now) (codes "verbose"))
