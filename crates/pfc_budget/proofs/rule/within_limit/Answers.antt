use Rattle.pfc_budget.proofs.Keeps.{small_word}
use Rattle.pfc_budget.proofs.rule.within_limit.Goals as goal

pub returns-clause-fits : goal.returns-clause-fits
returns-clause-fits c = small_word
