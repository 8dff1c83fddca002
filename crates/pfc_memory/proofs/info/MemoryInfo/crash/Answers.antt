use Rattle.std.proofs.Common.{sym, ◌∙◌}
use Rattle.pfc_memory.proofs.info.MemoryInfo.crash.Goals as goal

pub returns-clause-only : goal.returns-clause-only
returns-clause-only c main h = c.of.ensures.only main h ∙ sym c.of.ensures.shown
