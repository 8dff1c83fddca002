use Rattle.std.proofs.Common.{refl, rules}
use Rattle.pfc_core.proofs.file.FileCore.retire.Goals as goal

pub returns-clause-ok : goal.returns-clause-ok
returns-clause-ok g c = let q = c.if-not-quiet.ensures in (search rules, search rules, q.exact.0 refl, q.complete refl)
