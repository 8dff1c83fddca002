use Rattle.std.proofs.Common.{ℕ}
use Rattle.pfc_catalog.proofs.Tables.{table-free, table-taken, if-some, if-none}
use Rattle.pfc_catalog.proofs.catalog.Catalog.free_shell.Goals as goal

pub returns-clause-free : goal.returns-clause-free
returns-clause-free c = rw (← c.self.view_is) (if-some c.first_free.result c.first_free.ensures.free
    (λ (s : ℕ) h. (h.0, table-free c.self.inside.files c.self.inside.shells c.self.invariant.table s h.1)))

pub returns-clause-none : goal.returns-clause-none
returns-clause-none c = rw (← c.self.view_is) (if-none c.first_free.result c.first_free.ensures.none
    (λ h s low. let at = h s low in table-taken c.self.inside.files c.self.inside.shells c.self.invariant.table s at.0 at.1))
