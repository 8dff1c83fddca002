use Rattle.std.proofs.Common.{inr, refl}
use Rattle.pfc_store.proofs.found.empty.Goals as goal

pub clear-requires-after_bounds : goal.clear-requires-after_bounds
clear-requires-after_bounds g c _ _ tells = c.in-Ok.ensures.gone refl tells

pub returns-clause-gone : goal.returns-clause-gone
returns-clause-gone g c done tells = c.in-Ok.ensures.gone refl tells

pub returns-clause-order : goal.returns-clause-order
returns-clause-order g c tells = inr (c.in-Ok.ensures.gone refl tells)
