use Rattle.pfc_catalog.proofs.Orders.{not-lower}
use Rattle.pfc_catalog.proofs.Tables.{if-some}
use Rattle.pfc_catalog.proofs.order.Order.first.Goals as goal

pub returns-clause-first : goal.returns-clause-first
returns-clause-first c = rw (← c.self.view_is) (if-some c.first.result c.first.ensures.least (λ k h key had. not-lower k.now key (h key had)))
