use Rattle.std.proofs.Common.{arith, sym, subst, List, ℕ}
use Rattle.pfc_catalog.specs.declared.entry.Entry.{Entry}
use Rattle.pfc_catalog.specs.Kept.{IsTable, IsTotal}
use Rattle.pfc_catalog.proofs.Tables.{table-new}
use Rattle.pfc_catalog.proofs.Totals.{total-new}
use Rattle.pfc_catalog.proofs.Orders.{new-noted}
use Rattle.pfc_catalog.proofs.catalog.Catalog.new.Goals as goal

pub invariant_of-result : goal.invariant_of-result
invariant_of-result c = record {
  table = subst (λ (fs : List (List ℕ × Entry)). IsTable fs c.new-2.result) (sym c.new.ensures) (table-new c.new-2.result c.new-2.ensures);
  total = subst (λ (fs : List (List ℕ × Entry)). IsTotal fs 0) (sym c.new.ensures) total-new;
  order = new-noted c.new.result c.new-3.result c.new.ensures c.new-3.ensures;
  next = omega arith;
}
