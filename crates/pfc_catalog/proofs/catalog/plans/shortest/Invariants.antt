use Rattle.std.proofs.Common.{◌≡◌, ℕ, ◌<◌}
use Rattle.std.specs.Prelude.{take, map}
use Rattle.pfc_catalog.specs.Purge.{left_of}
use Rattle.pfc_catalog.proofs.catalog.plans.shortest.Given as goal

abbrev pub invariant-loop-row : goal.invariant-loop-row
invariant-loop-row l = record {
  front : l.plan.items ≡ map (λ f. f.0) (take l.row-index l.order);
  left : l.left ≡ left_of l.fn.usage l.order l.row-index;
  above : (n : ℕ) → n < l.row-index → l.low < left_of l.fn.usage l.order n;
}
