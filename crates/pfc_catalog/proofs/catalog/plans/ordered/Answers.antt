use Rattle.std.proofs.Common.{rules, ◌≡◌, ap, is_lt}
use Rattle.std.proofs.lemmas.List.Sorted.{ranks_by, answers_always}
use Rattle.pfc_catalog.specs.Purge.{purge_cmp}
use Rattle.pfc_catalog.proofs.Firsts.{purge-total, Row}
use Rattle.pfc_catalog.proofs.catalog.plans.ordered.Goals as goal

pub returns : goal.returns
returns c = record {
  same = rw (← c.in_ok-order.ensures) c.sort_unstable_by.ensures.permutation;
  sorted = c.sort_unstable_by.ensures.sorted (λ x y. is_lt (purge_cmp x y)) (ranks_by purge-total (λ (x : Row). x)) (answers_always _ _ _ (λ f a r q k. let e : r ≡ purge_cmp a.0.now a.1.0.now = search rules in ap is_lt e));
}
