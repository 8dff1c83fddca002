-- The counts of one log more.
use Rattle.std.proofs.Common.{◌≡◌, ℕ, ◌+◌, List, [], ◌∷◌, ◌++◌, sum_by, refl, sym, ap, ◌∙◌, arith}
use Rattle.std.proofs.lemmas.List.Sums.{sum_by_push}
use Rattle.pfc_log.specs.declared.entry.Entry.{Entry}
use Rattle.pfc_log.specs.Counts.{counts_of, saturated, is_open, is_served, is_join, is_landing, is_failing, is_wrote, is_dropped, is_synced, is_claimed, hit_in, missed_in, bypassed_in}
use Rattle.pfc_log.specs.Owners.{landed_of}
use Rattle.pfc_log.specs.Views.{times}
use Rattle.pfc_stats.specs.Statistics.{counts_of_all, plus}

saturated_sum : (a b : ℕ) → saturated (saturated a + saturated b) ≡ saturated (a + b)
saturated_sum a b = grind arith

one_more : (f : List Entry → ℕ) (logs : List (List Entry)) (log : List Entry) → saturated (saturated (sum_by f logs) + saturated (f log)) ≡ saturated (sum_by f (logs ++ log ∷ []))
one_more f logs log = saturated_sum (sum_by f logs) (f log) ∙ ap saturated (sym (sum_by_push f logs log))

pub plus_log : (logs : List (List Entry)) (log : List Entry) → plus (counts_of_all logs) (counts_of log) ≡ counts_of_all (logs ++ log ∷ [])
plus_log logs log = rw (
  one_more (times is_open) logs log,
  one_more (times is_served) logs log,
  one_more (sum_by hit_in) logs log,
  one_more (sum_by missed_in) logs log,
  one_more (sum_by bypassed_in) logs log,
  one_more (times is_join) logs log,
  one_more (times is_landing) logs log,
  one_more (landed_of 0) logs log,
  one_more (times is_failing) logs log,
  one_more (times is_wrote) logs log,
  one_more (times is_dropped) logs log,
  one_more (times is_synced) logs log,
  one_more (times is_claimed) logs log,
) refl
