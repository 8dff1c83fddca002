-- The counts of a log with one more entry.
use Rattle.std.proofs.Common.{◌≡◌, ℕ, ◌+◌, List, [], ◌∷◌, ◌++◌, Bool, refl, ap, ◌∙◌, arith}
use Rattle.std.specs.Prelude.{sum_by, if◌then◌else◌}
use Rattle.std.proofs.lemmas.List.Sums.{sum_by_push}
use Rattle.pfc_log.specs.declared.entry.Entry.{Entry}
use Rattle.pfc_log.specs.declared.entry.Entry.TheVariants as e
use Rattle.pfc_log.specs.Views.{times}
use Rattle.pfc_log.specs.Owners.{owners, landed_of, is_landed_of}
use Rattle.pfc_log.specs.Counts.{saturated, counts_of, one_more, is_open, is_served, hit_in, missed_in, bypassed_in, is_join, is_landing, is_failing, is_wrote, is_dropped, is_synced, is_claimed}
use Rattle.pfc_log.proofs.More.{times_more, count_after_more}

-- a saturated sum grows as a saturating addition does
pub saturated_more : (a x : ℕ) → saturated (a + x) ≡ saturated (saturated a + x)
saturated_more a x = omega arith

times_step : (p : Entry → Bool) (es : List Entry) (e : Entry) → saturated (times p (es ++ e ∷ [])) ≡ saturated (saturated (times p es) + (if p e then 1 else 0))
times_step p es e = ap saturated (times_more p es e) ∙ saturated_more (times p es) (if p e then 1 else 0)

sum_step : (f : Entry → ℕ) (es : List Entry) (e : Entry) → saturated (sum_by f (es ++ e ∷ [])) ≡ saturated (saturated (sum_by f es) + f e)
sum_step f es e = ap saturated (sum_by_push f es e) ∙ saturated_more (sum_by f es) (f e)

landed_step : (n : ℕ) (es : List Entry) (e : Entry) → saturated (landed_of n (es ++ e ∷ [])) ≡ saturated (saturated (landed_of n es) + (if is_landed_of n (owners es) e then 1 else 0))
landed_step n es e = ap saturated (count_after_more (is_landed_of n) [] es e) ∙ saturated_more (landed_of n es) (if is_landed_of n (owners es) e then 1 else 0)

same : (a : ℕ) → saturated (saturated a + 0) ≡ saturated a
same a = omega arith

-- all counts at once
all_step : (es : List Entry) (x : Entry) → counts_of (es ++ x ∷ []) ≡ record {
  opens = saturated ((counts_of es).opens + (if is_open x then 1 else 0));
  reads = saturated ((counts_of es).reads + (if is_served x then 1 else 0));
  hit = saturated ((counts_of es).hit + hit_in x);
  missed = saturated ((counts_of es).missed + missed_in x);
  bypassed = saturated ((counts_of es).bypassed + bypassed_in x);
  joined = saturated ((counts_of es).joined + (if is_join x then 1 else 0));
  fetched = saturated ((counts_of es).fetched + (if is_landing x then 1 else 0));
  prefetched = saturated ((counts_of es).prefetched + (if is_landed_of 0 (owners es) x then 1 else 0));
  failed = saturated ((counts_of es).failed + (if is_failing x then 1 else 0));
  written = saturated ((counts_of es).written + (if is_wrote x then 1 else 0));
  dropped = saturated ((counts_of es).dropped + (if is_dropped x then 1 else 0));
  synced = saturated ((counts_of es).synced + (if is_synced x then 1 else 0));
  claimed = saturated ((counts_of es).claimed + (if is_claimed x then 1 else 0));
}
all_step es x = rw (times_step is_open es x, times_step is_served es x, sum_step hit_in es x, sum_step missed_in es x, sum_step bypassed_in es x, times_step is_join es x, times_step is_landing es x, landed_step 0 es x, times_step is_failing es x, times_step is_wrote es x, times_step is_dropped es x, times_step is_synced es x, times_step is_claimed es x) refl

pub counts_more : (es : List Entry) (x : Entry) → counts_of (es ++ x ∷ []) ≡ one_more (counts_of es) x (is_landed_of 0 (owners es) x)
counts_more es (e.Opened n) = all_step es (e.Opened n) ∙ simp same
counts_more es (e.Closed n) = all_step es (e.Closed n) ∙ simp same
counts_more es (e.Begin t i n) = all_step es (e.Begin t i n) ∙ simp same
counts_more es (e.Join t i n) = all_step es (e.Join t i n) ∙ simp same
counts_more es (e.Hit i spot n) = all_step es (e.Hit i spot n) ∙ simp same
counts_more es (e.Direct i n why) = all_step es (e.Direct i n why) ∙ simp same
counts_more es (e.Landed t) = all_step es (e.Landed t) ∙ simp same
counts_more es (e.Failed t why) = all_step es (e.Failed t why) ∙ simp same
counts_more es (e.Dropped i why) = all_step es (e.Dropped i why) ∙ simp same
counts_more es (e.Wrote i) = all_step es (e.Wrote i) ∙ simp same
counts_more es (e.Left i) = all_step es (e.Left i) ∙ simp same
counts_more es e.Synced = all_step es e.Synced ∙ simp same
counts_more es (e.Claimed p n) = all_step es (e.Claimed p n) ∙ simp same
counts_more es e.Frozen = all_step es e.Frozen ∙ simp same
counts_more es e.WrittenOff = all_step es e.WrittenOff ∙ simp same
counts_more es (e.Served n served) = all_step es (e.Served n served) ∙ simp same
