-- What a log counts for the statistics.
use Rattle.std.specs.Prelude.{ℕ, ◌+◌, ◌-◌, ◌^◌, Bool, true, false, List, min, sum_by, if◌then◌else◌}
use Rattle.pfc_log.specs.declared.entry.Entry.{Entry}
use Rattle.pfc_log.specs.declared.entry.Entry.TheVariants as e
use Rattle.pfc_log.specs.declared.counts.Counts.{Counts}
use Rattle.pfc_log.specs.Views.{times}
use Rattle.pfc_log.specs.Owners.{landed_of}

-- a number as 64 bits hold it: it stays at the greatest one
abbrev pub saturated : ℕ → ℕ
saturated n = min n (2 ^ 64 - 1)

abbrev pub is_open : Entry → Bool
is_open (e.Opened n) = true
is_open _ = false

abbrev pub is_served : Entry → Bool
is_served (e.Served n served) = true
is_served _ = false

abbrev pub hit_in : Entry → ℕ
hit_in (e.Served n served) = served.hit
hit_in _ = 0

abbrev pub missed_in : Entry → ℕ
missed_in (e.Served n served) = served.missed
missed_in _ = 0

abbrev pub bypassed_in : Entry → ℕ
bypassed_in (e.Served n served) = served.bypassed
bypassed_in _ = 0

abbrev pub is_join : Entry → Bool
is_join (e.Join t i n) = true
is_join _ = false

abbrev pub is_landing : Entry → Bool
is_landing (e.Landed t) = true
is_landing _ = false

abbrev pub is_failing : Entry → Bool
is_failing (e.Failed t why) = true
is_failing _ = false

abbrev pub is_wrote : Entry → Bool
is_wrote (e.Wrote i) = true
is_wrote _ = false

abbrev pub is_dropped : Entry → Bool
is_dropped (e.Dropped i why) = true
is_dropped _ = false

abbrev pub is_synced : Entry → Bool
is_synced e.Synced = true
is_synced _ = false

abbrev pub is_claimed : Entry → Bool
is_claimed (e.Claimed p c) = true
is_claimed _ = false

-- opened, served, joined, landed and the other entries are counted by their kind, the bytes of reads are summed, and a
-- landed flight of client 0 was a prefetch
abbrev pub counts_of : List Entry → Counts
counts_of es = record {
  opens = saturated (times is_open es);
  reads = saturated (times is_served es);
  hit = saturated (sum_by hit_in es);
  missed = saturated (sum_by missed_in es);
  bypassed = saturated (sum_by bypassed_in es);
  joined = saturated (times is_join es);
  fetched = saturated (times is_landing es);
  prefetched = saturated (landed_of 0 es);
  failed = saturated (times is_failing es);
  written = saturated (times is_wrote es);
  dropped = saturated (times is_dropped es);
  synced = saturated (times is_synced es);
  claimed = saturated (times is_claimed es);
}

-- the counts after one more entry, which landed a flight of client 0 or didn't
abbrev pub one_more : Counts → Entry → Bool → Counts
one_more c (e.Opened n) prefetched = record c { opens = saturated (c.opens + 1) }
one_more c (e.Served n served) prefetched = record c { reads = saturated (c.reads + 1); hit = saturated (c.hit + served.hit); missed = saturated (c.missed + served.missed); bypassed = saturated (c.bypassed + served.bypassed) }
one_more c (e.Join t i n) prefetched = record c { joined = saturated (c.joined + 1) }
one_more c (e.Landed t) prefetched = record c { fetched = saturated (c.fetched + 1); prefetched = saturated (c.prefetched + (if prefetched then 1 else 0)) }
one_more c (e.Failed t why) prefetched = record c { failed = saturated (c.failed + 1) }
one_more c (e.Wrote i) prefetched = record c { written = saturated (c.written + 1) }
one_more c (e.Dropped i why) prefetched = record c { dropped = saturated (c.dropped + 1) }
one_more c e.Synced prefetched = record c { synced = saturated (c.synced + 1) }
one_more c (e.Claimed p n) prefetched = record c { claimed = saturated (c.claimed + 1) }
one_more c _ prefetched = c
