-- What all logs of a run count together, and how that is printed.
use Rattle.std.specs.Prelude.{ℕ, ◌+◌, List, [], ◌∷◌, ◌++◌, codes, sum_by}
use Rattle.std.specs.Fmt.{decimal}
use Rattle.pfc_log.specs.declared.counts.Counts.{Counts}
use Rattle.pfc_log.specs.declared.entry.Entry.{Entry}
use Rattle.pfc_log.specs.Counts.{saturated, is_open, is_served, is_join, is_landing, is_failing, is_wrote, is_dropped, is_synced, is_claimed, hit_in, missed_in, bypassed_in}
use Rattle.pfc_log.specs.Owners.{landed_of}
use Rattle.pfc_log.specs.Views.{times}

-- the counts of all logs, each of them as 64 bits hold it
abbrev pub counts_of_all : List (List Entry) → Counts
counts_of_all logs = record {
  opens = saturated (sum_by (times is_open) logs);
  reads = saturated (sum_by (times is_served) logs);
  hit = saturated (sum_by (sum_by hit_in) logs);
  missed = saturated (sum_by (sum_by missed_in) logs);
  bypassed = saturated (sum_by (sum_by bypassed_in) logs);
  joined = saturated (sum_by (times is_join) logs);
  fetched = saturated (sum_by (times is_landing) logs);
  prefetched = saturated (sum_by (landed_of 0) logs);
  failed = saturated (sum_by (times is_failing) logs);
  written = saturated (sum_by (times is_wrote) logs);
  dropped = saturated (sum_by (times is_dropped) logs);
  synced = saturated (sum_by (times is_synced) logs);
  claimed = saturated (sum_by (times is_claimed) logs);
}

-- the sums of two logs' counts
abbrev pub plus : Counts → Counts → Counts
plus a b = record {
  opens = saturated (a.opens + b.opens);
  reads = saturated (a.reads + b.reads);
  hit = saturated (a.hit + b.hit);
  missed = saturated (a.missed + b.missed);
  bypassed = saturated (a.bypassed + b.bypassed);
  joined = saturated (a.joined + b.joined);
  fetched = saturated (a.fetched + b.fetched);
  prefetched = saturated (a.prefetched + b.prefetched);
  failed = saturated (a.failed + b.failed);
  written = saturated (a.written + b.written);
  dropped = saturated (a.dropped + b.dropped);
  synced = saturated (a.synced + b.synced);
  claimed = saturated (a.claimed + b.claimed);
}

-- ---- text

-- a word and a decimal, as a line
abbrev pub count_line : List ℕ → ℕ → List ℕ
count_line word n = word ++ 32 ∷ decimal n ++ 10 ∷ []

-- what clients did, by where their bytes came from
abbrev pub reads_text : Counts → List ℕ
reads_text c = count_line (codes "opens") c.opens ++ count_line (codes "reads") c.reads ++ count_line (codes "hit") c.hit
    ++ count_line (codes "missed") c.missed ++ count_line (codes "bypassed") c.bypassed

-- what became of flights and blocks
abbrev pub blocks_text : Counts → List ℕ
blocks_text c = count_line (codes "joined") c.joined ++ count_line (codes "fetched") c.fetched ++ count_line (codes "prefetched") c.prefetched
    ++ count_line (codes "failed") c.failed ++ count_line (codes "written") c.written ++ count_line (codes "dropped") c.dropped
    ++ count_line (codes "synced") c.synced ++ count_line (codes "claimed") c.claimed

-- what became of flights alone
abbrev pub flights_text : Counts → List ℕ
flights_text c = count_line (codes "fetched") c.fetched ++ count_line (codes "prefetched") c.prefetched ++ count_line (codes "failed") c.failed

abbrev pub counts_text : Counts → List ℕ
counts_text c = codes "statistics\n" ++ reads_text c ++ blocks_text c

abbrev pub own_counts_text : Counts → List ℕ
own_counts_text c = codes "statistics\n" ++ reads_text c ++ flights_text c

-- with the number of files that purges cleared, and the bytes on disk at the end
abbrev pub statistics_text : Counts → ℕ → ℕ → List ℕ
statistics_text c purged usage = counts_text c ++ count_line (codes "purged") purged ++ count_line (codes "usage") usage

-- what a server prints of its own work: no more than its clients and its prefetcher counted themselves
abbrev pub own_text : Counts → ℕ → List ℕ
own_text c usage = own_counts_text c ++ count_line (codes "usage") usage
