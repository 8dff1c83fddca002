-- What contracts see of a log, and what it keeps beside its entries.
use Rattle.std.specs.Prelude.{◌≡◌, ◌+◌, ◌≤◌, vec_len, vec_capacity}
use Rattle.pfc_log.specs.Owners.{owners}
use Rattle.pfc_log.specs.Counts.{counts_of}
use Rattle.pfc_log.specs.declared.log.FileLog.TheInside.{Inside}

-- the owners and the counts are those of the entries, and there is the room that was promised
pub record IsKept (log : Inside) : Type 0 where
  pub owned : log.owners.items ≡ owners log.entries.items
  pub counted : log.counts ≡ counts_of log.entries.items
  pub room : vec_len log.entries + log.room ≤ vec_capacity log.entries
  pub owner_room : vec_len log.owners + log.room ≤ vec_capacity log.owners
