-- Which reports are caused: what may be reported of a schedule, where the counts of the clients' links were these and are those.
use Rattle.std.specs.Prelude.{◌≡◌, ◌≢◌, ℕ, ◌+◌, ◌*◌, ◌<◌, ◌≤◌, Bool, List, [], length, map, take, slice_get, slice_index_or, All, AllPairs, sum_by, Option, Some, None, IsTrue}
use Rattle.pfc_world.specs.Files.{Files, HasSize}
use Rattle.pfc_world.specs.Counts.{RoseBy, last_count}
use Rattle.pfc_client.specs.declared.reply.Reply.{Reply}
use Rattle.pfc_client.specs.Permitted.{ArePermitted}
use Rattle.pfc_client.specs.Told.{stats, lost, opens, reads, bytes}
use Rattle.pfc_base.specs.Block.{count_of}
use Rattle.pfc_log.specs.Charges.{charges, is_there}
use Rattle.pfc_log.specs.Uncaching.{cause_of}
use Rattle.pfc_log.specs.Views.{times, stored, claimed}
use Rattle.pfc_log.specs.Waiting.{is_worked, WasFull}
use Rattle.pfc_log.specs.declared.entry.DropCause.TheVariants as cause
use Rattle.pfc_log.specs.declared.entry.Entry.{Entry}
use Rattle.pfc_log.specs.declared.entry.Entry.TheVariants.{Dropped}
use Rattle.pfc_log.specs.declared.entry.Uncached.{Uncached}
use Rattle.pfc_log.specs.declared.entry.Uncached.TheVariants.{Volume}
use Rattle.pfc_log.specs.declared.start.Start.{Start}
use Rattle.pfc_log.specs.declared.start.Start.TheVariants as start
use Rattle.pfc_log.specs.Lawful.{IsComplete, IsCached, IsUnfrozen}
use Rattle.pfc_log.specs.Tallies.{Tally, tally, nothing}
use Rattle.pfc_report.specs.declared.report.Told.{Told}
use Rattle.pfc_report.specs.declared.report.Section.{Section}
use Rattle.pfc_report.specs.Schedule.{Line, asked, asked_clients}
use Rattle.pfc_report.specs.Report.{ReportView}
use Rattle.pfc_report.specs.Restart.{AreContinued}

-- the calls and the faults of each client's link
abbrev pub Spent : Type 0
Spent = ℕ → ℕ × ℕ

-- ---- what is counted of logs

-- what client n did, by one log
abbrev pub tally_in : ℕ → Section → Tally
tally_in n section = tally n section.log.entries

-- a count of what client n did, over all logs
abbrev pub over : (Tally → ℕ) → ℕ → List Section → ℕ
over count n logs = sum_by (λ section. count (tally_in n section)) logs

-- ---- the parts

-- How the log of a file with so many blocks starts: with a set of them, or without a store since its volume couldn't be had;
-- where there is a cause by which it isn't cached, with that.
abbrev pub StartsFor : Option Uncached → ℕ → Start → Type 0
StartsFor None blocks (start.Stored set) = length set ≡ blocks
StartsFor None blocks (start.Uncached why) = why ≡ Volume
StartsFor (Some why) blocks first = first ≡ start.Uncached why

-- The file is cached unless its path, its size or a failing disk says otherwise. The size is the origin's where the world
-- tells it.
pub record StartsRight (told : Bool) (files : Files) (k : ℕ) (path : List ℕ) (first : Start) : Type 0 where
  pub size : ℕ
  pub right : HasSize told files path size
  pub start : StartsFor (cause_of path (count_of size k)) (count_of size k) first

-- those that were asked anything were told, in order of number, a reply to each request
pub record AreTold (lines : List Line) (clients : List Told) : Type 0 where
  pub numbers : map (λ told. told.number) clients ≡ asked_clients lines
  pub each : All (λ told. length told.replies ≡ length (asked told.number lines)) clients

-- Each log is lawful to its end, at which nothing is in flight or in memory and each open was closed, and no block was on disk
-- as it was to be written. Each path has at most one log that starts with a store. Logs of files that aren't cached start with
-- the cause.
pub record AreComplete (told : Bool) (files : Files) (k : ℕ) (logs : List Section) : Type 0 where
  pub complete : All (λ section. IsComplete section.log.first section.log.entries) logs
  pub theres : All (λ section. times is_there section.log.entries ≡ 0) logs
  pub paths : AllPairs (λ section other. IsCached section.log.first → IsCached other.log.first → section.path ≢ other.path) logs
  pub starts : All (λ section. StartsRight told files k section.path section.log.first) logs

-- the calls of a client's link that opens, flights and direct reads account for
abbrev pub known_calls : ℕ → List (List ℕ) → List Reply → List Section → ℕ
known_calls n lines replies logs =
    stats lines replies + over (λ t. t.landed) n logs + over (λ t. t.faults) n logs + over (λ t. t.directs) n logs

-- The calls of client n's link, as long as their count isn't at its end: one for each open that asked the origin, one for
-- each of its flights that landed or failed by a fault, one for each of its direct reads, and at most one for each of its
-- flights that failed for want of memory.
pub record AreItsCalls (n : ℕ) (lines : List (List ℕ)) (replies : List Reply) (logs : List Section) (before after : ℕ) : Type 0 where
  pub least : after < last_count → before + known_calls n lines replies logs ≤ after
  pub most : after < last_count → after ≤ before + known_calls n lines replies logs + over (λ t. t.wants) n logs

-- A client's reads in a log: their bytes are from blocks that the client found, waited for or read from the origin itself.
pub record FitBlocks (k : ℕ) (t : Tally) : Type 0 where
  pub hit : t.hit ≤ k * t.hits
  pub missed : t.missed ≤ k * t.waits
  pub bypassed : t.bypassed ≤ k * t.directs

-- What the logs say that client n was served is what it was told: a `served` for each reply with bytes, and the same bytes
-- together; an `opened` for each size.
pub record IsServed (k n : ℕ) (replies : List Reply) (logs : List Section) : Type 0 where
  pub served : over (λ t. t.served) n logs ≡ reads replies
  pub bytes : over (λ t. t.hit) n logs + over (λ t. t.missed) n logs + over (λ t. t.bypassed) n logs ≡ bytes replies
  pub opened : over (λ t. t.opened) n logs ≡ opens replies
  pub blocks : All (λ section. FitBlocks k (tally_in n section)) logs

-- Client n's flights that failed: no more of them by a fault than its link's faults rose, and no more of them in all than
-- the bytes of its reads that came to nothing.
pub record AreItsFailures (n : ℕ) (lines : List (List ℕ)) (replies : List Reply) (logs : List Section) (before after : ℕ) : Type 0 where
  pub faults : RoseBy before (over (λ t. t.faults) n logs) after
  pub reads : over (λ t. t.faults) n logs + over (λ t. t.wants) n logs ≤ lost lines replies

-- a client that wasn't asked anything did nothing, by the counts of its link and by each log
pub record IsUnasked (n : ℕ) (logs : List Section) (before after : ℕ × ℕ) : Type 0 where
  pub spent : after ≡ before
  pub logged : All (λ section. tally_in n section ≡ nothing) logs

-- Failed calls of devices and of the depot that the logs show: no more of them than the depot's count of faults rose. A volume that
-- couldn't be had is one, and a store that froze; and a direct read of a block on disk, unless the store was frozen by then and
-- the block not durable.
abbrev pub AreDiskFailures : List Section → ℕ → ℕ → Type 0
AreDiskFailures logs before after = RoseBy before (sum_by (λ section. charges section.log.first section.log.entries) logs) after

-- Block i of the log at place x was dropped behind these entries since the queue was full, with c jobs in it. That was the queue's
-- capacity. The block waited at a moment at which c other blocks did, in all logs. Writers came to an end with c blocks or more.
pub record IsDroppedFull (capacity : ℕ) (logs : List Section) (x i c : ℕ) (before : List Entry) : Type 0 where
  pub capacity_is : c ≡ capacity
  pub worked : c ≤ sum_by (λ section. times is_worked section.log.entries) logs
  pub was : WasFull c x i before (map (λ section. section.log.entries) logs)

-- each block that was dropped so has that cause
abbrev pub AreDroppedFull : ℕ → List Section → Type 0
AreDroppedFull capacity logs = (x p i c : ℕ) (d : Section) → x < length logs → slice_get (slice_index_or logs x d).log.entries p ≡ Some (Dropped i (cause.Full c)) → IsDroppedFull capacity logs x i c (take p (slice_index_or logs x d).log.entries)

-- Of a log that starts with a store, of which nothing failed other than a read, the cinfo claims what can be read from disk at the
-- end, and nothing else.
abbrev pub AreClaimed : List Section → Type 0
AreClaimed logs = All (λ section. IsCached section.log.first → IsUnfrozen section.log.entries → (i : ℕ) → claimed section.log.first i section.log.entries ≡ stored section.log.first i section.log.entries) logs

-- What a depot's main files are at a moment, whether its devices tell it, and how many failed calls it counts.
pub record Disks : Type 1 where
  pub tells : Bool
  pub main : List ℕ → Option (List ℕ) → Type 0
  pub faults : ℕ

abbrev pub disks_of : {P : Type 0} → Bool → (P → List ℕ → Option (List ℕ) → Type 0) → (P → ℕ) → P → Disks
disks_of tells main faults depot = record { tells = tells; main = main depot; faults = faults depot }

-- Clients and logs account for each other: of files of this world, in blocks of k bytes, with a write queue of so many jobs, for
-- what the schedule says. The counts of the clients' links were and are these, and the depot's count of faults was and is.
pub record IsAccounted (told : Bool) (files : Files) (k capacity : ℕ) (lines : List Line) (before after : Spent) (faults faults' : ℕ) (report : ReportView) : Type 0 where
  pub clients : AreTold lines report.clients
  pub permitted : All (λ c. ArePermitted told files (asked c.number lines) c.replies (before c.number).1 (after c.number).1) report.clients
  pub complete : AreComplete told files k report.logs
  pub calls : All (λ c. AreItsCalls c.number (asked c.number lines) c.replies report.logs (before c.number).0 (after c.number).0) report.clients
  pub served : All (λ c. IsServed k c.number c.replies report.logs) report.clients
  pub failed : All (λ c. AreItsFailures c.number (asked c.number lines) c.replies report.logs (before c.number).1 (after c.number).1) report.clients
  pub disk : AreDiskFailures report.logs faults faults'
  pub full : AreDroppedFull capacity report.logs
  pub claimed : AreClaimed report.logs
  pub others : (n : ℕ) → asked n lines ≡ [] → IsUnasked n report.logs (before n) (after n)

-- The report is caused: clients and logs account for each other, and the logs go on from what the depot had, and say what it has.
pub record IsCausedReport (told : Bool) (files : Files) (k capacity : ℕ) (lines : List Line) (before after : Spent) (disks disks' : Disks) (report : ReportView) : Type 0 where
  pub accounted : IsAccounted told files k capacity lines before after disks.faults disks'.faults report
  pub continued : IsTrue told → IsTrue disks.tells → AreContinued files k lines disks.main disks'.main report.logs
