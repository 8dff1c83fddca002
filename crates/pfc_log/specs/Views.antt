-- What the entries so far say of a block, a ticket, a client. Each view reads the log from its start, entry by entry.
use Rattle.std.specs.Prelude.{◌≡◌, ℕ, zero, suc, ◌+◌, ◌==◌, ◌&&◌, Bool, true, false, if◌then◌else◌, List, take, length, fold, count_by, Option, Some, None}
use Rattle.pfc_base.specs.Block.{count_of, block_len_of}
use Rattle.pfc_base.specs.BlockSet.{is_member}
use Rattle.pfc_log.specs.declared.entry.Entry.{Entry}
use Rattle.pfc_log.specs.declared.entry.Entry.TheVariants.{Opened, Closed, Begin, Join, Hit, Direct, Landed, Failed, Dropped, Wrote, Left, Synced, Claimed, Frozen, WrittenOff}
use Rattle.pfc_log.specs.declared.entry.Spot.{Spot}
use Rattle.pfc_log.specs.declared.entry.Spot.TheVariants.{Ram, Disk}
use Rattle.pfc_log.specs.declared.entry.Way.{Way}
use Rattle.pfc_log.specs.declared.entry.Way.TheVariants.{Lost, Device}
use Rattle.pfc_log.specs.declared.start.Start.{Start}
use Rattle.pfc_log.specs.declared.start.Start.TheVariants.{Stored, Uncached}

-- Where a block is: away, in flight for a client, or here, in memory. A block that is here keeps the number of its
-- flight, and whether it is done: written or dropped since it landed.
pub data Place : Type 0 where
  Away : Place
  Flying : (ticket client : ℕ) → Place
  Here : (ticket : ℕ) (done : Bool) → Place

-- flight t lands: a block in that flight is here, and not done
abbrev pub landing : ℕ → Place → Place
landing t Away = Away
landing t (Flying u n) = if u == t then Here u false else Flying u n
landing t (Here u done) = Here u done

-- flight t fails: a block in that flight is away
abbrev pub failing : ℕ → Place → Place
failing t Away = Away
failing t (Flying u n) = if u == t then Away else Flying u n
failing t (Here u done) = Here u done

-- the block was written or dropped: if it is here it is done
abbrev pub ending : Place → Place
ending Away = Away
ending (Flying t n) = Flying t n
ending (Here t done) = Here t true

-- where block i is after one more entry
abbrev pub moves : ℕ → Place → Entry → Place
moves i p (Begin t j n) = if j == i then Flying t n else p
moves i p (Landed t) = landing t p
moves i p (Failed t why) = failing t p
moves i p (Dropped j why) = if j == i then ending p else p
moves i p (Wrote j) = if j == i then ending p else p
moves i p (Left j) = if j == i then Away else p
moves i p _ = p

-- where block i is
abbrev pub place : ℕ → List Entry → Place
place i es = fold (moves i) Away es

abbrev pub is_flying : Place → Bool
is_flying (Flying t n) = true
is_flying _ = false

-- the block is in memory
abbrev pub is_here : Place → Bool
is_here (Here t done) = true
is_here _ = false

-- flight t is out
abbrev pub IsFlying : ℕ → List Entry → Type 0
IsFlying t es = (i n : ℕ) × (place i es ≡ Flying t n)

-- how often such an entry stands
abbrev pub times : (Entry → Bool) → List Entry → ℕ
times p es = count_by p es

abbrev pub is_opened : ℕ → Entry → Bool
is_opened n (Opened m) = m == n
is_opened n _ = false

abbrev pub is_closed : ℕ → Entry → Bool
is_closed n (Closed m) = m == n
is_closed n _ = false

abbrev pub is_begin : Entry → Bool
is_begin (Begin t i n) = true
is_begin _ = false

abbrev pub is_landed : ℕ → Entry → Bool
is_landed t (Landed u) = u == t
is_landed t _ = false

abbrev pub is_failed : ℕ → Entry → Bool
is_failed t (Failed u why) = u == t
is_failed t _ = false

-- flight t ended, by landing or by failing
abbrev pub is_ended : ℕ → Entry → Bool
is_ended t (Landed u) = u == t
is_ended t (Failed u why) = u == t
is_ended t _ = false

-- client n began flight t of block i, or joined it
abbrev pub is_asked : ℕ → ℕ → ℕ → Entry → Bool
is_asked i n t (Begin u j m) = u == t && j == i && m == n
is_asked i n t (Join u j m) = u == t && j == i && m == n
is_asked i n t _ = false

abbrev pub is_lost_way : ℕ → Way → Bool
is_lost_way t (Lost u) = u == t
is_lost_way t _ = false

abbrev pub is_device_way : Way → Bool
is_device_way Device = true
is_device_way _ = false

-- client n reads block i from the origin, since flight t failed
abbrev pub is_lost : ℕ → ℕ → ℕ → Entry → Bool
is_lost i n t (Direct j m why) = is_lost_way t why && j == i && m == n
is_lost i n t _ = false

-- client n reads block i from the origin, since its store failed
abbrev pub is_device : ℕ → ℕ → Entry → Bool
is_device i n (Direct j m why) = is_device_way why && j == i && m == n
is_device i n _ = false

abbrev pub is_disk : Spot → Bool
is_disk Disk = true
is_disk Ram = false

-- client n found block i on disk
abbrev pub is_disk_hit : ℕ → ℕ → Entry → Bool
is_disk_hit i n (Hit j spot m) = is_disk spot && j == i && m == n
is_disk_hit i n _ = false

abbrev pub is_frozen : Entry → Bool
is_frozen Frozen = true
is_frozen _ = false

abbrev pub is_written_off : Entry → Bool
is_written_off WrittenOff = true
is_written_off _ = false

abbrev pub opened : ℕ → List Entry → ℕ
opened n es = times (is_opened n) es

abbrev pub closed : ℕ → List Entry → ℕ
closed n es = times (is_closed n) es

abbrev pub begins : List Entry → ℕ
begins es = times is_begin es

-- block i is in the start set
abbrev pub started : Start → ℕ → Bool
started (Stored set) i = is_member set i
started (Uncached why) i = false

-- how many blocks the file has, none where it isn't cached
abbrev pub bound : Start → ℕ
bound (Stored set) = length set
bound (Uncached why) = 0

-- Whether a block is written: it started so, or a `wrote` of it stands. Whether it is durable: it started so, or a
-- `wrote` of it stands before the last `synced`.
pub record Kept : Type 0 where
  pub written : Bool
  pub durable : Bool

abbrev pub keeps : ℕ → Kept → Entry → Kept
keeps i s (Wrote j) = if j == i then record { written = true; durable = s.durable } else s
keeps i s Synced = record { written = s.written; durable = s.written }
keeps i s _ = s

abbrev pub kept : Start → ℕ → List Entry → Kept
kept first i es = fold (keeps i) (record { written = started first i; durable = started first i }) es

abbrev pub durable : Start → ℕ → List Entry → Bool
durable first i es = (kept first i es).durable

-- block i can be read from disk: it is written, or once the store is frozen, durable
abbrev pub stored : Start → ℕ → List Entry → Bool
stored first i es = if 0 == times is_frozen es then (kept first i es).written else (kept first i es).durable

abbrev pub claiming : Option ℕ → Entry → Option ℕ
claiming last (Claimed p c) = Some p
claiming last _ = last

-- the place that the last `claimed` names
abbrev pub last_claim : List Entry → Option ℕ
last_claim es = fold claiming None es

abbrev pub claimed_at : Start → ℕ → List Entry → Option ℕ → Bool
claimed_at first i es None = started first i
claimed_at first i es (Some p) = durable first i (take p es)

-- block i is claimed by the cinfo: it was durable at the place that the last `claimed` names, or started so
abbrev pub claimed : Start → ℕ → List Entry → Bool
claimed first i es = claimed_at first i es (last_claim es)

-- how many numbers below a bound pass a test
abbrev pub count_below : (ℕ → Bool) → ℕ → ℕ
count_below f zero = 0
count_below f (suc n) = count_below f n + (if f n then 1 else 0)

abbrev pub sum_below : (ℕ → ℕ) → ℕ → ℕ
sum_below f zero = 0
sum_below f (suc n) = sum_below f n + f n

-- what a block costs where it is: its length, unless it is away
abbrev pub len_at : ℕ → ℕ → ℕ → Place → ℕ
len_at size k i Away = 0
len_at size k i _ = block_len_of size k i

-- the lengths together of the blocks in flight or in memory, for a file of this size with blocks of k bytes
abbrev pub held : ℕ → ℕ → List Entry → ℕ
held size k es = sum_below (λ i. len_at size k i (place i es)) (count_of size k)
