-- What a step of a client keeps.
use Rattle.std.specs.Prelude.{◌≡◌, ◌⊎◌, ℕ, ◌+◌, ◌*◌, ◌<◌, ◌≤◌, ◌==◌, false, length, count_by, sum_by, Option, Some, None, IfSome}
use Rattle.pfc_world.specs.Counts.{RoseBy, last_count}
use Rattle.pfc_log.specs.declared.entry.DropCause.TheVariants as cause
use Rattle.pfc_log.specs.Tallies.{Tally, tally, together}
use Rattle.pfc_log.specs.Waiting.{GrowsPlainly}
use Rattle.pfc_client.specs.Told.{stats, lost, opens, reads, bytes}
use Rattle.pfc_client.specs.Permitted.{is_fetch}
use Rattle.pfc_core.specs.Marks.{Mark, JobKind, sees, listed}
use Rattle.pfc_core.specs.Calls.{foreign, Drops}
use Rattle.pfc_core.specs.OpenJobs.{a_job, settled}
use Rattle.pfc_core.specs.LineView.{LineView}
use Rattle.pfc_core.specs.View.{CoreView}
use Rattle.pfc_writer.specs.Queue.{QueueView}
use Rattle.pfc_actor.specs.StageView as st
use Rattle.pfc_actor.specs.StageView.{StageView}
use Rattle.pfc_actor.specs.Books.{BookView}
use Rattle.pfc_actor.specs.Stages.{Shares, shares, weight, owed, asking, failing, doomed}

-- the calls that the replies, the request at work and the logs account for
abbrev pub known_calls : BookView → StageView → Tally → ℕ
known_calls b st t = stats b.asked b.replies + asking st + t.landed + t.faults + t.directs

-- What all logs together say of the client is what its replies, its line and the request at work say.
pub record IsTallied (b : BookView) (l : LineView) (st : StageView) (t : Tally) : Type 0 where
  pub opened : t.opened ≡ opens b.replies
  pub served : t.served ≡ reads b.replies
  pub read : t.hit + t.missed + t.bypassed ≡ bytes b.replies
  pub least : l.calls < last_count → known_calls b st t ≤ l.calls + owed st
  pub most : l.calls < last_count → l.calls + owed st ≤ known_calls b st t + t.wants
  pub faults : RoseBy 0 t.faults l.faults
  pub failed : t.faults + t.wants ≤ lost b.asked b.replies + failing st

-- each reply that a fetch failed has a fault of the client's own line
abbrev pub IsCaused : BookView → LineView → StageView → Type 0
IsCaused b l st = RoseBy 0 (count_by is_fetch b.replies + doomed st) l.faults

-- What one log says of the client's reads has room for the read at work.
pub record IsWithin (s : Shares) (k : ℕ) (t : Tally) : Type 0 where
  pub hit : t.hit + k * s.hits ≤ k * t.hits
  pub missed : t.missed + k * s.waits ≤ k * t.waits
  pub bypassed : t.bypassed + k * s.directs ≤ k * t.directs

-- no share grows
pub record Shrinks (old new : Shares) : Type 0 where
  pub hits : new.hits ≤ old.hits
  pub waits : new.waits ≤ old.waits
  pub directs : new.directs ≤ old.directs

-- the core has all tokens of its number that the client holds, and all that it has are its own
pub record Knows (b : BookView) (st : StageView) (c : CoreView) : Type 0 where
  pub known : (m : Mark) → m.instance ≡ c.instance → weight (sees m) b st ≤ listed m c.out
  pub own : sum_by (foreign c) c.out ≡ 0

-- the job for which the queue had no room, and how many it had
abbrev pub full_in : StageView → Option (Mark × ℕ)
full_in (st.Full op job capacity) = Some (job, capacity)
full_in _ = None

-- only a client that had found the queue full is at that
abbrev pub StaysFull : StageView → StageView → Type 0
StaysFull old new = IfSome (full_in new) (λ full. full_in old ≡ Some full)

-- A client that found the queue full drops its job so. Otherwise no block is written or dropped.
abbrev pub GrowsBy : Option (Mark × ℕ) → CoreView → CoreView → Type 0
GrowsBy None c c2 = GrowsPlainly c.entries c2.entries
GrowsBy (Some full) c c2 = (c2 ≡ c) ⊎ Drops c full.0 (cause.Full full.1) c2

-- A step of the client on a core. A job that this gives out is of a block that is neither written nor dropped.
pub record Step (b : BookView) (l : LineView) (st : StageView) (c : CoreView) (b2 : BookView) (l2 : LineView) (st2 : StageView) (c2 : CoreView) : Type 0 where
  pub number : b2.number ≡ b.number
  pub link : l2.number ≡ l.number
  pub asked : b2.asked ≡ b.asked
  pub home : c2 ≡ record c { entries = c2.entries; out = c2.out; access = c2.access }
  pub tokens : (w : Mark → ℕ) → weight w b2 st2 + sum_by w c.out ≡ weight w b st + sum_by w c2.out
  pub tallied : (rest : Tally) → IsTallied b l st (together rest (tally b.number c.entries)) → IsTallied b2 l2 st2 (together rest (tally b.number c2.entries))
  pub within : IsWithin (shares c.instance st) c.block_size (tally b.number c.entries) → IsWithin (shares c.instance st2) c.block_size (tally b.number c2.entries)
  pub elsewhere : (i : ℕ) → (i == c.instance) ≡ false → Shrinks (shares i st) (shares i st2)
  pub grows : GrowsBy (full_in st) c c2
  pub fresh : sum_by (settled c2) c2.out ≤ sum_by (settled c2) c.out
  pub full : StaysFull st st2
  pub others : (m : ℕ) → (m == b.number) ≡ false → tally m c2.entries ≡ tally m c.entries

-- a step on no core
pub record Own (b : BookView) (l : LineView) (st : StageView) (b2 : BookView) (l2 : LineView) (st2 : StageView) : Type 0 where
  pub number : b2.number ≡ b.number
  pub link : l2.number ≡ l.number
  pub asked : b2.asked ≡ b.asked
  pub tokens : (w : Mark → ℕ) → weight w b2 st2 ≡ weight w b st
  pub tallied : (t : Tally) → IsTallied b l st t → IsTallied b2 l2 st2 t
  pub elsewhere : (i : ℕ) → Shrinks (shares i st) (shares i st2)
  pub full : StaysFull st st2

-- the queue had no room for a job, with so many in it
pub record FindsFull (full : Mark × ℕ) (q q2 : QueueView) : Type 0 where
  pub job : full.0.kind ≡ JobKind
  pub capacity_is : full.1 ≡ q.capacity
  pub many : q.capacity ≤ length q.jobs
  pub same : q2 ≡ q

-- a landed block is put to the queue, or finds no room there
pub record Puts (b : BookView) (l : LineView) (st : StageView) (q : QueueView) (b2 : BookView) (l2 : LineView) (st2 : StageView) (q2 : QueueView) : Type 0 where
  pub number : b2.number ≡ b.number
  pub link : l2.number ≡ l.number
  pub asked : b2.asked ≡ b.asked
  pub tokens : (w : Mark → ℕ) → weight w b2 st2 + sum_by w q2.jobs ≡ weight w b st + sum_by w q.jobs
  pub capacity : q2.capacity ≡ q.capacity
  pub tallied : (t : Tally) → IsTallied b l st t → IsTallied b2 l2 st2 t
  pub elsewhere : (i : ℕ) → Shrinks (shares i st) (shares i st2)
  pub jobs : sum_by a_job q.jobs ≡ length q.jobs → sum_by a_job q2.jobs ≡ length q2.jobs
  pub more : length q.jobs ≤ length q2.jobs
  pub full : IfSome (full_in st2) (λ full. (full_in st ≡ Some full × (q2 ≡ q)) ⊎ FindsFull full q q2)
