-- What a client at a stage of its work holds and owes.
use Rattle.std.specs.Prelude.{◌≡◌, ℕ, ◌+◌, ◌<◌, ◌≤◌, ◌==◌, ◌&&◌, not, true, false, List, length, Option, Some, Ok, if◌then◌else◌, sum_by}
use Rattle.pfc_base.specs.Block.{IsPartOf}
use Rattle.pfc_base.specs.declared.block.Part.{Part}
use Rattle.pfc_span.specs.declared.pieces.Pieces.{Pieces}
use Rattle.pfc_span.specs.Pieces.{pieces_in, asked_of}
use Rattle.pfc_log.specs.declared.entry.Fell.{Fell}
use Rattle.pfc_log.specs.declared.entry.Fell.TheVariants.{Fault}
use Rattle.pfc_client.specs.declared.request.Request.{Request}
use Rattle.pfc_client.specs.declared.request.Request.TheVariants as q
use Rattle.pfc_client.specs.Session.{place_at, is_free}
use Rattle.pfc_client.specs.Permitted.{most_bytes}
use Rattle.pfc_core.specs.Marks.{Mark, TicketKind, JobKind, DiskKind, kind_code}
use Rattle.pfc_core.specs.View.{CoreView}
use Rattle.pfc_read.specs.OpView.{OpView, Given, Nothing, ToRun, ToFill, ToLook, ToRead, ToEnd, held}
use Rattle.pfc_read.specs.Steps.{IsTokenOf, IsLeaveOf, IsPinFor, IsDiskFor}
use Rattle.pfc_actor.specs.StageView as st
use Rattle.pfc_actor.specs.StageView.{StageView}
use Rattle.pfc_actor.specs.Books.{BookView, IsNext, open_weight}

-- the tokens that the request at work holds, weighed
abbrev pub stage_weight : (Mark → ℕ) → StageView → ℕ
stage_weight w (st.Reading op) = held w op
stage_weight w (st.Landed op job) = held w op + w job
stage_weight w (st.Full op job capacity) = held w op + w job
stage_weight w (st.Running op ticket) = held w op + w ticket
stage_weight w (st.Directing op leave) = held w op
stage_weight w (st.Looking op pin part) = held w op + w pin
stage_weight w (st.Loading op disk part) = held w op + w disk
stage_weight w (st.Borrowing op disk part) = held w op + w disk
stage_weight w (st.Loaded op disk) = held w op + w disk
stage_weight w (st.Refused op disk part) = held w op + w disk
stage_weight w (st.Broken op disk part) = held w op + w disk
stage_weight w (st.Ending op) = held w op
stage_weight w _ = 0

-- all that the client holds, weighed
abbrev pub weight : (Mark → ℕ) → BookView → StageView → ℕ
weight w b st = open_weight w b.stays + stage_weight w st

-- direct reads that are entered and aren't made yet
abbrev pub owed : StageView → ℕ
owed (st.Reading op) = op.leaves
owed (st.Landed op job) = op.leaves
owed (st.Full op job capacity) = op.leaves
owed (st.Running op ticket) = op.leaves
owed (st.Directing op leave) = op.leaves + 1
owed (st.Looking op pin part) = op.leaves
owed (st.Loading op disk part) = op.leaves
owed (st.Borrowing op disk part) = op.leaves
owed (st.Loaded op disk) = op.leaves
owed (st.Refused op disk part) = op.leaves
owed (st.Broken op disk part) = op.leaves
owed (st.Ending op) = op.leaves
owed _ = 0

-- 1 where the size was asked for and there is no reply yet
abbrev pub asking : StageView → ℕ
asking (st.Wanted wanted) = 1
asking (st.Making wanted) = 1
asking (st.Joining wanted) = 1
asking _ = 0

-- the flights of the read at work that failed
abbrev pub failing : StageView → ℕ
failing (st.Reading op) = op.failed
failing (st.Landed op job) = op.failed
failing (st.Full op job capacity) = op.failed
failing (st.Running op ticket) = op.failed
failing (st.Directing op leave) = op.failed
failing (st.Looking op pin part) = op.failed
failing (st.Loading op disk part) = op.failed
failing (st.Borrowing op disk part) = op.failed
failing (st.Loaded op disk) = op.failed
failing (st.Refused op disk part) = op.failed
failing (st.Broken op disk part) = op.failed
failing (st.Ending op) = op.failed
failing _ = 0

abbrev pub is_fault : Option Fell → ℕ
is_fault (Some Fault) = 1
is_fault _ = 0

-- 1 where the reply will be that a fetch failed
abbrev pub doomed : StageView → ℕ
doomed (st.Reading op) = is_fault op.met
doomed (st.Landed op job) = is_fault op.met
doomed (st.Full op job capacity) = is_fault op.met
doomed (st.Running op ticket) = is_fault op.met
doomed (st.Directing op leave) = is_fault op.met
doomed (st.Looking op pin part) = is_fault op.met
doomed (st.Loading op disk part) = is_fault op.met
doomed (st.Borrowing op disk part) = is_fault op.met
doomed (st.Loaded op disk) = is_fault op.met
doomed (st.Refused op disk part) = is_fault op.met
doomed (st.Broken op disk part) = is_fault op.met
doomed (st.Ending op) = is_fault op.met
doomed _ = 0

-- The parts that the read at work found in memory, waits for, and reads from the origin itself, if it is of this core.
pub record Shares : Type 0 where
  pub hits : ℕ
  pub waits : ℕ
  pub directs : ℕ

abbrev pub no_shares : Shares
no_shares = record { hits = 0; waits = 0; directs = 0 }

abbrev pub op_shares : ℕ → OpView → Shares
op_shares i op = if op.reading.instance == i then record { hits = op.hits; waits = op.waits; directs = op.directs } else no_shares

abbrev pub shares : ℕ → StageView → Shares
shares i (st.Reading op) = op_shares i op
shares i (st.Landed op job) = op_shares i op
shares i (st.Full op job capacity) = op_shares i op
shares i (st.Running op ticket) = op_shares i op
shares i (st.Directing op leave) = op_shares i op
shares i (st.Looking op pin part) = op_shares i op
shares i (st.Loading op disk part) = op_shares i op
shares i (st.Borrowing op disk part) = op_shares i op
shares i (st.Loaded op disk) = op_shares i op
shares i (st.Refused op disk part) = op_shares i op
shares i (st.Broken op disk part) = op_shares i op
shares i (st.Ending op) = op_shares i op
shares i _ = no_shares

-- ---- what fits the request at work

-- this request is answered next
pub record IsAsked (b : BookView) (request : Request) : Type 0 where
  pub going : b.shut ≡ false
  pub next : IsNext b (Ok request)

-- an open of a free descriptor
pub record Opens (b : BookView) (number : ℕ) (path : List ℕ) : Type 0 where
  pub asked : IsAsked b (q.Open number path)
  pub free : is_free b.stays number ≡ true

-- a read of an open descriptor, and of no more bytes than one gives
pub record Reads (b : BookView) (number : ℕ) (pieces : Pieces) (stay : Mark) : Type 0 where
  pub asked : IsAsked b (q.Read number pieces)
  pub is_open : place_at b.stays number ≡ Some stay
  pub short : asked_of (pieces_in pieces) ≤ most_bytes

-- 1 for a ticket whose number isn't its flight's
abbrev pub misnumbered : Mark → ℕ
misnumbered m = if kind_code m.kind == kind_code TicketKind && not (m.flight == m.number) then 1 else 0

-- the read at work, with this action given
pub record GoesOn (b : BookView) (op : OpView) (given : Given) : Type 0 where
  pub number : ℕ
  pub stay : Mark
  pub reads : Reads b number op.pieces stay
  pub path_is : op.reading.path ≡ stay.path
  pub size_is : op.reading.size ≡ stay.size
  pub client_is : op.reading.client ≡ b.number
  pub given_is : op.given ≡ given
  pub numbered : sum_by misnumbered op.tickets ≡ 0

-- the read at work, with a part to be read from disk
pub record Loads (b : BookView) (op : OpView) (disk : Mark) (part : Part) : Type 0 where
  pub goes : GoesOn b op (ToRead part)
  pub disk_for : IsDiskFor op.reading part disk
  pub part_of : IsPartOf disk.size disk.block_size part

abbrev pub AtWork : BookView → StageView → Type 0
AtWork b st.Rest = length b.replies < length b.asked → b.shut ≡ false
AtWork b (st.Wanted wanted) = Opens b wanted.number wanted.path
AtWork b (st.Making wanted) = Opens b wanted.number wanted.path
AtWork b (st.Joining wanted) = Opens b wanted.number wanted.path
AtWork b (st.Planning number pieces) = (stay : Mark) × Reads b number pieces stay
AtWork b (st.Closing number) = IsAsked b (q.Close number) × ((stay : Mark) × (place_at b.stays number ≡ Some stay))
AtWork b st.Closed = b.shut ≡ false
AtWork b (st.Reading op) = GoesOn b op Nothing
AtWork b (st.Landed op job) = GoesOn b op Nothing × (job.instance ≡ op.reading.instance) × (job.kind ≡ JobKind)
AtWork b (st.Full op job capacity) = GoesOn b op Nothing × (job.instance ≡ op.reading.instance) × (job.kind ≡ JobKind)
AtWork b (st.Running op ticket) = GoesOn b op ToRun × IsTokenOf op.reading TicketKind ticket × (ticket.flight ≡ ticket.number)
AtWork b (st.Directing op leave) = GoesOn b op (ToFill leave.part) × IsLeaveOf op.reading leave
AtWork b (st.Looking op pin part) = GoesOn b op (ToLook part) × IsPinFor op.reading part pin
AtWork b (st.Loading op disk part) = Loads b op disk part
AtWork b (st.Borrowing op disk part) = Loads b op disk part
AtWork b (st.Loaded op disk) = GoesOn b op Nothing × IsTokenOf op.reading DiskKind disk
AtWork b (st.Refused op disk part) = Loads b op disk part
AtWork b (st.Broken op disk part) = Loads b op disk part
AtWork b (st.Ending op) = GoesOn b op ToEnd × (op.leaves ≡ 0)

-- the next step of the client is one on this core
abbrev pub Here : BookView → StageView → CoreView → Type 0
Here b (st.Making wanted) c = c.path ≡ wanted.path
Here b (st.Joining wanted) c = c.path ≡ wanted.path
Here b (st.Planning number pieces) c = (stay : Mark) → place_at b.stays number ≡ Some stay → stay.instance ≡ c.instance
Here b (st.Closing number) c = (stay : Mark) → place_at b.stays number ≡ Some stay → stay.instance ≡ c.instance
Here b (st.Reading op) c = op.reading.instance ≡ c.instance
Here b (st.Full op job capacity) c = op.reading.instance ≡ c.instance
Here b (st.Loading op disk part) c = op.reading.instance ≡ c.instance
Here b (st.Borrowing op disk part) c = op.reading.instance ≡ c.instance
Here b (st.Loaded op disk) c = op.reading.instance ≡ c.instance
Here b (st.Refused op disk part) c = op.reading.instance ≡ c.instance
Here b (st.Broken op disk part) c = op.reading.instance ≡ c.instance
Here b _ c = ⊥
