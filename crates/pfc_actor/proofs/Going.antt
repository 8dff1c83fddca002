-- The steps of a read.
use Rattle.std.proofs.Common.{◌≡◌, ℕ, ◌+◌, ◌*◌, ◌≤◌, ◌<◌, List, [], ◌∷◌, ◌++◌, length, refl, sym, ap, ◌∙◌, subst, arith, Bool, true, false, inl, inr}
use Rattle.std.specs.Prelude.{◌⊎◌, Option, Some, Ok, ◌==◌, sum_by, if◌then◌else◌, slice_get}
use Rattle.std.proofs.lemmas.List.Sums.{sum_by_push}
use Rattle.pfc_base.specs.declared.block.Part.{Part}
use Rattle.pfc_span.specs.declared.pieces.Pieces.{Pieces}
use Rattle.pfc_world.specs.Counts.{Rose, RoseBy, add_count, last_count}
use Rattle.pfc_log.specs.declared.entry.DropCause.{DropCause}
use Rattle.pfc_log.specs.declared.entry.DropCause.TheVariants as cause
use Rattle.pfc_log.specs.declared.entry.Entry.{Entry}
use Rattle.pfc_log.specs.declared.entry.Entry.TheVariants as e
use Rattle.pfc_log.specs.declared.entry.Fell.{Fell}
use Rattle.pfc_log.specs.declared.entry.Fell.TheVariants as fell
use Rattle.pfc_log.specs.declared.entry.Way.TheVariants as way
use Rattle.pfc_log.specs.Owners.{owners, is_client}
use Rattle.pfc_log.specs.Tallies.{Tally, tally, together, gain, nothing}
use Rattle.pfc_log.proofs.Places.{eq_self, eq_sym}
use Rattle.pfc_log.proofs.Tallied.{tally_same, nothing_more}
use Rattle.pfc_client.specs.declared.reply.Reply.{Reply}
use Rattle.pfc_client.specs.declared.request.Request.TheVariants as q
use Rattle.pfc_client.specs.Told.{is_size, is_data, bytes_in, lost_at}
use Rattle.pfc_core.specs.Blocks.{BlockView}
use Rattle.pfc_core.specs.Calls.{Lands, Fails, Drops}
use Rattle.pfc_core.specs.Leave.{LeaveView, leave_of}
use Rattle.pfc_core.specs.Leaves.{pins_on}
use Rattle.pfc_core.specs.Line.{Brings, Wants}
use Rattle.pfc_core.specs.Line as line
use Rattle.pfc_core.specs.LineView.{LineView}
use Rattle.pfc_core.specs.Disks.{EndsDisk, GoesBroken}
use Rattle.pfc_core.specs.Looks.{LeavesFor}
use Rattle.pfc_core.specs.Marks.{Kind, Mark, JobKind, kind_code, sees}
use Rattle.pfc_core.specs.View.{CoreView}
use Rattle.pfc_read.specs.Fills.{Owes}
use Rattle.pfc_read.specs.OpView.{OpView, held, first_met, Nothing}
use Rattle.pfc_read.specs.Plans.{Plans, with_asked}
use Rattle.pfc_read.specs.Steps.{GivesTicket, GivesLeave, GivesPin, GivesDisk, GivesEnd}
use Rattle.pfc_log.specs.Waiting.{GrowsPlainly}
use Rattle.pfc_core.specs.OpenJobs.{a_job, settled}
use Rattle.pfc_writer.specs.Queue.{QueueView}
use Rattle.pfc_actor.specs.Books.{BookView, IsNext, open_weight}
use Rattle.pfc_actor.specs.StageView.{StageView, Rest, Planning, Reading, Landed, Full, Loading, Borrowing, Loaded, Refused, Broken, Running, Directing, Looking, Ending}
use Rattle.pfc_actor.specs.Stages.{Shares, shares, no_shares, op_shares, weight, stage_weight, owed, asking, failing}
use Rattle.pfc_actor.specs.Steps.{Shrinks, StaysFull, GrowsBy, Own, Step, Puts, Knows, full_in}
use Rattle.pfc_actor.proofs.Tallied.{GoesOn, Answers, counted, made, quiet, told}
use Rattle.pfc_actor.proofs.Growing.{plain_one, plain_same, quiet_plainly}
use Rattle.pfc_actor.proofs.Calm.{quiet_plans}
use Rattle.pfc_actor.proofs.Giving.{fresh_lost, fresh_plans}
use Rattle.pfc_actor.proofs.Steps.{full_on, shrinks_same}
use Rattle.pfc_actor.proofs.Entering.{Gained, gained_one, gained_same, HasRoom, step_on, still}
use Rattle.pfc_actor.proofs.Cores.{still_home, own_step}

-- the stage is one of this read
pub record IsReading (st : StageView) (op : OpView) : Type 0 where
  pub asks : asking st ≡ 0
  pub fails : failing st ≡ op.failed
  pub shares_are : (i : ℕ) → shares i st ≡ op_shares i op

-- the read goes on, with so much more in the log
pub record Continues (op op2 : OpView) (g : Tally) : Type 0 where
  pub reading : op2.reading ≡ op.reading
  pub hits : op2.hits ≡ op.hits
  pub waits : op2.waits ≡ op.waits
  pub directs : op2.directs ≡ op.directs + g.directs
  pub failed : g.faults + g.wants + op.failed ≤ op2.failed

-- no reply is told of
pub record IsSilent (g : Tally) : Type 0 where
  pub opened : g.opened ≡ 0
  pub served : g.served ≡ 0
  pub hit : g.hit ≡ 0
  pub missed : g.missed ≡ 0
  pub bypassed : g.bypassed ≡ 0

pub shares_here : (i : ℕ) (op : OpView) → op.reading.instance ≡ i → op_shares i op ≡ record { hits = op.hits; waits = op.waits; directs = op.directs }
shares_here i op here = ap (λ (q : Bool). if q then record { hits = op.hits; waits = op.waits; directs = op.directs } else no_shares) (ap (λ (n : ℕ). n == i) here ∙ eq_self i)

shares_there : (i : ℕ) (op : OpView) → (op.reading.instance == i) ≡ false → op_shares i op ≡ no_shares
shares_there i op apart = ap (λ (q : Bool). if q then record { hits = op.hits; waits = op.waits; directs = op.directs } else no_shares) apart

on_sum : (k a b : ℕ) → k * (a + b) ≡ k * a + k * b
on_sum k a b = grind arith

op_room : (i k : ℕ) (op op2 : OpView) (g : Tally) → Continues op op2 g → IsSilent g → op.reading.instance ≡ i → HasRoom (op_shares i op) (op_shares i op2) k g
op_room i k op op2 g on silent here = rw (shares_here i op here, shares_here i op2 (ap (λ (m : Mark). m.instance) on.reading ∙ here)) (record {
  hit = let h = ap (λ (n : ℕ). k * n) on.hits in omega (arith, h, silent.hit);
  missed = let h = ap (λ (n : ℕ). k * n) on.waits in omega (arith, h, silent.missed);
  bypassed = let h = ap (λ (n : ℕ). k * n) on.directs in let d = on_sum k op.directs g.directs in omega (arith, h, d, silent.bypassed);
})

op_elsewhere : (i : ℕ) (c : CoreView) (op op2 : OpView) → op2.reading ≡ op.reading → op.reading.instance ≡ c.instance → (i == c.instance) ≡ false → Shrinks (op_shares i op) (op_shares i op2)
op_elsewhere i c op op2 same here other =
    let apart : (op.reading.instance == i) ≡ false = ap (λ (n : ℕ). n == i) here ∙ eq_sym i c.instance other in
    rw (shares_there i op apart, shares_there i op2 (ap (λ (m : Mark). m.instance == i) same ∙ apart)) (shrinks_same no_shares)

rise : (t g before after : ℕ) → RoseBy 0 t before → before ≤ after → RoseBy before g after → RoseBy 0 (t + g) after
rise t g before after was climbs rose = grind (arith, was, climbs, rose)

-- a read goes on on its core
read_step : (b : BookView) (l l2 : LineView) (st st2 : StageView) (op op2 : OpView) (c c2 : CoreView) (g : Tally) → IsReading st op → IsReading st2 op2 → Continues op op2 g → IsSilent g →
    op.reading.instance ≡ c.instance → l2.number ≡ l.number → c2 ≡ record c { entries = c2.entries; out = c2.out } → ((w : Mark → ℕ) → weight w b st2 + sum_by w c.out ≡ weight w b st + sum_by w c2.out) →
    Gained b.number c.entries c2.entries g → ((t : Tally) → GoesOn l l2 st st2 t (together t g) 0) → l.faults ≤ l2.faults → RoseBy l.faults g.faults l2.faults → GrowsBy (full_in st) c c2 → sum_by (settled c2) c2.out ≤ sum_by (settled c2) c.out → StaysFull st st2 → Step b l st c b l2 st2 c2
read_step b l l2 st st2 op op2 c c2 g was is on silent here number home tokens gained goes climbs rose grows fresh full =
    step_on b b l l2 st st2 c c2 g refl number refl (still c c2 c.access home) tokens gained
    (λ t old. quiet b b l l2 st st2 t (together t g) refl refl (omega (arith, silent.opened)) (omega (arith, silent.served)) (omega (arith, silent.hit, silent.missed, silent.bypassed)) (goes t)
    (rise t.faults g.faults l.faults l2.faults old.faults climbs rose) (omega (arith, was.fails, is.fails, on.failed)) old)
    (rw (was.shares_are c.instance, is.shares_are c.instance) (op_room c.instance c.block_size op op2 g on silent here))
    (λ i other. rw (was.shares_are i, is.shares_are i) (op_elsewhere i c op op2 on.reading here other)) grows fresh full

same_shares : (i : ℕ) (op op2 : OpView) → Continues op op2 nothing → Shrinks (op_shares i op) (op_shares i op2)
same_shares i op op2 on =
    let directs : op2.directs ≡ op.directs = omega (arith, on.directs) in
    rw (on.reading, on.hits, on.waits, directs) (shrinks_same (op_shares i op))

shrinks_on : (a b c : Shares) → Shrinks a b → Shrinks b c → Shrinks a c
shrinks_on a b c first later = record { hits = omega (arith, first.hits, later.hits); waits = omega (arith, first.waits, later.waits); directs = omega (arith, first.directs, later.directs) }

-- a read goes on by itself
pub op_own : (b : BookView) (l : LineView) (st st2 : StageView) (op op2 : OpView) → IsReading st op → IsReading st2 op2 → Continues op op2 nothing → op2.failed ≡ op.failed → owed st2 ≡ owed st →
    ((w : Mark → ℕ) → stage_weight w st2 ≡ stage_weight w st) → StaysFull st st2 → Own b l st b l st2
op_own b l st st2 op op2 was is on failed owes tokens full = record {
  number = refl;
  link = refl;
  asked = refl;
  tokens = λ w. let t = tokens w in omega (arith, t);
  tallied = λ t old. quiet b b l l st st2 t t refl refl refl refl refl (made l l st st2 t t 0 0 (omega arith) (omega (arith, owes, was.asks, is.asks)) refl) old.faults (omega (arith, was.fails, is.fails, failed)) old;
  elsewhere = λ i. rw (was.shares_are i, is.shares_are i) (same_shares i op op2 on);
  full = full;
}

pub own_own : (b : BookView) (l l2 : LineView) (st st2 st3 : StageView) → Own b l st b l st2 → Own b l st2 b l2 st3 → Own b l st b l2 st3
own_own b l l2 st st2 st3 first later = record {
  number = refl;
  link = later.link;
  asked = refl;
  tokens = λ w. later.tokens w ∙ first.tokens w;
  tallied = λ t old. later.tallied t (first.tallied t old);
  elsewhere = λ i. shrinks_on (shares i st) (shares i st2) (shares i st3) (first.elsewhere i) (later.elsewhere i);
  full = full_on (full_in st) (full_in st2) (full_in st3) first.full later.full;
}

-- a step of its own, and then one on a core
pub own_then_step : (b b2 : BookView) (l l2 : LineView) (st st2 st3 : StageView) (c c2 : CoreView) → full_in st ≡ full_in st2 → Own b l st b l st2 → Step b l st2 c b2 l2 st3 c2 → Step b l st c b2 l2 st3 c2
own_then_step b b2 l l2 st st2 st3 c c2 found first later = record {
  number = later.number;
  link = later.link;
  asked = later.asked;
  home = later.home;
  tokens = λ w. let f = first.tokens w in let t = later.tokens w in omega (arith, f, t);
  tallied = λ rest old. later.tallied rest (first.tallied (together rest (tally b.number c.entries)) old);
  within = λ old. later.within ((own_step b b l l st st2 c c first refl).within old);
  elsewhere = λ i other. shrinks_on (shares i st) (shares i st2) (shares i st3) (first.elsewhere i) (later.elsewhere i other);
  grows = rw found later.grows;
  fresh = later.fresh;
  full = full_on (full_in st) (full_in st2) (full_in st3) first.full later.full;
  others = later.others;
}

-- what a core knows of a client it knows after a step of its own
pub knows_on : (b : BookView) (l : LineView) (st st2 : StageView) (c : CoreView) → Own b l st b l st2 → Knows b st c → Knows b st2 c
knows_on b l st st2 c own knows = record {
  known = λ m here. let t = own.tokens (sees m) in let k = knows.known m here in omega (arith, t, k);
  own = knows.own;
}

-- ---- a flight

ended_one : (n : ℕ) (ns : List ℕ) (t m : ℕ) → slice_get ns t ≡ Some m → m ≡ n → ◌≡◌ {A = ℕ} (if is_client n (slice_get ns t) then 1 else 0) 1
ended_one n ns t m at mine = ap (λ (q : Bool). if q then 1 else 0) (ap (is_client n) (at ∙ ap Some mine) ∙ eq_self n)

rose_one : (before g after : ℕ) → g ≡ 1 → Rose before after → RoseBy before g after
rose_one before g after one rose = grind (arith, one, rose)

-- one call at most
called : (calls calls2 : ℕ) → (calls2 ≡ calls) ⊎ (calls2 ≡ add_count calls 1) → calls2 < last_count → (calls < last_count) × (calls ≤ calls2) × (calls2 ≤ calls + 1)
called calls calls2 (inl e) low = (omega (arith, e, low), omega (arith, e), omega (arith, e))
called calls calls2 (inr e) low = let n = counted calls 1 calls2 e low in (omega (arith, n, low), omega (arith, n), omega (arith, n))

pub landed_step : (b : BookView) (l l2 : LineView) (op op2 : OpView) (ticket back job : Mark) (twin : BlockView) (c c2 : CoreView) → Brings l ticket back twin l2 → Lands c back job c2 → op2 ≡ record op { given = Nothing } →
    op.reading.instance ≡ c.instance → ticket.client ≡ b.number → settled c2 job ≡ 0 → Step b l (Running op ticket) c b l2 (Landed op2 job) c2
landed_step b l l2 op op2 ticket back job twin c c2 brings lands same here mine unsettled =
    let g : Tally = gain b.number (owners c.entries) (e.Landed back.number) in
    let whose : back.client ≡ b.number = ap (λ (m : Mark). m.client) brings.back_is ∙ mine in
    let one : g.landed ≡ 1 = ended_one b.number (owners c.entries) back.number back.client lands.owner_is whose in
    let leaves = ap (λ (v : OpView). v.leaves) same in
    read_step b l l2 (Running op ticket) (Landed op2 job) op op2 c c2 g (record { asks = refl; fails = refl; shares_are = λ i. refl }) (record { asks = refl; fails = refl; shares_are = λ i. refl })
    (record { reading = ap (λ (v : OpView). v.reading) same; hits = ap (λ (v : OpView). v.hits) same; waits = ap (λ (v : OpView). v.waits) same; directs = let d = ap (λ (v : OpView). v.directs) same in omega (arith, d); failed = let d = ap (λ (v : OpView). v.failed) same in omega (arith, d) })
    (record { opened = refl; served = refl; hit = refl; missed = refl; bypassed = refl }) here brings.number (still_home c c2 (e.Landed back.number) c2.out lands.enters)
    (λ w. let s = lands.swaps w in let k = ap w brings.back_is in let h = ap (held w) same in omega (arith, s, k, h))
    (gained_one b.number c.entries c2.entries (e.Landed back.number) (ap (λ (v : CoreView). v.entries) lands.enters) (lands.owner_is ∙ ap Some whose))
    (λ t. made l l2 (Running op ticket) (Landed op2 job) t (together t g) 0 1 brings.calls (omega (arith, one, leaves)) (omega arith)) brings.faults (inl (omega (arith, brings.faults)))
    (plain_one c.entries c2.entries (e.Landed back.number) (ap (λ (v : CoreView). v.entries) lands.enters) refl)
    (let s = lands.swaps (settled c2) in omega (arith, s, unsettled)) tt

pub failed_step : (b : BookView) (l l2 : LineView) (op op2 : OpView) (ticket back : Mark) (c c2 : CoreView) → line.Fails l ticket back l2 → Fails c back fell.Fault c2 →
    op2 ≡ record op { failed = op.failed + 1; met = first_met op.met fell.Fault; given = Nothing } → op.reading.instance ≡ c.instance → ticket.client ≡ b.number → Step b l (Running op ticket) c b l2 (Reading op2) c2
failed_step b l l2 op op2 ticket back c c2 fault fails same here mine =
    let g : Tally = gain b.number (owners c.entries) (e.Failed back.number fell.Fault) in
    let whose : back.client ≡ b.number = ap (λ (m : Mark). m.client) fault.back_is ∙ mine in
    let one : g.faults ≡ 1 = ended_one b.number (owners c.entries) back.number back.client fails.owner_is whose in
    let leaves = ap (λ (v : OpView). v.leaves) same in
    read_step b l l2 (Running op ticket) (Reading op2) op op2 c c2 g (record { asks = refl; fails = refl; shares_are = λ i. refl }) (record { asks = refl; fails = refl; shares_are = λ i. refl })
    (record { reading = ap (λ (v : OpView). v.reading) same; hits = ap (λ (v : OpView). v.hits) same; waits = ap (λ (v : OpView). v.waits) same; directs = let d = ap (λ (v : OpView). v.directs) same in omega (arith, d); failed = let d = ap (λ (v : OpView). v.failed) same in omega (arith, d, one) })
    (record { opened = refl; served = refl; hit = refl; missed = refl; bypassed = refl }) here fault.number (still_home c c2 (e.Failed back.number fell.Fault) c2.out fails.enters)
    (λ w. let s = fails.loses w in let k = ap w fault.back_is in let h = ap (held w) same in omega (arith, s, k, h))
    (gained_one b.number c.entries c2.entries (e.Failed back.number fell.Fault) (ap (λ (v : CoreView). v.entries) fails.enters) (fails.owner_is ∙ ap Some whose))
    (λ t. made l l2 (Running op ticket) (Reading op2) t (together t g) 0 1 fault.calls (omega (arith, one, leaves)) (omega arith)) fault.faults (rose_one l.faults g.faults l2.faults one fault.rose)
    (plain_one c.entries c2.entries (e.Failed back.number fell.Fault) (ap (λ (v : CoreView). v.entries) fails.enters) refl)
    (fresh_lost c c2 back fails.loses) tt

pub wanted_step : (b : BookView) (l l2 : LineView) (op op2 : OpView) (ticket back : Mark) (c c2 : CoreView) → Wants l ticket back l2 → Fails c back fell.Memory c2 →
    op2 ≡ record op { failed = op.failed + 1; met = first_met op.met fell.Memory; given = Nothing } → op.reading.instance ≡ c.instance → ticket.client ≡ b.number → Step b l (Running op ticket) c b l2 (Reading op2) c2
wanted_step b l l2 op op2 ticket back c c2 wants fails same here mine =
    let g : Tally = gain b.number (owners c.entries) (e.Failed back.number fell.Memory) in
    let whose : back.client ≡ b.number = ap (λ (m : Mark). m.client) wants.back_is ∙ mine in
    let one : g.wants ≡ 1 = ended_one b.number (owners c.entries) back.number back.client fails.owner_is whose in
    let leaves = ap (λ (v : OpView). v.leaves) same in
    read_step b l l2 (Running op ticket) (Reading op2) op op2 c c2 g (record { asks = refl; fails = refl; shares_are = λ i. refl }) (record { asks = refl; fails = refl; shares_are = λ i. refl })
    (record { reading = ap (λ (v : OpView). v.reading) same; hits = ap (λ (v : OpView). v.hits) same; waits = ap (λ (v : OpView). v.waits) same; directs = let d = ap (λ (v : OpView). v.directs) same in omega (arith, d); failed = let d = ap (λ (v : OpView). v.failed) same in omega (arith, d, one) })
    (record { opened = refl; served = refl; hit = refl; missed = refl; bypassed = refl }) here wants.number (still_home c c2 (e.Failed back.number fell.Memory) c2.out fails.enters)
    (λ w. let s = fails.loses w in let k = ap w wants.back_is in let h = ap (held w) same in omega (arith, s, k, h))
    (gained_one b.number c.entries c2.entries (e.Failed back.number fell.Memory) (ap (λ (v : CoreView). v.entries) fails.enters) (fails.owner_is ∙ ap Some whose))
    (λ t. record {
      before = λ low. (called l.calls l2.calls wants.calls low).0;
      least = λ low. let n = called l.calls l2.calls wants.calls low in omega (arith, n.1, leaves);
      most = λ low. let n = called l.calls l2.calls wants.calls low in omega (arith, n.2, leaves, one);
    }) wants.faults (inl (omega (arith, wants.faults)))
    (plain_one c.entries c2.entries (e.Failed back.number fell.Memory) (ap (λ (v : CoreView). v.entries) fails.enters) refl)
    (fresh_lost c c2 back fails.loses) tt

-- ---- a look

-- the block of another client's flight didn't come, and a leave is entered in the place of the pin
pub lost_step : (b : BookView) (l : LineView) (op op2 : OpView) (pin : Mark) (part : Part) (c c2 : CoreView) → LeavesFor c pin part (leave_of pin part) c2 → Owes op op2 →
    op.reading.instance ≡ c.instance → pin.client ≡ b.number → Step b l (Looking op pin part) c b l (Reading op2) c2
lost_step b l op op2 pin part c c2 leaves owes here mine =
    let x : Entry = e.Direct pin.block pin.client (way.Lost pin.flight) in
    let g : Tally = gain b.number (owners c.entries) x in
    let one : g.directs ≡ 1 = ap {B = ℕ} (λ (n : ℕ). if n == b.number then 1 else 0) mine ∙ ap (λ (q : Bool). if q then 1 else 0) (eq_self b.number) in
    let more = ap (λ (v : OpView). v.leaves) owes.rest in
    read_step b l l (Looking op pin part) (Reading op2) op op2 c c2 g (record { asks = refl; fails = refl; shares_are = λ i. refl }) (record { asks = refl; fails = refl; shares_are = λ i. refl })
    (record { reading = ap (λ (v : OpView). v.reading) owes.rest; hits = ap (λ (v : OpView). v.hits) owes.rest; waits = ap (λ (v : OpView). v.waits) owes.rest; directs = let d = ap (λ (v : OpView). v.directs) owes.rest in omega (arith, d, one); failed = let d = ap (λ (v : OpView). v.failed) owes.rest in omega (arith, d) })
    (record { opened = refl; served = refl; hit = refl; missed = refl; bypassed = refl }) here refl (still_home c c2 x c2.out leaves.enters)
    (λ w. let s = leaves.loses w in let h = ap (held w) owes.rest in omega (arith, s, h))
    (gained_one b.number c.entries c2.entries x (ap (λ (v : CoreView). v.entries) leaves.enters) (ap Some mine))
    (λ t. made l l (Looking op pin part) (Reading op2) t (together t g) 0 0 (omega arith) (omega (arith, one, more)) (omega arith)) (omega arith) (inl (omega arith))
    (plain_one c.entries c2.entries x (ap (λ (v : CoreView). v.entries) leaves.enters) refl)
    (fresh_lost c c2 pin leaves.loses) tt

-- the pin goes back, and the core is as it was
pub looked_step : (b : BookView) (l : LineView) (op op2 : OpView) (pin : Mark) (part : Part) (looks : ℕ) (met : Option Fell) (c c2 : CoreView) → c2 ≡ c → ((w : Mark → ℕ) → sum_by w op2.pins ≡ sum_by w op.pins + w pin) →
    op2 ≡ record op { pins = op2.pins; looks = looks; met = met; given = Nothing } → Step b l (Looking op pin part) c b l (Reading op2) c2
looked_step b l op op2 pin part looks met c c2 same gains rest =
    own_step b b l l (Looking op pin part) (Reading op2) c c2
    (op_own b l (Looking op pin part) (Reading op2) op op2 (record { asks = refl; fails = refl; shares_are = λ i. refl }) (record { asks = refl; fails = refl; shares_are = λ i. refl })
    (record { reading = ap (λ (v : OpView). v.reading) rest; hits = ap (λ (v : OpView). v.hits) rest; waits = ap (λ (v : OpView). v.waits) rest; directs = let d = ap (λ (v : OpView). v.directs) rest in omega (arith, d); failed = let d = ap (λ (v : OpView). v.failed) rest in omega (arith, d) })
    (ap (λ (v : OpView). v.failed) rest) (ap (λ (v : OpView). v.leaves) rest)
    (λ w. let n = gains w in let h = ap (held w) rest in omega (arith, n, h)) tt)
    same

-- ---- a part on disk

-- the block couldn't be read from disk, and a leave is entered in the place of the token
pub broken_step : (b : BookView) (l : LineView) (op op2 : OpView) (disk : Mark) (part : Part) (c c2 : CoreView) → GoesBroken c disk c2 → Owes op op2 →
    op.reading.instance ≡ c.instance → disk.client ≡ b.number → Step b l (Broken op disk part) c b l (Reading op2) c2
broken_step b l op op2 disk part c c2 leaves owes here mine =
    let x : Entry = e.Direct disk.block disk.client way.Device in
    let g : Tally = gain b.number (owners c.entries) x in
    let one : g.directs ≡ 1 = ap {B = ℕ} (λ (n : ℕ). if n == b.number then 1 else 0) mine ∙ ap (λ (q : Bool). if q then 1 else 0) (eq_self b.number) in
    let more = ap (λ (v : OpView). v.leaves) owes.rest in
    read_step b l l (Broken op disk part) (Reading op2) op op2 c c2 g (record { asks = refl; fails = refl; shares_are = λ i. refl }) (record { asks = refl; fails = refl; shares_are = λ i. refl })
    (record { reading = ap (λ (v : OpView). v.reading) owes.rest; hits = ap (λ (v : OpView). v.hits) owes.rest; waits = ap (λ (v : OpView). v.waits) owes.rest; directs = let d = ap (λ (v : OpView). v.directs) owes.rest in omega (arith, d, one); failed = let d = ap (λ (v : OpView). v.failed) owes.rest in omega (arith, d) })
    (record { opened = refl; served = refl; hit = refl; missed = refl; bypassed = refl }) here refl (still_home c c2 x c2.out leaves.enters)
    (λ w. let s = leaves.loses w in let h = ap (held w) owes.rest in omega (arith, s, h))
    (gained_one b.number c.entries c2.entries x (ap (λ (v : CoreView). v.entries) leaves.enters) (ap Some mine))
    (λ t. made l l (Broken op disk part) (Reading op2) t (together t g) 0 0 (omega arith) (omega (arith, one, more)) (omega arith)) (omega arith) (inl (omega arith))
    (plain_one c.entries c2.entries x (ap (λ (v : CoreView). v.entries) leaves.enters) refl)
    (fresh_lost c c2 disk leaves.loses) tt

-- the part couldn't be read
pub refused_own : (b : BookView) (l : LineView) (op op2 : OpView) (disk : Mark) (part : Part) → op2 ≡ op → Own b l (Borrowing op disk part) b l (Refused op2 disk part)
refused_own b l op op2 disk part same = rw same (op_own b l (Borrowing op disk part) (Refused op disk part) op op (record { asks = refl; fails = refl; shares_are = λ i. refl }) (record { asks = refl; fails = refl; shares_are = λ i. refl })
    (record { reading = refl; hits = refl; waits = refl; directs = omega arith; failed = omega arith }) refl refl (λ w. refl) tt)

-- the part was read into the reply
pub loaded_own : (b : BookView) (l : LineView) (op op2 : OpView) (disk : Mark) (part : Part) → op2 ≡ record op { given = Nothing } → Own b l (Borrowing op disk part) b l (Loaded op2 disk)
loaded_own b l op op2 disk part same =
    op_own b l (Borrowing op disk part) (Loaded op2 disk) op op2 (record { asks = refl; fails = refl; shares_are = λ i. refl }) (record { asks = refl; fails = refl; shares_are = λ i. refl })
    (record { reading = ap (λ (v : OpView). v.reading) same; hits = ap (λ (v : OpView). v.hits) same; waits = ap (λ (v : OpView). v.waits) same; directs = let d = ap (λ (v : OpView). v.directs) same in omega (arith, d); failed = let d = ap (λ (v : OpView). v.failed) same in omega (arith, d) })
    (ap (λ (v : OpView). v.failed) same) (ap (λ (v : OpView). v.leaves) same)
    (λ w. let h = ap (held w) same in omega (arith, h)) tt

-- the right to read goes back
pub returned_step : (b : BookView) (l : LineView) (op : OpView) (disk : Mark) (c c2 : CoreView) → EndsDisk c disk c2 → op.reading.instance ≡ c.instance → Step b l (Loaded op disk) c b l (Reading op) c2
returned_step b l op disk c c2 ends here =
    let same : c2.entries ≡ c.entries = ap (λ (v : CoreView). v.entries) ends.rest in
    read_step b l l (Loaded op disk) (Reading op) op op c c2 nothing (record { asks = refl; fails = refl; shares_are = λ i. refl }) (record { asks = refl; fails = refl; shares_are = λ i. refl })
    (record { reading = refl; hits = refl; waits = refl; directs = omega arith; failed = omega arith })
    (record { opened = refl; served = refl; hit = refl; missed = refl; bypassed = refl }) here refl
    (subst (λ (es : List Entry). c2 ≡ record c { entries = es; out = c2.out }) (sym same) ends.rest)
    (λ w. let s = ends.loses w in omega (arith, s))
    (gained_same b.number c.entries c2.entries same)
    (λ t. made l l (Loaded op disk) (Reading op) t (together t nothing) 0 0 (omega arith) (omega arith) (omega arith)) (omega arith) (inl (omega arith))
    (plain_same c.entries c2.entries same)
    (fresh_lost c c2 disk ends.loses) tt

-- ---- the next action

pub run_next : (b : BookView) (l : LineView) (op op2 : OpView) (ticket : Mark) → GivesTicket op ticket op2 → Own b l (Reading op) b l (Running op2 ticket)
run_next b l op op2 ticket gives =
    op_own b l (Reading op) (Running op2 ticket) op op2 (record { asks = refl; fails = refl; shares_are = λ i. refl }) (record { asks = refl; fails = refl; shares_are = λ i. refl })
    (record { reading = ap (λ (v : OpView). v.reading) gives.rest; hits = ap (λ (v : OpView). v.hits) gives.rest; waits = ap (λ (v : OpView). v.waits) gives.rest; directs = let d = ap (λ (v : OpView). v.directs) gives.rest in omega (arith, d); failed = let d = ap (λ (v : OpView). v.failed) gives.rest in omega (arith, d) })
    (ap (λ (v : OpView). v.failed) gives.rest) (ap (λ (v : OpView). v.leaves) gives.rest)
    (λ w. let n = gives.loses w in let h = ap (held w) gives.rest in omega (arith, n, h)) tt

pub direct_next : (b : BookView) (l : LineView) (op op2 : OpView) (leave : LeaveView) → GivesLeave op leave op2 → Own b l (Reading op) b l (Directing op2 leave)
direct_next b l op op2 leave gives =
    op_own b l (Reading op) (Directing op2 leave) op op2 (record { asks = refl; fails = refl; shares_are = λ i. refl }) (record { asks = refl; fails = refl; shares_are = λ i. refl })
    (record { reading = ap (λ (v : OpView). v.reading) gives.rest; hits = ap (λ (v : OpView). v.hits) gives.rest; waits = ap (λ (v : OpView). v.waits) gives.rest; directs = let d = ap (λ (v : OpView). v.directs) gives.rest in omega (arith, d); failed = let d = ap (λ (v : OpView). v.failed) gives.rest in omega (arith, d) })
    (ap (λ (v : OpView). v.failed) gives.rest) (sym gives.one)
    (λ w. let h = ap (held w) gives.rest in omega (arith, h)) tt

pub look_next : (b : BookView) (l : LineView) (op op2 : OpView) (pin : Mark) (part : Part) → GivesPin op pin part op2 → Own b l (Reading op) b l (Looking op2 pin part)
look_next b l op op2 pin part gives =
    op_own b l (Reading op) (Looking op2 pin part) op op2 (record { asks = refl; fails = refl; shares_are = λ i. refl }) (record { asks = refl; fails = refl; shares_are = λ i. refl })
    (record { reading = ap (λ (v : OpView). v.reading) gives.rest; hits = ap (λ (v : OpView). v.hits) gives.rest; waits = ap (λ (v : OpView). v.waits) gives.rest; directs = let d = ap (λ (v : OpView). v.directs) gives.rest in omega (arith, d); failed = let d = ap (λ (v : OpView). v.failed) gives.rest in omega (arith, d) })
    (ap (λ (v : OpView). v.failed) gives.rest) (ap (λ (v : OpView). v.leaves) gives.rest)
    (λ w. let n = gives.loses w in let h = ap (held w) gives.rest in omega (arith, n, h)) tt

pub load_next : (b : BookView) (l : LineView) (op op2 : OpView) (disk : Mark) (part : Part) → GivesDisk op disk part op2 → Own b l (Reading op) b l (Loading op2 disk part)
load_next b l op op2 disk part gives =
    op_own b l (Reading op) (Loading op2 disk part) op op2 (record { asks = refl; fails = refl; shares_are = λ i. refl }) (record { asks = refl; fails = refl; shares_are = λ i. refl })
    (record { reading = ap (λ (v : OpView). v.reading) gives.rest; hits = ap (λ (v : OpView). v.hits) gives.rest; waits = ap (λ (v : OpView). v.waits) gives.rest; directs = let d = ap (λ (v : OpView). v.directs) gives.rest in omega (arith, d); failed = let d = ap (λ (v : OpView). v.failed) gives.rest in omega (arith, d) })
    (ap (λ (v : OpView). v.failed) gives.rest) (ap (λ (v : OpView). v.leaves) gives.rest)
    (λ w. let n = gives.loses w in let h = ap (held w) gives.rest in omega (arith, n, h)) tt

pub end_next : (b : BookView) (l : LineView) (op op2 : OpView) → GivesEnd op op2 → Own b l (Reading op) b l (Ending op2)
end_next b l op op2 gives =
    op_own b l (Reading op) (Ending op2) op op2 (record { asks = refl; fails = refl; shares_are = λ i. refl }) (record { asks = refl; fails = refl; shares_are = λ i. refl })
    (record { reading = ap (λ (v : OpView). v.reading) gives.rest; hits = ap (λ (v : OpView). v.hits) gives.rest; waits = ap (λ (v : OpView). v.waits) gives.rest; directs = let d = ap (λ (v : OpView). v.directs) gives.rest in omega (arith, d); failed = let d = ap (λ (v : OpView). v.failed) gives.rest in omega (arith, d) })
    (ap (λ (v : OpView). v.failed) gives.rest) (ap (λ (v : OpView). v.leaves) gives.rest)
    (λ w. let h = ap (held w) gives.rest in omega (arith, h)) tt

-- ---- a plan

pub none_more : (n : ℕ) → n + 0 ≡ n
none_more n = omega arith

asked_more : (t : Tally) (hits waits directs : ℕ) → with_asked t hits waits directs ≡ together t (record nothing { hits = hits; waits = waits; directs = directs })
asked_more t hits waits directs =
    rw (none_more t.opened, none_more t.served, none_more t.hit, none_more t.missed, none_more t.bypassed, none_more t.landed, none_more t.faults, none_more t.wants) refl

pub planned_step : (b : BookView) (l : LineView) (number n : ℕ) (pieces : Pieces) (op : OpView) (c c2 : CoreView) → Plans c n pieces op c2 → n ≡ b.number → Step b l (Planning number pieces) c b l (Reading op) c2
planned_step b l number n pieces op c c2 plans mine =
    let g : Tally = record nothing { hits = op.hits; waits = op.waits; directs = op.directs } in
    step_on b b l l (Planning number pieces) (Reading op) c c2 g refl refl refl (still c c2 c.access plans.unchanged)
    (λ w. let s = plans.gains w in omega (arith, s))
    (record {
      mine = subst (λ (m : ℕ). tally m c2.entries ≡ together (tally m c.entries) g) mine (plans.mine ∙ asked_more (tally n c.entries) op.hits op.waits op.directs);
      others = λ m other. plans.others m (eq_sym m n (ap (λ (k : ℕ). m == k) mine ∙ other));
    })
    (λ t old. quiet b b l l (Planning number pieces) (Reading op) t (together t g) refl refl (omega arith) (omega arith) (omega arith)
    (made l l (Planning number pieces) (Reading op) t (together t g) 0 0 (omega arith) (omega (arith, plans.leaves_is)) (omega arith)) (rise t.faults 0 l.faults l.faults old.faults (omega arith) (inl (omega arith))) (omega (arith, plans.failed_is)) old)
    (rw (shares_here c.instance op plans.begins.reads.instance_is) (record {
      hit = omega arith;
      missed = omega arith;
      bypassed = omega arith;
    }))
    (λ i other. rw (shares_there i op (ap (λ (k : ℕ). k == i) plans.begins.reads.instance_is ∙ eq_sym i c.instance other)) (shrinks_same no_shares))
    (quiet_plainly c.entries c2.entries (quiet_plans c c2 n pieces op plans))
    (fresh_plans c c2 n pieces op plans) tt

-- ---- an end

-- what the log gained tells of this reply to a read
pub record EndsWith (reply : Reply) (g : Tally) : Type 0 where
  pub size : is_size reply ≡ false
  pub opened : g.opened ≡ 0
  pub served : g.served ≡ (if is_data reply then 1 else 0)
  pub read : g.hit + g.missed + g.bypassed ≡ bytes_in reply
  pub landed : g.landed ≡ 0
  pub faults : g.faults ≡ 0
  pub wants : g.wants ≡ 0
  pub directs : g.directs ≡ 0

answers_end : (reply : Reply) (t g : Tally) → EndsWith reply g → Answers reply t (together t g)
answers_end reply t g with = record {
  opened = let z = ap (λ (q : Bool). t.opened + (if q then 1 else 0)) with.size in omega (arith, z, with.opened);
  served = omega (arith, with.served);
  read = omega (arith, with.read);
}

-- the read is answered
pub ended_step : (b b2 : BookView) (l : LineView) (op : OpView) (c c2 : CoreView) (g : Tally) (number : ℕ) (reply : Reply) → IsNext b (Ok (q.Read number op.pieces)) → b2 ≡ record b { replies = b.replies ++ reply ∷ [] } →
    op.reading.instance ≡ c.instance → op.leaves ≡ 0 → c2 ≡ record c { entries = c2.entries; out = c2.out; access = c2.access } → ((w : Mark → ℕ) → sum_by w c2.out + held w op ≡ sum_by w c.out) → Gained b.number c.entries c2.entries g →
    EndsWith reply g → op.failed ≤ lost_at (Ok (q.Read number op.pieces)) reply → HasRoom (op_shares c.instance op) no_shares c.block_size g → GrowsPlainly c.entries c2.entries → Step b l (Ending op) c b2 l Rest c2
ended_step b b2 l op c c2 g number reply next answered here none home spends gained with fails room grows =
    step_on b b2 l l (Ending op) Rest c c2 g (ap (λ (v : BookView). v.number) answered) refl (ap (λ (v : BookView). v.asked) answered) home
    (λ w. let s = spends w in let o = ap (λ (v : BookView). open_weight w v.stays) answered in omega (arith, s, o))
    gained
    (λ t old. told b b2 l l (Ending op) Rest t (together t g) (Ok (q.Read number op.pieces)) reply (ap (λ (v : BookView). v.asked) answered) (ap (λ (v : BookView). v.replies) answered) next (answers_end reply t g with)
    (made l l (Ending op) Rest t (together t g) 0 0 (omega arith) (omega (arith, none, with.landed, with.faults, with.directs)) (omega (arith, with.wants)))
    (rise t.faults g.faults l.faults l.faults old.faults (omega arith) (inl (omega (arith, with.faults)))) (omega (arith, with.faults, with.wants, fails)) old)
    room
    (λ i other. rw (shares_there i op (ap (λ (k : ℕ). k == i) here ∙ eq_sym i c.instance other)) (shrinks_same no_shares))
    grows
    (let s = spends (settled c2) in omega (arith, s)) tt

-- ---- a block that is dropped

two_entries : (es : List Entry) (x y : Entry) → es ++ x ∷ [] ++ y ∷ [] ≡ (es ++ x ∷ []) ++ y ∷ []
two_entries es x y = refl

dropped_or_left : (m i : ℕ) (why : DropCause) (es es2 : List Entry) (alone : Bool) → es2 ≡ (if alone then es ++ e.Dropped i why ∷ [] ++ e.Left i ∷ [] else es ++ e.Dropped i why ∷ []) → tally m es2 ≡ tally m es
dropped_or_left m i why es es2 true is =
    ap (tally m) (is ∙ two_entries es (e.Dropped i why) (e.Left i)) ∙ tally_same m (es ++ e.Dropped i why ∷ []) (e.Left i) refl ∙ tally_same m es (e.Dropped i why) refl
dropped_or_left m i why es es2 false is = ap (tally m) is ∙ tally_same m es (e.Dropped i why) refl

pub dropped_step : (b : BookView) (l : LineView) (op : OpView) (job : Mark) (capacity : ℕ) (c c2 : CoreView) → Drops c job (cause.Full capacity) c2 → op.reading.instance ≡ c.instance → Step b l (Full op job capacity) c b l (Reading op) c2
dropped_step b l op job capacity c c2 drops here =
    let same = λ (m : ℕ). dropped_or_left m job.block (cause.Full capacity) c.entries c2.entries (0 == pins_on job.block job.flight c.out) (ap (λ (v : CoreView). v.entries) drops.enters) in
    read_step b l l (Full op job capacity) (Reading op) op op c c2 nothing (record { asks = refl; fails = refl; shares_are = λ i. refl }) (record { asks = refl; fails = refl; shares_are = λ i. refl })
    (record { reading = refl; hits = refl; waits = refl; directs = omega arith; failed = omega arith })
    (record { opened = refl; served = refl; hit = refl; missed = refl; bypassed = refl }) here refl
    (subst (λ (v : CoreView). v ≡ record c { entries = v.entries; out = v.out }) (sym drops.enters) refl)
    (λ w. let s = drops.loses w in omega (arith, s))
    (record { mine = same b.number ∙ sym (nothing_more (tally b.number c.entries)); others = λ m other. same m })
    (λ t. made l l (Full op job capacity) (Reading op) t (together t nothing) 0 0 (omega arith) (omega arith) (omega arith)) (omega arith) (inl (omega arith))
    (inr drops)
    (fresh_lost c c2 job drops.loses) tt

-- ---- a block that is put to the queue

-- each job in the queue is one
length_push : (jobs : List Mark) (job : Mark) → length (jobs ++ job ∷ []) ≡ length jobs + 1
length_push [] job = refl
length_push (x ∷ jobs) job = omega (arith, length_push jobs job)

one_job : (job : Mark) → job.kind ≡ JobKind → a_job job ≡ 1
one_job job is = ap {B = ℕ} (λ (k : Kind). if kind_code k == kind_code JobKind then 1 else 0) is

-- the queue had no room
pub full_puts : (b : BookView) (l : LineView) (op : OpView) (job : Mark) (q q2 : QueueView) → q2 ≡ q → job.kind ≡ JobKind → q.capacity ≤ length q.jobs → Puts b l (Landed op job) q b l (Full op job q2.capacity) q2
full_puts b l op job q q2 same is many = rw same (record {
  number = refl;
  link = refl;
  asked = refl;
  tokens = λ w. refl;
  capacity = refl;
  tallied = λ t old. record { opened = old.opened; served = old.served; read = old.read; least = old.least; most = old.most; faults = old.faults; failed = old.failed };
  elsewhere = λ i. shrinks_same (op_shares i op);
  jobs = λ old. old;
  more = omega arith;
  full = inr (record { job = is; capacity_is = refl; many = many; same = refl });
})

-- the queue took the job
pub queued_puts : (b : BookView) (l : LineView) (op : OpView) (job : Mark) (q q2 : QueueView) → q2 ≡ record q { jobs = q.jobs ++ job ∷ [] } → job.kind ≡ JobKind → Puts b l (Landed op job) q b l (Reading op) q2
queued_puts b l op job q q2 same is = rw same (record {
  number = refl;
  link = refl;
  asked = refl;
  tokens = λ w. let s = sum_by_push w q.jobs job in omega (arith, s);
  capacity = refl;
  tallied = λ t old. record { opened = old.opened; served = old.served; read = old.read; least = old.least; most = old.most; faults = old.faults; failed = old.failed };
  elsewhere = λ i. shrinks_same (op_shares i op);
  jobs = λ old. let s = sum_by_push a_job q.jobs job in let n = length_push q.jobs job in let k = one_job job is in omega (arith, s, n, k, old);
  more = let n = length_push q.jobs job in omega (arith, n);
  full = tt;
})
