-- What the calls of a client give out: no job, but where a flight lands, and that is of a block that is neither written nor dropped.
use Rattle.std.proofs.Common.{◌≡◌, ℕ, ◌≤◌, List, [], ◌∷◌, ◌++◌, length, refl, sym, ap, ◌∙◌, subst, arith, Bool, true, false}
use Rattle.std.specs.Prelude.{◌==◌, ◌&&◌, not, if◌then◌else◌, sum_by}
use Rattle.std.proofs.lemmas.Bool.{eqb-true}
use Rattle.pfc_base.specs.declared.block.Part.{Part}
use Rattle.pfc_span.specs.declared.pieces.Pieces.{Pieces}
use Rattle.pfc_log.specs.declared.entry.Entry.{Entry}
use Rattle.pfc_log.specs.declared.entry.Entry.TheVariants as e
use Rattle.pfc_log.specs.declared.start.Start.{Start}
use Rattle.pfc_log.specs.Lawful.{Lawful}
use Rattle.pfc_log.specs.Positions.{IsDoneSince, is_done}
use Rattle.pfc_log.specs.Views.{Place, Away, Flying, Here, place}
use Rattle.pfc_log.proofs.Places.{by_bool, eq_self, none_last, stands_new}
use Rattle.pfc_log.proofs.Residents.{in_since}
use Rattle.pfc_log.proofs.Tickets.{end_once}
use Rattle.pfc_core.specs.declared.token.Decision.{Decision}
use Rattle.pfc_core.specs.declared.token.Decision.TheVariants as decision
use Rattle.pfc_core.specs.Calls.{Attaches, Decides, Lands}
use Rattle.pfc_core.specs.Leaves.{is_done_at}
use Rattle.pfc_core.specs.Marks.{Kind, Mark, JobKind, TicketKind, Gains, Loses, kind_code}
use Rattle.pfc_core.specs.OpenJobs.{is_job_mark, settled}
use Rattle.pfc_core.specs.View.{CoreView}
use Rattle.pfc_read.specs.OpView.{OpView, Nothing}
use Rattle.pfc_read.specs.Plans.{DecidesAll, Plans}
use Rattle.pfc_read.specs.Steps.{GivesTicket, IsTokenOf}
use Rattle.pfc_actor.specs.Books.{BookView}
use Rattle.pfc_actor.specs.StageView as st
use Rattle.pfc_actor.specs.Stages.{AtWork, GoesOn, Reads, misnumbered}

-- no job, and no ticket whose number isn't its flight's
record IsPlain (m : Mark) : Type 0 where
  no_job : is_job_mark m ≡ false
  numbered : misnumbered m ≡ 0

-- such marks weigh nothing
abbrev IsLight : (Mark → ℕ) → Type 0
IsLight w = (m : Mark) → IsPlain m → w m ≡ 0

-- only such marks are given out
abbrev GivesNoJob : CoreView → CoreView → Type 0
GivesNoJob c c2 = (w : Mark → ℕ) → IsLight w → sum_by w c2.out ≤ sum_by w c.out

settled_light : (v : CoreView) → IsLight (settled v)
settled_light v m plain = ap {B = ℕ} (λ (q : Bool). if q && is_done_at m.flight (place m.block v.entries) then 1 else 0) plain.no_job

plain_of : (k : Kind) (m : Mark) → m.kind ≡ k → (kind_code k == kind_code JobKind) ≡ false → (kind_code k == kind_code TicketKind) ≡ false → IsPlain m
plain_of k m is job ticket = record {
  no_job = ap (λ (x : Kind). kind_code x == kind_code JobKind) is ∙ job;
  numbered = ap {B = ℕ} (λ (x : Kind). if kind_code x == kind_code TicketKind && not (m.flight == m.number) then 1 else 0) is ∙ ap {B = ℕ} (λ (q : Bool). if q && not (m.flight == m.number) then 1 else 0) ticket;
}

plain_ticket : (m : Mark) → m.kind ≡ TicketKind → m.flight ≡ m.number → IsPlain m
plain_ticket m is flight = record {
  no_job = ap (λ (x : Kind). kind_code x == kind_code JobKind) is;
  numbered = ap {B = ℕ} (λ (x : Kind). if kind_code x == kind_code TicketKind && not (m.flight == m.number) then 1 else 0) is ∙ ap {B = ℕ} (λ (q : Bool). if not q then 1 else 0) (ap (λ (n : ℕ). n == m.number) flight ∙ eq_self m.number);
}

gives_same : (c c2 : CoreView) → c2.out ≡ c.out → GivesNoJob c c2
gives_same c c2 same w light = let s = ap (sum_by w) same in omega (arith, s)

gives_gained : (c c2 : CoreView) (m : Mark) → Gains c.out m c2.out → IsPlain m → GivesNoJob c c2
gives_gained c c2 m gains plain w light = let g = gains w in let z = light m plain in omega (arith, g, z)

gives_on : (c mid c2 : CoreView) → GivesNoJob c mid → GivesNoJob mid c2 → GivesNoJob c c2
gives_on c mid c2 first later w light = let f = first w light in let l = later w light in omega (arith, f, l)

-- ---- a token that is gained or lost

pub fresh_attached : (c c2 : CoreView) (n now : ℕ) (stay : Mark) → Attaches c n now stay c2 → sum_by (settled c2) c2.out ≤ sum_by (settled c2) c.out
fresh_attached c c2 n now stay attaches = gives_gained c c2 stay attaches.gains (plain_of _ stay attaches.stays.kind_is refl refl) (settled c2) (settled_light c2)

pub fresh_lost : (c c2 : CoreView) (m : Mark) → Loses c.out m c2.out → sum_by (settled c2) c2.out ≤ sum_by (settled c2) c.out
fresh_lost c c2 m loses = let l = loses (settled c2) in omega (arith, l)

-- ---- a plan

gives_decides : (c c2 : CoreView) (n : ℕ) (part : Part) (d : Decision (Unit {0})) → Decides c n part d c2 → GivesNoJob c c2
gives_decides c c2 n part (decision.Direct leave) is = gives_same c c2 (ap (λ (v : CoreView). v.out) is.enters)
gives_decides c c2 n part (decision.Resident pin) is = gives_gained c c2 pin is.2.gains (plain_of _ pin is.2.pins.kind_is refl refl)
gives_decides c c2 n part (decision.Joined pin) is = gives_gained c c2 pin is.2.gains (plain_of _ pin is.2.pins.kind_is refl refl)
gives_decides c c2 n part (decision.Stored disk) is = gives_gained c c2 disk is.gains (plain_of _ disk is.found.kind_is refl refl)
gives_decides c c2 n part (decision.Fetch ticket pin) is = λ w light.
    let g = is.gains w in let z = light ticket (plain_ticket ticket is.fetches.kind_is is.ticket_flight) in let y = light pin (plain_of _ pin is.pins.kind_is refl refl) in omega (arith, g, z, y)

decides_all : (c c2 : CoreView) (n : ℕ) (parts : List Part) → DecidesAll c n parts c2 → GivesNoJob c c2
decides_all c c2 n [] is = gives_same c c2 (ap (λ (v : CoreView). v.out) is)
decides_all c c2 n (part ∷ parts) (d, mid, first, later) = gives_on c mid c2 (gives_decides c mid n part d first) (decides_all mid c2 n parts later)

gives_plans : (c c2 : CoreView) (n : ℕ) (pieces : Pieces) (op : OpView) → Plans c n pieces op c2 → GivesNoJob c c2
gives_plans c c2 n pieces op plans =
    gives_on c plans.mid c2 (gives_gained c plans.mid op.reading plans.begins.gains (plain_of _ op.reading plans.begins.reads.kind_is refl refl)) (decides_all plans.mid c2 n plans.decided plans.decides)

pub fresh_plans : (c c2 : CoreView) (n : ℕ) (pieces : Pieces) (op : OpView) → Plans c n pieces op c2 → sum_by (settled c2) c2.out ≤ sum_by (settled c2) c.out
fresh_plans c c2 n pieces op plans = gives_plans c c2 n pieces op plans (settled c2) (settled_light c2)

-- the tickets of a plan have the numbers of their flights
pub numbered_plans : (c c2 : CoreView) (n : ℕ) (pieces : Pieces) (op : OpView) → Plans c n pieces op c2 → sum_by misnumbered op.tickets ≡ 0
numbered_plans c c2 n pieces op plans =
    let less = gives_plans c c2 n pieces op plans misnumbered (λ m plain. plain.numbered) in let g = plans.gains misnumbered in omega (arith, less, g)

-- ---- a ticket

equal_of : (a b : ℕ) (q : Bool) → (a == b) ≡ q → ◌≡◌ {A = ℕ} (if not q then 1 else 0) 0 → a ≡ b
equal_of a b true is none = eqb-true a b is
equal_of a b false is none = absurd (omega (arith, none))

number_of : (op op2 : OpView) (ticket : Mark) → GivesTicket op ticket op2 → sum_by misnumbered op.tickets ≡ 0 → ticket.flight ≡ ticket.number
number_of op op2 ticket gives none =
    let l = gives.loses misnumbered in
    let light : misnumbered ticket ≡ 0 = omega (arith, l, none) in
    equal_of ticket.flight ticket.number (ticket.flight == ticket.number) refl
    (sym (ap {B = ℕ} (λ (x : Kind). if kind_code x == kind_code TicketKind && not (ticket.flight == ticket.number) then 1 else 0) gives.token.kind_is) ∙ light)

-- a ticket of the read is to be run, which has the number of its flight
pub runs_next : (b : BookView) (op op2 : OpView) (ticket : Mark) → GivesTicket op ticket op2 → GoesOn b op Nothing → AtWork b (st.Running op2 ticket)
runs_next b op op2 ticket gives goes = (
  record {
    number = goes.number;
    stay = goes.stay;
    reads = subst (λ (p : Pieces). Reads b goes.number p goes.stay) (sym (ap (λ (v : OpView). v.pieces) gives.rest)) goes.reads;
    path_is = ap (λ (v : OpView). v.reading.path) gives.rest ∙ goes.path_is;
    size_is = ap (λ (v : OpView). v.reading.size) gives.rest ∙ goes.size_is;
    client_is = ap (λ (v : OpView). v.reading.client) gives.rest ∙ goes.client_is;
    given_is = ap (λ (v : OpView). v.given) gives.rest;
    numbered = let l = gives.loses misnumbered in omega (arith, l, goes.numbered);
  },
  subst (λ (m : Mark). IsTokenOf m TicketKind ticket) (sym (ap (λ (v : OpView). v.reading) gives.rest)) gives.token,
  number_of op op2 ticket gives goes.numbered,
)

-- ---- a flight that lands

done_last : (d : Bool) (es : List Entry) (x : Entry) (i p : ℕ) → p ≡ length es → IsDoneSince d (es ++ x ∷ []) i p → d ≡ false
done_last true es x i p at some =
    let none : is_done i some.entry ≡ false = (none_last (is_done i) es x).none some.at some.entry (omega (arith, some.behind, at)) some.stands in
    let clash : true ≡ false = sym some.passes ∙ none in absurd cc
done_last false es x i p at none = refl

-- a block whose flight landed last is neither written nor dropped
landed_last : (first : Start) (es : List Entry) (i t : ℕ) (d : Bool) → Lawful first (es ++ e.Landed t ∷ []) → place i (es ++ e.Landed t ∷ []) ≡ Here t d → d ≡ false
landed_last first es i t d law here =
    let since = in_since i t (es ++ e.Landed t ∷ []) d here in
    let last = end_once first (es ++ e.Landed t ∷ []) law t since.0 (length es) (e.Landed t) (e.Landed t) since.1.landed (eq_self t) (stands_new es (e.Landed t)) (eq_self t) in
    done_last d es (e.Landed t) i since.0 last since.2

undone : (t : ℕ) (p : Place) → ((d : Bool) → p ≡ Here t d → d ≡ false) → is_done_at t p ≡ false
undone t Away fresh = refl
undone t (Flying u n) fresh = refl
undone t (Here u d) fresh = by_bool (u == t)
    (λ y. ap (λ (q : Bool). q && d) y ∙ fresh d (ap (λ (k : ℕ). Here k d) (eqb-true u t y)))
    (λ n. ap (λ (q : Bool). q && d) n)

unsettled_if : (q : Bool) → ◌≡◌ {A = ℕ} (if q && false then 1 else 0) 0
unsettled_if true = refl
unsettled_if false = refl

settled_last : (c2 : CoreView) (es : List Entry) (job : Mark) (t : ℕ) → Lawful c2.first c2.entries → c2.entries ≡ es ++ e.Landed t ∷ [] → job.flight ≡ t → settled c2 job ≡ 0
settled_last c2 es job t law enters flight =
    let done : is_done_at job.flight (place job.block c2.entries) ≡ false =
    rw (flight, enters) (undone t (place job.block (es ++ e.Landed t ∷ [])) (λ d here. landed_last c2.first es job.block t d (rw enters at law) here)) in
    ap {B = ℕ} (λ (q : Bool). if is_job_mark job && q then 1 else 0) done ∙ unsettled_if (is_job_mark job)

-- the job of a ticket that has the number of its flight
pub settled_landed : (c c2 : CoreView) (ticket back job : Mark) → back ≡ ticket → Lands c back job c2 → ticket.flight ≡ ticket.number → Lawful c2.first c2.entries → settled c2 job ≡ 0
settled_landed c c2 ticket back job same lands number law =
    let flight : job.flight ≡ back.number = ap (λ (m : Mark). m.flight) lands.job_is ∙ ap (λ (m : Mark). m.flight) same ∙ number ∙ sym (ap (λ (m : Mark). m.number) same) in
    settled_last c2 c.entries job back.number law (ap (λ (v : CoreView). v.entries) lands.enters) flight
