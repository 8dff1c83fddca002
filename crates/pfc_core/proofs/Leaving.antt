-- Whether a block leaves memory, by its slot.
use Rattle.std.proofs.Common.{◌≡◌, ◌≢◌, ℕ, ◌<◌, List, [], ◌∷◌, sym, refl, ap, ◌∙◌, subst, arith, Bool, true, false, Option, Some, None, if◌then◌else◌, ◌==◌, ◌&&◌, eq-eqb, ne_eqb, tests}
use mathlib.Core.Logic.{dite}
use native.Mathlib.Decide.{ℕ_discrete}
use Rattle.std.specs.Prelude.{sum_by, not, ◌||◌}
use Rattle.std.proofs.lemmas.Bool.{eqb-true}
use Rattle.std.proofs.lemmas.List.Sums.{sum_by-cons}
use Rattle.pfc_log.specs.declared.entry.Entry.{Entry}
use Rattle.pfc_log.specs.declared.start.Start.{Start}
use Rattle.pfc_log.specs.Views.{Place, Flying, Here, place}
use Rattle.pfc_core.specs.declared.slot.Slot.{Slot}
use Rattle.pfc_core.specs.declared.held.Held.{Held}
use Rattle.pfc_core.specs.declared.loan.Lent.{Lent}
use Rattle.pfc_core.specs.Held.{Takes}
use Rattle.pfc_core.specs.Marks.{Mark, StayKind, ReadingKind, TicketKind, PinKind, JobKind, DiskKind}
use Rattle.pfc_core.specs.Pins.{on}
use Rattle.pfc_core.specs.Slots.{slot_of, place_of, weight_in, IsSingle}
use Rattle.pfc_core.specs.Tied.{Fine, IsFine}
use Rattle.pfc_core.specs.Leaves.{is_here_at, is_pin, pins_on, is_job, jobs_on, leaves, leaves_slot}
use Rattle.pfc_core.specs.Out.{Home, mark_in, flight_of, out_of}
use Rattle.pfc_core.specs.Kept.{IsHeld}
use Rattle.pfc_core.proofs.PinsTied.{take_one}
use Rattle.pfc_core.proofs.Tied.{by_bool}
use Rattle.pfc_core.proofs.Weights.{weigh_out, kind_weight, slot_weight, loan_zero, sum_zero}
use Rattle.pfc_core.proofs.Flown.{weight_flying, weight_waits, weight_idle}
use Rattle.pfc_core.proofs.Outs.{flight_by}

-- the pins of all that is out
pub pins_on_is : (i t : ℕ) (h : Home) (stays readings pins disks : List Held) (loan : Option Lent) (slots : List Slot) → pins_on i t (out_of h stays readings pins disks loan slots) ≡ on i t pins
pins_on_is i t h stays readings pins disks loan slots =
    let w = λ (m : Mark). if is_pin i t m then 1 else 0 in
    let a = sum_zero (λ (p : Held). w (mark_in StayKind h p)) stays (λ p. refl) in
    let b = sum_zero (λ (p : Held). w (mark_in ReadingKind h p)) readings (λ p. refl) in
    let e = sum_zero (λ (p : Held). w (mark_in DiskKind h p)) disks (λ p. refl) in
    let f = loan_zero w h loan (λ n. refl) in
    let d = sum_zero (slot_weight h w) slots (λ s. flight_by w s.landed s.job (mark_in TicketKind h (flight_of s)) (mark_in JobKind h (flight_of s)) refl refl) in
    let c : kind_weight PinKind h w pins ≡ on i t pins = refl in
    omega (arith, weigh_out w h stays readings pins disks loan slots, a, b, c, d, e, f)

-- what weighs at one block only, weighs as the slot there
pub single_at : (f : Slot → ℕ) (i : ℕ) (ss : List Slot) → IsSingle ss → ((s : Slot) → s.block ≢ i → f s ≡ 0) → sum_by f ss ≡ weight_in f (slot_of i ss)
single_at f i [] single none = refl
single_at f i (s ∷ ss) single none = by_bool (s.block == i)
    (λ yes.
    let same : s.block ≡ i = eqb-true s.block i yes in
    let rest = single_at f i ss single.1 none in
    let gone : weight_in f (slot_of i ss) ≡ 0 = ap (weight_in f) (subst (λ (k : ℕ). slot_of k ss ≡ None) same single.0) in
    let here : weight_in f (slot_of i (s ∷ ss)) ≡ f s = ap (λ (q : Bool). weight_in f (if q then Some s else slot_of i ss)) yes in
    omega (arith, sum_by-cons f s ss, rest, gone, here))
    (λ off.
    let light = none s (λ e. let clash : true ≡ false = sym (eq-eqb s.block i e) ∙ off in cc) in
    let rest = single_at f i ss single.1 none in
    let there : weight_in f (slot_of i (s ∷ ss)) ≡ weight_in f (slot_of i ss) = ap (λ (q : Bool). weight_in f (if q then Some s else slot_of i ss)) off in
    omega (arith, sum_by-cons f s ss, rest, light, there))

-- 1 where a slot's job is out and is of this flight
abbrev pub job_of : ℕ → Slot → ℕ
job_of t s = if s.landed then (if s.job then (if s.ticket == t then 1 else 0) else 0) else 0

-- 1 where it is the job of flight t of block i
abbrev weigh_job : ℕ → ℕ → Mark → ℕ
weigh_job i t m = if is_job i t m then 1 else 0

job_mark : (i t : ℕ) (h : Home) (s : Slot) → s.block ≡ i → weigh_job i t (mark_in JobKind h (flight_of s)) ≡ (if s.ticket == t then 1 else 0)
job_mark i t h s at = let e = eq-eqb s.block i at in grind arith

job_else : (i t : ℕ) (h : Home) (s : Slot) → s.block ≢ i → weigh_job i t (mark_in JobKind h (flight_of s)) ≡ 0
job_else i t h s apart = let e = ne_eqb s.block i apart in grind arith

job_weight : (i t : ℕ) (h : Home) (s : Slot) → s.block ≡ i → slot_weight h (weigh_job i t) s ≡ job_of t s
job_weight i t h s at = by_bool s.landed
    (λ l. by_bool s.job
    (λ j. weight_waits (weigh_job i t) h s l j ∙ job_mark i t h s at ∙ sym (ap (λ (q : Bool). if q then (if s.job then (if s.ticket == t then 1 else 0) else 0) else 0) l ∙ ap (λ (q : Bool). if q then (if s.ticket == t then 1 else 0) else 0) j))
    (λ j. weight_idle (weigh_job i t) h s l j ∙ sym (ap (λ (q : Bool). if q then (if s.job then (if s.ticket == t then 1 else 0) else 0) else 0) l ∙ ap (λ (q : Bool). if q then (if s.ticket == t then 1 else 0) else 0) j)))
    (λ l. weight_flying (weigh_job i t) h s l ∙ sym (ap (λ (q : Bool). if q then (if s.job then (if s.ticket == t then 1 else 0) else 0) else 0) l))

slot_block : (i : ℕ) (ss : List Slot) (s : Slot) → slot_of i ss ≡ Some s → s.block ≡ i
slot_block i [] s at = absurd cc
slot_block i (x ∷ ss) s at = by_bool (x.block == i)
    (λ yes. let is : Some x ≡ Some s = sym (ap (λ (q : Bool). if q then Some x else slot_of i ss) yes) ∙ at in let same : x ≡ s = some_slot x s is in sym (ap (λ (k : Slot). k.block) same) ∙ eqb-true x.block i yes)
    (λ off. slot_block i ss s (sym (ap (λ (q : Bool). if q then Some x else slot_of i ss) off) ∙ at))
  where
    some_slot : (a b : Slot) → Some a ≡ Some b → a ≡ b
    some_slot a b h = cc

weigh_at : (f g : Slot → ℕ) (o : Option Slot) → ((s : Slot) → o ≡ Some s → f s ≡ g s) → weight_in f o ≡ weight_in g o
weigh_at f g None same = refl
weigh_at f g (Some s) same = same s refl

-- the jobs of all that is out
pub jobs_on_is : (i t : ℕ) (h : Home) (stays readings pins disks : List Held) (loan : Option Lent) (slots : List Slot) → IsSingle slots → jobs_on i t (out_of h stays readings pins disks loan slots) ≡ weight_in (job_of t) (slot_of i slots)
jobs_on_is i t h stays readings pins disks loan slots single =
    let w = weigh_job i t in
    let a = sum_zero (λ (p : Held). w (mark_in StayKind h p)) stays (λ p. refl) in
    let b = sum_zero (λ (p : Held). w (mark_in ReadingKind h p)) readings (λ p. refl) in
    let c = sum_zero (λ (p : Held). w (mark_in PinKind h p)) pins (λ p. refl) in
    let e = sum_zero (λ (p : Held). w (mark_in DiskKind h p)) disks (λ p. refl) in
    let f = loan_zero w h loan (λ n. refl) in
    let d = single_at (slot_weight h w) i slots single (λ s apart. flight_by w s.landed s.job (mark_in TicketKind h (flight_of s)) (mark_in JobKind h (flight_of s)) refl (job_else i t h s apart)) in
    let k = weigh_at (slot_weight h w) (job_of t) (slot_of i slots) (λ s at. job_weight i t h s (slot_block i slots s at)) in
    omega (arith, weigh_out w h stays readings pins disks loan slots, a, b, c, d, e, f, k)

leaves_same : (l j d : Bool) (u c a : ℕ) → (is_here_at u (if l then Here u d else Flying u c) && (if l then (if j then (if u == u then 1 else 0) else 0) else 0) == 0 && a == 1) ≡ (u == u && l && not j && a == 1)
leaves_same true true d u c a = let e = eq-eqb u u refl in grind arith
leaves_same true false d u c a = grind arith
leaves_same false j d u c a = grind arith

leaves_apart : (l j d : Bool) (u c t k a b : ℕ) → u ≢ t → (is_here_at t (if l then Here u d else Flying u c) && k == 0 && a == 1) ≡ (u == t && l && not j && b == 1)
leaves_apart true j d u c t k a b n = let e = ne_eqb u t n in grind arith
leaves_apart false j d u c t k a b n = let e = ne_eqb u t n in grind arith

leaves_by : (s : Slot) (t : ℕ) (f : ℕ → ℕ) → s.pins ≡ f s.ticket → (is_here_at t (place_of s) && job_of t s == 0 && f t == 1) ≡ (s.ticket == t && s.landed && not s.job && s.pins == 1)
leaves_by s t f e = dite (ℕ_discrete s.ticket t)
    (λ h. subst (λ (k : ℕ). (is_here_at k (place_of s) && job_of k s == 0 && f k == 1) ≡ (s.ticket == k && s.landed && not s.job && s.pins == 1)) h (ap (λ (k : ℕ). is_here_at s.ticket (place_of s) && job_of s.ticket s == 0 && k == 1) (sym e) ∙ leaves_same s.landed s.job (s.written || not s.job) s.ticket s.client s.pins))
    (λ n. leaves_apart s.landed s.job (s.written || not s.job) s.ticket s.client t (job_of t s) (f t) s.pins n)

-- whether the block leaves with its last pin, by the slot
leaves_is : (es : List Entry) (pins : List Held) (i t : ℕ) (o : Option Slot) → Fine es pins i o → (is_here_at t (place i es) && weight_in (job_of t) o == 0 && on i t pins == 1) ≡ leaves_slot t o
leaves_is es pins i t None fine = ap (λ (q : Place). is_here_at t q && 0 == 0 && on i t pins == 1) fine
leaves_is es pins i t (Some s) fine = ap (λ (q : Place). is_here_at t q && job_of t s == 0 && on i t pins == 1) fine.is ∙ leaves_by s t (λ (u : ℕ). on i u pins) fine.pinned

parts_of : (x : Slot) (t : ℕ) → (x.ticket == t && x.landed && not x.job && x.pins == 1) ≡ true → (x.ticket ≡ t) × (x.landed ≡ true) × (x.job ≡ false) × (x.pins ≡ 1)
parts_of x t h = (grind (arith, tests), grind (arith, tests), grind (arith, tests), grind (arith, tests))

all_of : (x : Slot) (t : ℕ) → x.ticket ≡ t → x.landed ≡ true → x.job ≡ false → x.pins ≡ 1 → (x.ticket == t && x.landed && not x.job && x.pins == 1) ≡ true
all_of x t a b c d = let e = eq-eqb x.ticket t a in let f = eq-eqb x.pins 1 d in grind arith

module _ (es : List Entry) (i t : ℕ) (h : Home) (stays readings pins disks : List Held) (loan : Option Lent) (slots : List Slot) where
  leaves_out : IsSingle slots → Fine es pins i (slot_of i slots) → leaves es (out_of h stays readings pins disks loan slots) i t ≡ leaves_slot t (slot_of i slots)
  leaves_out single fine = ap (λ (k : ℕ). is_here_at t (place i es) && k == 0 && pins_on i t (out_of h stays readings pins disks loan slots) == 1) (jobs_on_is i t h stays readings pins disks loan slots single)
      ∙ ap (λ (k : ℕ). is_here_at t (place i es) && weight_in (job_of t) (slot_of i slots) == 0 && k == 1) (pins_on_is i t h stays readings pins disks loan slots) ∙ leaves_is es pins i t (slot_of i slots) fine

  pub leaves_none : IsSingle slots → Fine es pins i (slot_of i slots) → slot_of i slots ≡ None → leaves es (out_of h stays readings pins disks loan slots) i t ≡ false
  leaves_none single fine e = leaves_out single fine ∙ ap (leaves_slot t) e

  pub leaves_not : (x : Slot) → IsSingle slots → Fine es pins i (slot_of i slots) → slot_of i slots ≡ Some x → (x.ticket ≡ t → x.landed ≡ true → x.job ≡ false → x.pins ≢ 1) → leaves es (out_of h stays readings pins disks loan slots) i t ≡ false
  leaves_not x single fine e n = leaves_out single fine ∙ ap (leaves_slot t) e ∙ by_bool (x.ticket == t && x.landed && not x.job && x.pins == 1) (λ y. let q = parts_of x t y in absurd (n q.0 q.1 q.2 q.3)) (λ f. f)

  pub leaves_so : (x : Slot) → IsSingle slots → Fine es pins i (slot_of i slots) → slot_of i slots ≡ Some x → x.ticket ≡ t → x.landed ≡ true → x.job ≡ false → x.pins ≡ 1 → leaves es (out_of h stays readings pins disks loan slots) i t ≡ true
  leaves_so x single fine e a l d n = leaves_out single fine ∙ ap (leaves_slot t) e ∙ all_of x t a l d n

last_true : (x : Slot) → x.landed ≡ true → x.job ≡ false → x.pins ≡ 1 → (x.landed && not x.job && x.pins == 1) ≡ true
last_true x l d n = let e = eq-eqb x.pins 1 n in grind arith

pub not_last : (x : Slot) → (x.landed && not x.job && x.pins == 1) ≡ false → x.landed ≡ true → x.job ≡ false → x.pins ≢ 1
not_last x h l d n = let t : (x.landed && not x.job && x.pins == 1) ≡ true = last_true x l d n in absurd cc

pub last_is : (x : Slot) → (x.landed && not x.job && x.pins == 1) ≡ true → (x.landed ≡ true) × (x.job ≡ false) × (x.pins ≡ 1)
last_is x h = (grind (arith, tests), grind (arith, tests), grind (arith, tests))

-- a pin on a slot is counted there
pub counted : (first : Start) (es : List Entry) (n : ℕ) (slots : List Slot) (pins more : List Held) (p : Held) (x : Slot) → IsHeld first es n slots pins → Takes p pins more → slot_of p.block slots ≡ Some x → x.ticket ≡ p.flight → 0 < x.pins
counted first es n slots pins more p x held take at ticket =
    let fine : IsFine es pins p.block x = subst (λ (q : Option Slot). Fine es pins p.block q) at (held.tied.fine p.block) in
    let one = take_one p pins more take in let was : x.pins ≡ on p.block p.flight pins = subst (λ (t : ℕ). x.pins ≡ on p.block t pins) ticket fine.pinned in omega arith

-- how many pins a slot has
pub pins_are : (first : Start) (es : List Entry) (n b t : ℕ) (slots : List Slot) (pins : List Held) (x : Slot) → IsHeld first es n slots pins → slot_of b slots ≡ Some x → x.ticket ≡ t → x.pins ≡ on b t pins
pins_are first es n b t slots pins x held at is =
    let fine : IsFine es pins b x = subst (λ (q : Option Slot). Fine es pins b q) at (held.tied.fine b) in
    subst (λ (u : ℕ). x.pins ≡ on b u pins) is fine.pinned
