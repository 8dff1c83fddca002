-- The jobs that are out, by the slots that they are of.
use Rattle.std.proofs.Common.{◌≡◌, ◌≢◌, ◌⊎◌, ℕ, ◌<◌, ◌≤◌, List, [], ◌∷◌, sym, refl, ap, ◌∙◌, subst, inl, inr, arith, Bool, true, false, Option, Some, None, ◌==◌, ◌&&◌, eq-eqb, ne_eqb}
use Rattle.std.specs.Prelude.{sum_by, not, ◌||◌, if◌then◌else◌}
use Rattle.std.proofs.lemmas.Bool.{cases_lt}
use Rattle.std.proofs.lemmas.List.Sums.{sum_by-cons}
use Rattle.pfc_log.specs.declared.entry.Entry.{Entry}
use Rattle.pfc_log.specs.Views.{Place, Away, Flying, Here, place, bound, count_below}
use Rattle.pfc_log.specs.Waiting.{is_waiting, waiting}
use Rattle.pfc_log.proofs.Waiting.{away_past, except, except_else, count_except}
use Rattle.pfc_core.specs.declared.slot.Slot.{Slot}
use Rattle.pfc_core.specs.declared.held.Held.{Held}
use Rattle.pfc_core.specs.declared.loan.Lent.{Lent}
use Rattle.pfc_core.specs.Marks.{Mark, StayKind, ReadingKind, PinKind, JobKind, DiskKind}
use Rattle.pfc_core.specs.Slots.{slot_of, weight_in, IsSingle}
use Rattle.pfc_core.specs.Tied.{Fine, IsFine}
use Rattle.pfc_core.specs.Leaves.{is_here_at, is_done_at}
use Rattle.pfc_core.specs.Out.{Home, mark_in, flight_of, out_of}
use Rattle.pfc_core.specs.Kept.{IsHeld}
use Rattle.pfc_core.specs.View.{CoreView}
use Rattle.pfc_core.specs.OpenJobs.{is_job_mark, job_of, astray, unsettled, AreJobs}
use Rattle.pfc_core.proofs.Entries.{by_bool}
use Rattle.pfc_core.proofs.Weights.{weigh_out, slot_weight, loan_zero, sum_zero}
use Rattle.pfc_core.proofs.Flown.{weight_flying, weight_waits, weight_idle, single_zero, by_slot}
use Rattle.pfc_core.proofs.Leaving.{single_at}

abbrev one_if : Bool → ℕ
one_if q = if q then 1 else 0

-- 1 for a job that passes the test
abbrev weigh_jobs : (Mark → Bool) → Mark → ℕ
weigh_jobs f m = one_if (is_job_mark m && f m)

-- all jobs that are out are of slots
jobs_weigh : (f : Mark → Bool) (h : Home) (stays readings pins disks : List Held) (loan : Option Lent) (slots : List Slot) → sum_by (weigh_jobs f) (out_of h stays readings pins disks loan slots) ≡ sum_by (slot_weight h (weigh_jobs f)) slots
jobs_weigh f h stays readings pins disks loan slots =
    let w = weigh_jobs f in
    let a = sum_zero (λ (p : Held). w (mark_in StayKind h p)) stays (λ p. refl) in
    let b = sum_zero (λ (p : Held). w (mark_in ReadingKind h p)) readings (λ p. refl) in
    let c = sum_zero (λ (p : Held). w (mark_in PinKind h p)) pins (λ p. refl) in
    let d = sum_zero (λ (p : Held). w (mark_in DiskKind h p)) disks (λ p. refl) in
    let e = loan_zero w h loan (λ n. refl) in
    omega (arith, weigh_out w h stays readings pins disks loan slots, a, b, c, d, e)

-- a slot weighs where its job is out and passes
job_slot : (f : Mark → Bool) (h : Home) (s : Slot) → (slot_weight h (weigh_jobs f) s ≡ 0) ⊎ ((s.landed ≡ true) × (s.job ≡ true) × (slot_weight h (weigh_jobs f) s ≡ one_if (f (mark_in JobKind h (flight_of s)))))
job_slot f h s = by_bool s.landed
    (λ l. by_bool s.job (λ d. inr (l, d, weight_waits (weigh_jobs f) h s l d)) (λ d. inl (weight_idle (weigh_jobs f) h s l d)))
    (λ l. inl (weight_flying (weigh_jobs f) h s l))

one_low : (q : Bool) → one_if q ≤ 1
one_low true = omega arith
one_low false = omega arith

job_low : (f : Mark → Bool) (h : Home) (s : Slot) → slot_weight h (weigh_jobs f) s ≤ 1
job_low f h s = elim (job_slot f h s) [
  | inl w ↦ omega (arith, w)
  | inr w ↦ omega (arith, w.2, one_low (f (mark_in JobKind h (flight_of s))))
]

weight_low : (f : Slot → ℕ) (o : Option Slot) → ((s : Slot) → f s ≤ 1) → weight_in f o ≤ 1
weight_low f None low = omega arith
weight_low f (Some s) low = low s

-- each block has one job at most
one_job : (i : ℕ) (h : Home) (stays readings pins disks : List Held) (loan : Option Lent) (slots : List Slot) → IsSingle slots → sum_by (job_of i) (out_of h stays readings pins disks loan slots) ≤ 1
one_job i h stays readings pins disks loan slots single =
    let f = λ (m : Mark). m.block == i in
    let all = jobs_weigh f h stays readings pins disks loan slots in
    let one = single_at (slot_weight h (weigh_jobs f)) i slots single (λ s apart. by_slot (weigh_jobs f) h s (λ l. refl) (λ l d. ap one_if (ne_eqb s.block i apart))) in
    let low = weight_low (slot_weight h (weigh_jobs f)) (slot_of i slots) (job_low f h) in
    omega (arith, all, one, low)

or_false : (q : Bool) → (q || false) ≡ q
or_false true = refl
or_false false = refl

-- the block of a slot whose job is out is in memory
place_here : (es : List Entry) (pins : List Held) (s : Slot) → IsFine es pins s.block s → s.landed ≡ true → s.job ≡ true → place s.block es ≡ Here s.ticket s.written
place_here es pins s fine l d =
    fine.is ∙ ap (λ (q : Bool). if q then Here s.ticket (s.written || not s.job) else Flying s.ticket s.client) l
    ∙ ap (λ (q : Bool). Here s.ticket (s.written || not q)) d ∙ ap (Here s.ticket) (or_false s.written)

fine_at : (es : List Entry) (pins : List Held) (slots : List Slot) (s : Slot) → Fine es pins s.block (slot_of s.block slots) → slot_of s.block slots ≡ Some s → IsFine es pins s.block s
fine_at es pins slots s fine at = subst (λ (o : Option Slot). Fine es pins s.block o) at fine

not_astray : (t : ℕ) (p : Place) (d : Bool) → p ≡ Here t d → one_if (not (is_here_at t p)) ≡ 0
not_astray t p d h = ap (λ (q : Place). one_if (not (is_here_at t q))) h ∙ ap (λ (q : Bool). one_if (not q)) (eq-eqb t t refl)

is_settled : (t : ℕ) (p : Place) → p ≡ Here t true → one_if (not (is_done_at t p)) ≡ 0
is_settled t p h = ap (λ (q : Place). one_if (not (is_done_at t q))) h ∙ ap (λ (q : Bool). one_if (not (q && true))) (eq-eqb t t refl)

is_unsettled : (t : ℕ) (p : Place) → p ≡ Here t false → one_if (not (is_done_at t p)) ≡ 1
is_unsettled t p h = ap (λ (q : Place). one_if (not (is_done_at t q))) h ∙ ap (λ (q : Bool). one_if (not (q && false))) (eq-eqb t t refl)

-- the slot weighs nothing, or one where the test passes for its block
abbrev Counts : (Slot → ℕ) → (ℕ → Bool) → ℕ → Slot → Type 0
Counts f test n s = (f s ≡ 0) ⊎ ((f s ≡ 1) × (test s.block ≡ true) × (s.block < n))

apart_later : (s x : Slot) (ss : List Slot) → slot_of s.block ss ≡ None → slot_of x.block ss ≡ Some x → s.block ≢ x.block
apart_later s x ss none at same =
    let gone : slot_of x.block ss ≡ None = subst (λ (k : ℕ). slot_of k ss ≡ None) same none in let clash : None ≡ Some x = sym gone ∙ at in absurd cc

later : (s x : Slot) (ss : List Slot) → s.block ≢ x.block → slot_of x.block ss ≡ Some x → slot_of x.block (s ∷ ss) ≡ Some x
later s x ss apart at = ap (λ (q : Bool). if q then Some s else slot_of x.block ss) (ne_eqb s.block x.block apart) ∙ at

counts_else : (f : Slot → ℕ) (test : ℕ → Bool) (n b : ℕ) (s : Slot) → b ≢ s.block → Counts f test n s → Counts f (except b test) n s
counts_else f test n b s apart counts = elim counts [
  | inl w ↦ inl w
  | inr w ↦ inr (w.0, except_else b test s.block apart ∙ w.1, w.2)
]

-- slots of different blocks weigh no more than numbers pass
count_single : (f : Slot → ℕ) (test : ℕ → Bool) (n : ℕ) (ss : List Slot) → IsSingle ss → ((s : Slot) → slot_of s.block ss ≡ Some s → Counts f test n s) → sum_by f ss ≤ count_below test n
count_single f test n [] single each = omega arith
count_single f test n (s ∷ ss) single each = elim (each s (ap (λ (q : Bool). if q then Some s else slot_of s.block ss) (eq-eqb s.block s.block refl))) [
  | inl w ↦
      let rest = count_single f test n ss single.1 (λ x at. each x (later s x ss (apart_later s x ss single.0 at) at)) in
      omega (arith, sum_by-cons f s ss, w, rest)
  | inr w ↦
      let rest = count_single f (except s.block test) n ss single.1 (λ x at. let apart = apart_later s x ss single.0 at in counts_else f test n s.block x apart (each x (later s x ss apart at))) in
      omega (arith, sum_by-cons f s ss, w.0, rest, count_except test s.block n w.2 w.1)
]

module _ (v : CoreView) (begun : ℕ) (h : Home) (stays readings pins disks : List Held) (loan : Option Lent) (slots : List Slot) (held : IsHeld v.first v.entries begun slots pins) (single : IsSingle slots) where
  none_astray : sum_by (astray v) (out_of h stays readings pins disks loan slots) ≡ 0
  none_astray =
      let f = λ (m : Mark). not (is_here_at m.flight (place m.block v.entries)) in
      jobs_weigh f h stays readings pins disks loan slots ∙ single_zero (slot_weight h (weigh_jobs f)) slots single (λ s at. by_slot (weigh_jobs f) h s (λ l. refl)
      (λ l d. not_astray s.ticket (place s.block v.entries) s.written (place_here v.entries pins s (fine_at v.entries pins slots s (held.tied.fine s.block) at) l d)))

  low_block : (n : ℕ) → bound v.first ≤ n → (i t : ℕ) (d : Bool) → place i v.entries ≡ Here t d → i < n
  low_block n most i t d here = elim (cases_lt i n) [
    | inl less ↦ less
    | inr high ↦ let clash : Away ≡ Here t d = sym (away_past v.first v.entries held.well.lawful i (omega (arith, most, high))) ∙ here in absurd cc
  ]

  waits_below : (n : ℕ) → bound v.first ≤ n → sum_by (unsettled v) (out_of h stays readings pins disks loan slots) ≤ waiting n v.entries
  waits_below n most =
      let f = λ (m : Mark). not (is_done_at m.flight (place m.block v.entries)) in
      let test = λ (i : ℕ). is_waiting (place i v.entries) in
      let all = jobs_weigh f h stays readings pins disks loan slots in
      let low = count_single (slot_weight h (weigh_jobs f)) test n slots single (λ s at. elim (job_slot f h s) [
        | inl w ↦ inl w
        | inr w ↦
            let here = place_here v.entries pins s (fine_at v.entries pins slots s (held.tied.fine s.block) at) w.0 w.1 in by_bool s.written
            (λ y. inl (w.2 ∙ is_settled s.ticket (place s.block v.entries) (here ∙ ap (Here s.ticket) y)))
            (λ o. inr (w.2 ∙ is_unsettled s.ticket (place s.block v.entries) (here ∙ ap (Here s.ticket) o), ap is_waiting (here ∙ ap (Here s.ticket) o), low_block n most s.block s.ticket s.written here))
      ]) in
      omega (arith, all, low)

  pub are_jobs : v.out ≡ out_of h stays readings pins disks loan slots → AreJobs v
  are_jobs is = record {
    here = ap (sum_by (astray v)) is ∙ none_astray;
    once = λ i. subst (λ (l : List Mark). sum_by (job_of i) l ≤ 1) (sym is) (one_job i h stays readings pins disks loan slots single);
    waits = λ n most. subst (λ (l : List Mark). sum_by (unsettled v) l ≤ waiting n v.entries) (sym is) (waits_below n most);
  }
