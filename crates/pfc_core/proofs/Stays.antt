-- Who has a file open, among all that is out.
use Rattle.std.proofs.Common.{◌≡◌, ℕ, ◌+◌, ◌==◌, ◌∙◌, List, [], ◌∷◌, length, refl, ap, sym, arith, Option, Some, None}
use Rattle.std.specs.Prelude.{sum_by, if◌then◌else◌}
use Rattle.std.proofs.lemmas.List.Sums.{sum_by-cons}
use Rattle.pfc_core.specs.declared.slot.Slot.{Slot}
use Rattle.pfc_core.specs.declared.held.Held.{Held}
use Rattle.pfc_core.specs.declared.loan.Lent.{Lent}
use Rattle.pfc_core.specs.Access.{AccessView, is_stay, stays_out, come_in, go_out, begun, ended}
use Rattle.pfc_core.specs.Marks.{Mark, StayKind, ReadingKind, TicketKind, PinKind, JobKind, DiskKind}
use Rattle.pfc_core.specs.Out.{Home, mark_in, flight_of, out_of}
use Rattle.pfc_core.proofs.Weights.{weigh_out, slot_weight, loan_weight, sum_zero}
use Rattle.pfc_core.proofs.Outs.{flight_by}

-- 1 where it is a stay
abbrev weigh_stay : Mark → ℕ
weigh_stay m = if is_stay m then 1 else 0

sum_ones : (w : Held → ℕ) (ps : List Held) → ((p : Held) → w p ≡ 1) → sum_by w ps ≡ length ps
sum_ones w [] one = refl
sum_ones w (p ∷ ps) one = let rest = sum_ones w ps one in let here = one p in omega (arith, sum_by-cons w p ps, rest, here)

no_stay_lent : (h : Home) (loan : Option Lent) → loan_weight h weigh_stay loan ≡ 0
no_stay_lent h None = refl
no_stay_lent h (Some l) = refl

pub stays_are : (h : Home) (stays readings pins disks : List Held) (loan : Option Lent) (slots : List Slot) → stays_out (out_of h stays readings pins disks loan slots) ≡ length stays
stays_are h stays readings pins disks loan slots =
    let a = sum_ones (λ (p : Held). weigh_stay (mark_in StayKind h p)) stays (λ p. refl) in
    let b = sum_zero (λ (p : Held). weigh_stay (mark_in ReadingKind h p)) readings (λ p. refl) in
    let d = sum_zero (λ (p : Held). weigh_stay (mark_in PinKind h p)) pins (λ p. refl) in
    let e = sum_zero (λ (p : Held). weigh_stay (mark_in DiskKind h p)) disks (λ p. refl) in
    let l = no_stay_lent h loan in
    let f = sum_zero (slot_weight h weigh_stay) slots (λ s. flight_by weigh_stay s.landed s.job (mark_in TicketKind h (flight_of s)) (mark_in JobKind h (flight_of s)) refl refl) in
    omega (arith, weigh_out weigh_stay h stays readings pins disks loan slots, a, b, d, e, l, f)

-- an access begins with the first stay, and ends with the last
pub comes_in : (h : Home) (stays readings pins disks : List Held) (loan : Option Lent) (slots : List Slot) (now n : ℕ) (a : AccessView) → n ≡ length stays → (if 0 == n then begun now a else a) ≡ come_in now (out_of h stays readings pins disks loan slots) a
comes_in h stays readings pins disks loan slots now n a long = ap (λ (k : ℕ). if 0 == k then begun now a else a) (long ∙ sym (stays_are h stays readings pins disks loan slots))

pub goes_out : (h : Home) (stays readings pins disks : List Held) (loan : Option Lent) (slots : List Slot) (now n : ℕ) (a : AccessView) → n ≡ length stays → (if 0 == n then ended now a else a) ≡ go_out now (out_of h stays readings pins disks loan slots) a
goes_out h stays readings pins disks loan slots now n a long = ap (λ (k : ℕ). if 0 == k then ended now a else a) (long ∙ sym (stays_are h stays readings pins disks loan slots))
