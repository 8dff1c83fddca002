-- Loans among all that is out.
use Rattle.std.proofs.Common.{◌≡◌, ℕ, ◌<◌, ◌≤◌, ◌∙◌, List, ap, sym, subst, refl, arith, Bool, true, false, Option, Some, None}
use Rattle.std.specs.Prelude.{if◌then◌else◌, MatchBool}
use Rattle.std.specs.Option.{is_some}
use Rattle.pfc_core.specs.declared.slot.Slot.{Slot}
use Rattle.pfc_core.specs.declared.held.Held.{Held}
use Rattle.pfc_core.specs.declared.loan.Lent.{Lent}
use Rattle.pfc_log.specs.declared.start.Start.{Start}
use Rattle.pfc_log.specs.Lawful.{IsCached}
use Rattle.pfc_core.specs.View.{why_of}
use Rattle.pfc_core.specs.Lending.{is_loan, loans_out}
use Rattle.pfc_core.specs.Marks.{Mark, sees, listed, Gains, StayKind, ReadingKind, TicketKind, PinKind, JobKind, DiskKind, LoanKind}
use Rattle.pfc_core.specs.Out.{Home, mark_in, flight_of, loan_of, out_of}
use Rattle.pfc_core.proofs.Weights.{weigh_out, slot_weight, loan_weight, loan_one, sum_zero, same_self}
use Rattle.pfc_core.specs.Held.{is_held}
use Rattle.pfc_core.proofs.Numbered.{held_self}
use Rattle.pfc_core.proofs.Uncached.{cached_start}
use Rattle.pfc_core.proofs.Outs.{flight_by, gains_loan, unlisted_loan}

-- 1 where it is a loan
abbrev pub weigh_loan : Mark → ℕ
weigh_loan m = if is_loan m then 1 else 0

pub loans_are : (h : Home) (stays readings pins disks : List Held) (loan : Option Lent) (slots : List Slot) → loans_out (out_of h stays readings pins disks loan slots) ≡ loan_weight h weigh_loan loan
loans_are h stays readings pins disks loan slots =
    let a = sum_zero (λ (p : Held). weigh_loan (mark_in StayKind h p)) stays (λ p. refl) in
    let b = sum_zero (λ (p : Held). weigh_loan (mark_in ReadingKind h p)) readings (λ p. refl) in
    let d = sum_zero (λ (p : Held). weigh_loan (mark_in PinKind h p)) pins (λ p. refl) in
    let e = sum_zero (λ (p : Held). weigh_loan (mark_in DiskKind h p)) disks (λ p. refl) in
    let f = sum_zero (slot_weight h weigh_loan) slots (λ s. flight_by weigh_loan s.landed s.job (mark_in TicketKind h (flight_of s)) (mark_in JobKind h (flight_of s)) refl refl) in
    omega (arith, weigh_out weigh_loan h stays readings pins disks loan slots, a, b, d, e, f)

one_loan : (h : Home) (loan : Option Lent) → loan_weight h weigh_loan loan ≤ 1
one_loan h None = omega arith
one_loan h (Some n) = omega (arith, loan_one weigh_loan h n)

pub loan_most : (h : Home) (stays readings pins disks : List Held) (loan : Option Lent) (slots : List Slot) → loans_out (out_of h stays readings pins disks loan slots) ≤ 1
loan_most h stays readings pins disks loan slots = omega (arith, loans_are h stays readings pins disks loan slots, one_loan h loan)

pub loan_none : (h : Home) (stays readings pins disks : List Held) (loan : Option Lent) (slots : List Slot) → loan ≡ None → loans_out (out_of h stays readings pins disks loan slots) ≡ 0
loan_none h stays readings pins disks loan slots none = loans_are h stays readings pins disks loan slots ∙ ap (loan_weight h weigh_loan) none

pub no_loan_out : (h : Home) (stays readings pins disks : List Held) (loan : Option Lent) (slots : List Slot) → loans_out (out_of h stays readings pins disks loan slots) ≡ 0 → loan ≡ None
no_loan_out h stays readings pins disks None slots none = refl
no_loan_out h stays readings pins disks (Some l) slots none = absurd (omega (arith, none, loans_are h stays readings pins disks (Some l) slots, loan_one weigh_loan h l))

pub not_some : {A : Type 0} (o : Option A) → false ≡ is_some o → o ≡ None
not_some None h = refl
not_some (Some x) h = absurd cc

pub some_lent : (o : Option Lent) → true ≡ is_some o → o ≡ None → ⊥
some_lent None h none = cc
some_lent (Some n) h none = cc

-- a file is cached where there is no reason why it isn't
pub cached_of : (first : Start) → false ≡ is_some (why_of first) → IsCached first
cached_of first h = cached_start first (not_some (why_of first) h)

pub match_of : (q : Bool) (P Q : Type 0) → (q ≡ true → P) → (q ≡ false → Q) → MatchBool q P Q
match_of true P Q y n = y refl
match_of false P Q y n = n refl

module _ (h : Home) (stays readings pins disks : List Held) (slots : List Slot) where
  loan_there : (n : Lent) → 0 < listed (mark_in LoanKind h (loan_of n)) (out_of h stays readings pins disks (Some n) slots)
  loan_there n =
      let m = mark_in LoanKind h (loan_of n) in
      let one : sees m m ≡ 1 = ap {B = ℕ} (λ (q : Bool). if q then 1 else 0) (same_self m) in
      omega (arith, weigh_out (sees m) h stays readings pins disks (Some n) slots, loan_one (sees m) h n, one)

  -- the loan that is out is listed
  pub loan_listed : (loan : Option Lent) (n : Lent) → loan ≡ Some n → 0 < listed (mark_in LoanKind h (loan_of n)) (out_of h stays readings pins disks loan slots)
  loan_listed loan n is = subst (λ (o : Option Lent). 0 < listed (mark_in LoanKind h (loan_of n)) (out_of h stays readings pins disks o slots)) (sym is) (loan_there n)

  -- a store is lent where no loan was out
  pub lend_gains : (loan : Option Lent) (n : Lent) → loan ≡ None → Gains (out_of h stays readings pins disks loan slots) (mark_in LoanKind h (loan_of n)) (out_of h stays readings pins disks (Some n) slots)
  lend_gains loan n none = subst (λ (o : Option Lent). Gains (out_of h stays readings pins disks o slots) (mark_in LoanKind h (loan_of n)) (out_of h stays readings pins disks (Some n) slots)) (sym none) (gains_loan h stays readings pins disks slots n)

  -- none is listed where none is out
  pub none_listed : (loan : Option Lent) (p : Held) → loan ≡ None → listed (mark_in LoanKind h p) (out_of h stays readings pins disks loan slots) ≡ 0
  none_listed loan p none = unlisted_loan h p stays readings pins disks loan slots (λ n is e. clash n (sym none ∙ is))
    where
      clash : (n : Lent) → None ≡ Some n → ⊥
      clash n h = cc

  -- nor is one of another number
  pub other_listed : (loan : Option Lent) (n : Lent) (p : Held) → loan ≡ Some n → is_held (loan_of n) p ≡ false → listed (mark_in LoanKind h p) (out_of h stays readings pins disks loan slots) ≡ 0
  other_listed loan n p is apart = unlisted_loan h p stays readings pins disks loan slots (λ m at e. clash m (some_lent_is (sym is ∙ at)) e)
    where
      some_lent_is : {m : Lent} → Some n ≡ Some m → n ≡ m
      some_lent_is h = cc

      clash : (m : Lent) → n ≡ m → loan_of m ≡ p → ⊥
      clash m same e = let yes : is_held (loan_of n) p ≡ true = subst (λ (q : Held). is_held (loan_of n) q ≡ true) (ap loan_of same ∙ e) (held_self (loan_of n)) in let no : true ≡ false = sym yes ∙ apart in cc
