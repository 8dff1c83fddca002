-- The loan that is out, by its mark.
use Rattle.std.proofs.Common.{◌≡◌, ◌<◌, List, sym, refl, ap, ◌∙◌, arith, true, false, Option, Some, None}
use Rattle.std.specs.Prelude.{sum_by}
use Rattle.pfc_core.specs.declared.held.Held.{Held}
use Rattle.pfc_core.specs.declared.slot.Slot.{Slot}
use Rattle.pfc_core.specs.declared.loan.Lent.{Lent}
use Rattle.pfc_core.specs.Marks.{Kind, StayKind, ReadingKind, TicketKind, PinKind, JobKind, DiskKind, LoanKind, kind_code, same, sees, listed, Loses}
use Rattle.pfc_core.specs.Out.{Home, mark_in, flight_of, loan_of, out_of}
use Rattle.pfc_core.proofs.Entries.{by_bool}
use Rattle.pfc_core.proofs.Weights.{weigh_out, slot_weight, loan_weight, sum_zero, unseen, same_kind, same_instance, same_path, same_size, same_block_size, same_number, same_client, same_block, same_flight, same_owner}
use Rattle.pfc_core.proofs.Outs.{flight_by, mark_at, loses_loan}

-- this loan is out, and no other is
pub record IsLoanOut (a h : Home) (p : Held) (loan : Option Lent) : Type 0 where
  pub lent : Lent
  pub some : loan ≡ Some lent
  pub home : a ≡ h
  pub held : p ≡ loan_of lent

module _ (a h : Home) (p : Held) (stays readings pins disks : List Held) (slots : List Slot) where
  other : (kind : Kind) (ps : List Held) → (kind_code LoanKind ≡ kind_code kind → ⊥) → sum_by (λ (q : Held). sees (mark_in LoanKind a p) (mark_in kind h q)) ps ≡ 0
  other kind ps apart = sum_zero (λ (q : Held). sees (mark_in LoanKind a p) (mark_in kind h q)) ps (λ q. unseen (mark_in LoanKind a p) (mark_in kind h q) (λ yes. apart (same_kind (mark_in LoanKind a p) (mark_in kind h q) yes)))

  flights : sum_by (slot_weight h (sees (mark_in LoanKind a p))) slots ≡ 0
  flights = sum_zero (slot_weight h (sees (mark_in LoanKind a p))) slots (λ s. flight_by (sees (mark_in LoanKind a p)) s.landed s.job (mark_in TicketKind h (flight_of s)) (mark_in JobKind h (flight_of s))
      (unseen (mark_in LoanKind a p) (mark_in TicketKind h (flight_of s)) (λ yes. ticket (same_kind (mark_in LoanKind a p) (mark_in TicketKind h (flight_of s)) yes)))
      (unseen (mark_in LoanKind a p) (mark_in JobKind h (flight_of s)) (λ yes. job (same_kind (mark_in LoanKind a p) (mark_in JobKind h (flight_of s)) yes))))
    where
      ticket : kind_code LoanKind ≡ kind_code TicketKind → ⊥
      ticket e = absurd cc

      job : kind_code LoanKind ≡ kind_code JobKind → ⊥
      job e = absurd cc

  -- only the loan can be seen
  seen : (loan : Option Lent) → listed (mark_in LoanKind a p) (out_of h stays readings pins disks loan slots) ≡ loan_weight h (sees (mark_in LoanKind a p)) loan
  seen loan = omega (arith, weigh_out (sees (mark_in LoanKind a p)) h stays readings pins disks loan slots, other StayKind stays (λ e. absurd cc), other ReadingKind readings (λ e. absurd cc), other PinKind pins (λ e. absurd cc), other DiskKind disks (λ e. absurd cc), flights)

  pub loan_out : (loan : Option Lent) → 0 < listed (mark_in LoanKind a p) (out_of h stays readings pins disks loan slots) → IsLoanOut a h p loan
  loan_out None some = absurd (omega (arith, some, seen None))
  loan_out (Some n) some =
      let m = mark_in LoanKind a p in let l = mark_in LoanKind h (loan_of n) in
      by_bool (same m l)
      (λ yes. record {
        lent = n;
        some = refl;
        home = λ i. record { instance = same_instance m l yes i; path = same_path m l yes i; size = same_size m l yes i; block_size = same_block_size m l yes i };
        held = λ i. record { number = same_number m l yes i; client = same_client m l yes i; block = same_block m l yes i; flight = same_flight m l yes i; owner = same_owner m l yes i };
      })
      (λ off. let none = unseen m l (λ yes. let clash : true ≡ false = sym yes ∙ off in absurd cc) in absurd (omega (arith, some, seen (Some n), none)))

  -- it comes back
  pub loan_back : (loan : Option Lent) → IsLoanOut a h p loan → Loses (out_of h stays readings pins disks loan slots) (mark_in LoanKind a p) (out_of h stays readings pins disks None slots)
  loan_back loan out w =
      let mark = ap w (mark_at LoanKind a h p (loan_of out.lent) out.home out.held) in let list = ap (λ (o : Option Lent). sum_by w (out_of h stays readings pins disks o slots)) out.some in
      omega (arith, mark, list, loses_loan h stays readings pins disks slots out.lent w)
