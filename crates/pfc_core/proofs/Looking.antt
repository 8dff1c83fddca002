-- What a pin that is out finds.
use Rattle.std.proofs.Common.{◌≡◌, ℕ, ◌<◌, List, ap, sym, subst, arith, Bool, true, false, Option, eq-eqb}
use Rattle.std.specs.Prelude.{count_by, if◌then◌else◌}
use Rattle.pfc_core.specs.declared.slot.Slot.{Slot}
use Rattle.pfc_core.specs.declared.held.Held.{Held}
use Rattle.pfc_core.specs.declared.loan.Lent.{Lent}
use Rattle.pfc_core.specs.Held.{is_held}
use Rattle.pfc_core.specs.Marks.{Mark, TicketKind, PinKind, sees, listed}
use Rattle.pfc_core.specs.Leaves.{is_ticket, tickets_on}
use Rattle.pfc_core.specs.Out.{Home, mark_in, flight_of, out_of}
use Rattle.pfc_core.specs.Fates.{IsOn}
use Rattle.pfc_core.proofs.Rooms.{slot_in_sum}
use Rattle.pfc_core.proofs.Flown.{weight_flying}
use Rattle.pfc_core.proofs.Weights.{weigh_out, slot_weight, listed_in}

module _ (h : Home) (stays readings pins disks : List Held) (loan : Option Lent) (slots : List Slot) where
  listed_here : (p : Held) → 0 < count_by (is_held p) pins → 0 < listed (mark_in PinKind h p) (out_of h stays readings pins disks loan slots)
  listed_here p some = omega (arith, some, weigh_out (sees (mark_in PinKind h p)) h stays readings pins disks loan slots, listed_in PinKind h p pins)

  -- a pin of this core that is kept is out
  pub listed_pin : (a : Home) (p : Held) → a ≡ h → 0 < count_by (is_held p) pins → 0 < listed (mark_in PinKind a p) (out_of h stays readings pins disks loan slots)
  listed_pin a p at some = subst (λ (b : Home). 0 < listed (mark_in PinKind b p) (out_of h stays readings pins disks loan slots)) (sym at) (listed_here p some)

  -- the ticket of its flight is out while that flies
  pub ticket_out : (p : Held) (x : Slot) → IsOn p slots x → x.landed ≡ false → 0 < tickets_on p.block p.flight (out_of h stays readings pins disks loan slots)
  ticket_out p x there out =
      let w : Mark → ℕ = λ m. if is_ticket p.block p.flight m then 1 else 0 in
      let b = eq-eqb x.block p.block there.block in let t = eq-eqb x.ticket p.flight there.ticket in
      let yes : is_ticket p.block p.flight (mark_in TicketKind h (flight_of x)) ≡ true = grind arith in
      let one : w (mark_in TicketKind h (flight_of x)) ≡ 1 = ap {B = ℕ} (λ (q : Bool). if q then 1 else 0) yes in
      omega (arith, one, weight_flying w h x out, slot_in_sum (slot_weight h w) p.block slots x there.at, weigh_out w h stays readings pins disks loan slots)
