-- What the list of all that is out gains and loses with slots: their tickets, jobs and pins.
use Rattle.std.proofs.Common.{◌≡◌, ℕ, ◌+◌, List, [], ◌∷◌, sym, refl, ap, ◌∙◌, subst, arith, Bool, true, false, Option, Some, None, ◌==◌, eq-eqb}
use Rattle.std.specs.Prelude.{sum_by, if◌then◌else◌}
use Rattle.std.proofs.lemmas.List.Sums.{sum_by-cons}
use Rattle.pfc_core.specs.declared.slot.Slot.{Slot}
use Rattle.pfc_core.specs.declared.held.Held.{Held}
use Rattle.pfc_core.specs.declared.loan.Lent.{Lent}
use Rattle.pfc_core.specs.Held.{Puts, Takes}
use Rattle.pfc_core.specs.Marks.{Kind, StayKind, ReadingKind, TicketKind, PinKind, JobKind, DiskKind, kind_code, Mark, sees, listed, Gains, Loses, Swaps}
use Rattle.pfc_core.specs.Slots.{slot_of, IsSingle, ShelfView, Changes, landed_slot, fresh_slot, bumped, lowered, written_slot, ended_slot}
use Rattle.pfc_core.specs.Out.{Home, mark_in, flight_of, out_of}
use Rattle.std.proofs.lemmas.Bool.{eqb-true}
use Rattle.pfc_core.proofs.Numbered.{held_is}
use Rattle.pfc_core.proofs.Entries.{by_bool}
use Rattle.pfc_core.proofs.Weights.{weigh_out, slot_weight, other_loan, other_kind, same_kind, unseen, same_held}

-- what a slot weighs, by what it is
weight_of : (w : Mark → ℕ) (l b : Bool) (t j : Mark) → sum_by w (if l then (if b then j ∷ [] else []) else t ∷ []) ≡ (if l then (if b then w j else 0) else w t)
weight_of w true false t j = refl
weight_of w true true t j = omega arith
weight_of w false b t j = omega arith

slot_weighs : (w : Mark → ℕ) (h : Home) (s : Slot) → slot_weight h w s ≡ (if s.landed then (if s.job then w (mark_in JobKind h (flight_of s)) else 0) else w (mark_in TicketKind h (flight_of s)))
slot_weighs w h s = weight_of w s.landed s.job (mark_in TicketKind h (flight_of s)) (mark_in JobKind h (flight_of s))

pub weight_flying : (w : Mark → ℕ) (h : Home) (s : Slot) → s.landed ≡ false → slot_weight h w s ≡ w (mark_in TicketKind h (flight_of s))
weight_flying w h s l = slot_weighs w h s ∙ ap (λ (q : Bool). if q then (if s.job then w (mark_in JobKind h (flight_of s)) else 0) else w (mark_in TicketKind h (flight_of s))) l

-- its job is out
pub weight_waits : (w : Mark → ℕ) (h : Home) (s : Slot) → s.landed ≡ true → s.job ≡ true → slot_weight h w s ≡ w (mark_in JobKind h (flight_of s))
weight_waits w h s l d = slot_weighs w h s ∙ ap (λ (q : Bool). if q then (if s.job then w (mark_in JobKind h (flight_of s)) else 0) else w (mark_in TicketKind h (flight_of s))) l ∙ ap (λ (q : Bool). if q then w (mark_in JobKind h (flight_of s)) else 0) d

-- its job has ended
pub weight_idle : (w : Mark → ℕ) (h : Home) (s : Slot) → s.landed ≡ true → s.job ≡ false → slot_weight h w s ≡ 0
weight_idle w h s l d = slot_weighs w h s ∙ ap (λ (q : Bool). if q then (if s.job then w (mark_in JobKind h (flight_of s)) else 0) else w (mark_in TicketKind h (flight_of s))) l ∙ ap (λ (q : Bool). if q then w (mark_in JobKind h (flight_of s)) else 0) d

module _ (h : Home) (stays readings pins disks : List Held) (loan : Option Lent) (x : Slot) (old new : ShelfView) where
  pub land_swaps : Changes x.block (Some x) (Some (landed_slot x)) old new → x.landed ≡ false → Swaps (out_of h stays readings pins disks loan old.slots) (mark_in TicketKind h (flight_of x)) (mark_in JobKind h (flight_of x)) (out_of h stays readings pins disks loan new.slots)
  land_swaps moved out w = omega (arith, weigh_out w h stays readings pins disks loan old.slots, weigh_out w h stays readings pins disks loan new.slots, moved.weighs (slot_weight h w), weight_flying w h x out, weight_waits w h (landed_slot x) refl refl)

  pub fail_loses : Changes x.block (Some x) None old new → x.landed ≡ false → Loses (out_of h stays readings pins disks loan old.slots) (mark_in TicketKind h (flight_of x)) (out_of h stays readings pins disks loan new.slots)
  fail_loses moved out w = omega (arith, weigh_out w h stays readings pins disks loan old.slots, weigh_out w h stays readings pins disks loan new.slots, moved.weighs (slot_weight h w), weight_flying w h x out)

pub single_zero : (f : Slot → ℕ) (ss : List Slot) → IsSingle ss → ((x : Slot) → slot_of x.block ss ≡ Some x → f x ≡ 0) → sum_by f ss ≡ 0
single_zero f [] single none = refl
single_zero f (s ∷ ss) single none =
    let first = none s (ap (λ (q : Bool). if q then Some s else slot_of s.block ss) (eq-eqb s.block s.block refl)) in
    let rest = single_zero f ss single.1 (λ x at. none x (by_bool (s.block == x.block)
    (λ yes. let same : s.block ≡ x.block = eqb-true s.block x.block yes in let gone : slot_of x.block ss ≡ None = subst (λ (k : ℕ). slot_of k ss ≡ None) same single.0 in let clash : None ≡ Some x = sym gone ∙ at in absurd cc)
    (λ off. ap (λ (q : Bool). if q then Some s else slot_of x.block ss) off ∙ at))) in
    omega (arith, sum_by-cons f s ss, first, rest)

seen_flight : (kind : Kind) (h : Home) (p : Held) (x : Slot) → (flight_of x ≡ p → ⊥) → sees (mark_in kind h p) (mark_in kind h (flight_of x)) ≡ 0
seen_flight kind h p x apart = unseen (mark_in kind h p) (mark_in kind h (flight_of x)) (λ yes. apart (held_is p (flight_of x) (sym (same_held kind h p (flight_of x)) ∙ yes)))

pub by_slot : (w : Mark → ℕ) (h : Home) (x : Slot) → (x.landed ≡ false → w (mark_in TicketKind h (flight_of x)) ≡ 0) → (x.landed ≡ true → x.job ≡ true → w (mark_in JobKind h (flight_of x)) ≡ 0) → slot_weight h w x ≡ 0
by_slot w h x t j = by_bool x.landed
    (λ l. by_bool x.job (λ d. weight_waits w h x l d ∙ j l d) (λ d. weight_idle w h x l d))
    (λ l. weight_flying w h x l ∙ t l)

module _ (h : Home) (p : Held) (stays readings pins disks : List Held) (loan : Option Lent) (slots : List Slot) where
  pub unlisted_ticket : IsSingle slots → ((x : Slot) → slot_of p.block slots ≡ Some x → x.landed ≡ false → flight_of x ≡ p → ⊥) → listed (mark_in TicketKind h p) (out_of h stays readings pins disks loan slots) ≡ 0
  unlisted_ticket single none =
      let m = mark_in TicketKind h p in
      let flights = single_zero (slot_weight h (sees m)) slots single (λ x at. by_slot (sees m) h x
      (λ l. seen_flight TicketKind h p x (λ e. none x (subst (λ (k : ℕ). slot_of k slots ≡ Some x) (ap (λ (q : Held). q.block) e) at) l e))
      (λ l d. unseen m (mark_in JobKind h (flight_of x)) (λ yes. absurd (apart_kinds (same_kind m (mark_in JobKind h (flight_of x)) yes))))) in
      omega (arith, weigh_out (sees m) h stays readings pins disks loan slots, other_kind TicketKind StayKind h p stays (λ e. absurd cc), other_kind TicketKind ReadingKind h p readings (λ e. absurd cc), other_kind TicketKind PinKind h p pins (λ e. absurd cc), other_kind TicketKind DiskKind h p disks (λ e. absurd cc), other_loan TicketKind h p loan (λ e. absurd cc), flights)
    where
      apart_kinds : kind_code TicketKind ≡ kind_code JobKind → ⊥
      apart_kinds e = absurd cc

  pub unlisted_job : IsSingle slots → ((x : Slot) → slot_of p.block slots ≡ Some x → x.landed ≡ true → x.job ≡ true → flight_of x ≡ p → ⊥) → listed (mark_in JobKind h p) (out_of h stays readings pins disks loan slots) ≡ 0
  unlisted_job single none =
      let m = mark_in JobKind h p in
      let flights = single_zero (slot_weight h (sees m)) slots single (λ x at. by_slot (sees m) h x
      (λ l. unseen m (mark_in TicketKind h (flight_of x)) (λ yes. absurd (apart_kinds (same_kind m (mark_in TicketKind h (flight_of x)) yes))))
      (λ l d. seen_flight JobKind h p x (λ e. none x (subst (λ (k : ℕ). slot_of k slots ≡ Some x) (ap (λ (q : Held). q.block) e) at) l d e))) in
      omega (arith, weigh_out (sees m) h stays readings pins disks loan slots, other_kind JobKind StayKind h p stays (λ e. absurd cc), other_kind JobKind ReadingKind h p readings (λ e. absurd cc), other_kind JobKind PinKind h p pins (λ e. absurd cc), other_kind JobKind DiskKind h p disks (λ e. absurd cc), other_loan JobKind h p loan (λ e. absurd cc), flights)
    where
      apart_kinds : kind_code JobKind ≡ kind_code TicketKind → ⊥
      apart_kinds e = absurd cc

module _ (h : Home) (stays readings pins more disks : List Held) (loan : Option Lent) (p : Held) (old new : ShelfView) (put : Puts pins p more) where
  pub fetch_gains : (b t n : ℕ) → Changes b None (Some (fresh_slot b t n)) old new → (w : Mark → ℕ) → sum_by w (out_of h stays readings more disks loan new.slots) ≡ sum_by w (out_of h stays readings pins disks loan old.slots) + w (mark_in TicketKind h (flight_of (fresh_slot b t n))) + w (mark_in PinKind h p)
  fetch_gains b t n moved w = omega (arith, weigh_out w h stays readings pins disks loan old.slots, weigh_out w h stays readings more disks loan new.slots, moved.weighs (slot_weight h w), weight_flying w h (fresh_slot b t n) refl, put.each (λ (q : Held). w (mark_in PinKind h q)))

  pub pin_gains : (b : ℕ) (x : Slot) → Changes b (Some x) (Some (bumped x)) old new → Gains (out_of h stays readings pins disks loan old.slots) (mark_in PinKind h p) (out_of h stays readings more disks loan new.slots)
  pin_gains b x moved w =
      let same : slot_weight h w (bumped x) ≡ slot_weight h w x = refl in
      omega (arith, weigh_out w h stays readings pins disks loan old.slots, weigh_out w h stays readings more disks loan new.slots, moved.weighs (slot_weight h w), same, put.each (λ (q : Held). w (mark_in PinKind h q)))

module _ (h : Home) (stays readings disks : List Held) (loan : Option Lent) where
  pub loses_pin : (p : Held) (pins more : List Held) (slots : List Slot) → Takes p pins more → Loses (out_of h stays readings pins disks loan slots) (mark_in PinKind h p) (out_of h stays readings more disks loan slots)
  loses_pin p pins more slots take w = omega (arith, weigh_out w h stays readings pins disks loan slots, weigh_out w h stays readings more disks loan slots, take.each (λ (q : Held). w (mark_in PinKind h q)))

  pub less_loses : (p : Held) (pins more : List Held) (b : ℕ) (x : Slot) (old new : ShelfView) → Takes p pins more → Changes b (Some x) (Some (lowered x)) old new → Loses (out_of h stays readings pins disks loan old.slots) (mark_in PinKind h p) (out_of h stays readings more disks loan new.slots)
  less_loses p pins more b x old new take moved w =
      let same : slot_weight h w (lowered x) ≡ slot_weight h w x = refl in
      omega (arith, weigh_out w h stays readings pins disks loan old.slots, weigh_out w h stays readings more disks loan new.slots, moved.weighs (slot_weight h w), same, take.each (λ (q : Held). w (mark_in PinKind h q)))

  pub left_loses : (p : Held) (pins more : List Held) (b : ℕ) (x : Slot) (old new : ShelfView) → Takes p pins more → Changes b (Some x) None old new → x.landed ≡ true → x.job ≡ false → Loses (out_of h stays readings pins disks loan old.slots) (mark_in PinKind h p) (out_of h stays readings more disks loan new.slots)
  left_loses p pins more b x old new take moved l d w = omega (arith, weigh_out w h stays readings pins disks loan old.slots, weigh_out w h stays readings more disks loan new.slots, moved.weighs (slot_weight h w), weight_idle w h x l d, take.each (λ (q : Held). w (mark_in PinKind h q)))

  -- the job goes, and the block stays
  pub end_loses : (pins : List Held) (b : ℕ) (x : Slot) (old new : ShelfView) → Changes b (Some x) (Some (ended_slot x)) old new → x.landed ≡ true → x.job ≡ true → Loses (out_of h stays readings pins disks loan old.slots) (mark_in JobKind h (flight_of x)) (out_of h stays readings pins disks loan new.slots)
  end_loses pins b x old new moved l d w = omega (arith, weigh_out w h stays readings pins disks loan old.slots, weigh_out w h stays readings pins disks loan new.slots, moved.weighs (slot_weight h w), weight_waits w h x l d, weight_idle w h (ended_slot x) l refl)

  -- the job goes, and the block with it
  pub end_left_loses : (pins : List Held) (b : ℕ) (x : Slot) (old new : ShelfView) → Changes b (Some x) None old new → x.landed ≡ true → x.job ≡ true → Loses (out_of h stays readings pins disks loan old.slots) (mark_in JobKind h (flight_of x)) (out_of h stays readings pins disks loan new.slots)
  end_left_loses pins b x old new moved l d w = omega (arith, weigh_out w h stays readings pins disks loan old.slots, weigh_out w h stays readings pins disks loan new.slots, moved.weighs (slot_weight h w), weight_waits w h x l d)

  -- a block that is written changes nothing of what is out
  pub written_out : (pins : List Held) (b : ℕ) (x : Slot) (old new : ShelfView) → Changes b (Some x) (Some (written_slot x)) old new → (w : Mark → ℕ) → sum_by w (out_of h stays readings pins disks loan new.slots) ≡ sum_by w (out_of h stays readings pins disks loan old.slots)
  written_out pins b x old new moved w =
      let same : slot_weight h w (written_slot x) ≡ slot_weight h w x = refl in
      omega (arith, weigh_out w h stays readings pins disks loan old.slots, weigh_out w h stays readings pins disks loan new.slots, moved.weighs (slot_weight h w), same)
