-- What the list of all that is out gains and loses.
use Rattle.std.proofs.Common.{◌≡◌, ℕ, List, [], ◌∷◌, length, sym, refl, ap, ◌∙◌, subst, arith, Bool, true, false, Option, Some, None, ◌==◌, ◌&&◌, eq-eqb, tests}
use Rattle.std.specs.Prelude.{sum_by, count_by, if◌then◌else◌}
use Rattle.std.proofs.lemmas.List.Sums.{sum_by-cons}
use Rattle.pfc_log.specs.declared.entry.Entry.{Entry}
use Rattle.pfc_log.specs.declared.start.Start.{Start}
use Rattle.pfc_log.specs.Lawful.{IsComplete}
use Rattle.pfc_core.specs.declared.slot.Slot.{Slot}
use Rattle.pfc_core.specs.declared.held.Held.{Held}
use Rattle.pfc_core.specs.declared.loan.Lent.{Lent}
use Rattle.pfc_core.specs.Held.{Puts, Takes, is_held}
use Rattle.pfc_core.specs.Marks.{Kind, StayKind, ReadingKind, TicketKind, PinKind, JobKind, DiskKind, LoanKind, kind_code, Mark, sees, listed, Gains, Loses, Swaps}
use Rattle.pfc_core.specs.Slots.{slot_of, ShelfView, Changes}
use Rattle.pfc_core.specs.Pins.{on, is_guest}
use Rattle.pfc_core.specs.Tied.{Fine, IsFine, IsAlive}
use Rattle.pfc_core.specs.Out.{Home, mark_in, flight_of, loan_of, out_of}
use Rattle.pfc_core.specs.Homes.{home_of}
use Rattle.pfc_core.specs.View.{CoreView}
use Rattle.pfc_core.specs.Kept.{IsHeld, AreIn}
use Rattle.pfc_core.specs.Calls.{foreign}
use Rattle.pfc_core.proofs.Numbered.{held_is}
use Rattle.pfc_core.proofs.Weights.{weigh_out, slot_weight, loan_weight, loan_zero, loan_one, other_loan, listed_in, other_kind, sum_zero, same_kind, same_instance, same_path, same_size, same_block_size, path_self, unseen, same_held}

module _ (h : Home) (readings pins disks : List Held) (loan : Option Lent) (slots : List Slot) where
  pub gains_stay : (p : Held) (stays more : List Held) → Puts stays p more → Gains (out_of h stays readings pins disks loan slots) (mark_in StayKind h p) (out_of h more readings pins disks loan slots)
  gains_stay p stays more put w = omega (arith, weigh_out w h stays readings pins disks loan slots, weigh_out w h more readings pins disks loan slots, put.each (λ (q : Held). w (mark_in StayKind h q)))

  pub loses_stay : (p : Held) (stays more : List Held) → Takes p stays more → Loses (out_of h stays readings pins disks loan slots) (mark_in StayKind h p) (out_of h more readings pins disks loan slots)
  loses_stay p stays more take w = omega (arith, weigh_out w h stays readings pins disks loan slots, weigh_out w h more readings pins disks loan slots, take.each (λ (q : Held). w (mark_in StayKind h q)))

module _ (h : Home) (stays pins disks : List Held) (loan : Option Lent) (slots : List Slot) where
  pub gains_reading : (p : Held) (readings more : List Held) → Puts readings p more → Gains (out_of h stays readings pins disks loan slots) (mark_in ReadingKind h p) (out_of h stays more pins disks loan slots)
  gains_reading p readings more put w = omega (arith, weigh_out w h stays readings pins disks loan slots, weigh_out w h stays more pins disks loan slots, put.each (λ (q : Held). w (mark_in ReadingKind h q)))

  pub loses_reading : (p : Held) (readings more : List Held) → Takes p readings more → Loses (out_of h stays readings pins disks loan slots) (mark_in ReadingKind h p) (out_of h stays more pins disks loan slots)
  loses_reading p readings more take w = omega (arith, weigh_out w h stays readings pins disks loan slots, weigh_out w h stays more pins disks loan slots, take.each (λ (q : Held). w (mark_in ReadingKind h q)))

module _ (h : Home) (stays readings pins : List Held) (loan : Option Lent) (slots : List Slot) where
  pub gains_disk : (p : Held) (disks more : List Held) → Puts disks p more → Gains (out_of h stays readings pins disks loan slots) (mark_in DiskKind h p) (out_of h stays readings pins more loan slots)
  gains_disk p disks more put w = omega (arith, weigh_out w h stays readings pins disks loan slots, weigh_out w h stays readings pins more loan slots, put.each (λ (q : Held). w (mark_in DiskKind h q)))

  pub loses_disk : (p : Held) (disks more : List Held) → Takes p disks more → Loses (out_of h stays readings pins disks loan slots) (mark_in DiskKind h p) (out_of h stays readings pins more loan slots)
  loses_disk p disks more take w = omega (arith, weigh_out w h stays readings pins disks loan slots, weigh_out w h stays readings pins more loan slots, take.each (λ (q : Held). w (mark_in DiskKind h q)))

module _ (h : Home) (stays readings pins disks : List Held) (slots : List Slot) where
  pub gains_loan : (n : Lent) → Gains (out_of h stays readings pins disks None slots) (mark_in LoanKind h (loan_of n)) (out_of h stays readings pins disks (Some n) slots)
  gains_loan n w = omega (arith, weigh_out w h stays readings pins disks None slots, weigh_out w h stays readings pins disks (Some n) slots, loan_one w h n)

  pub loses_loan : (n : Lent) → Loses (out_of h stays readings pins disks (Some n) slots) (mark_in LoanKind h (loan_of n)) (out_of h stays readings pins disks None slots)
  loses_loan n w = omega (arith, weigh_out w h stays readings pins disks None slots, weigh_out w h stays readings pins disks (Some n) slots, loan_one w h n)

pub flight_by : (w : Mark → ℕ) (l b : Bool) (t j : Mark) → w t ≡ 0 → w j ≡ 0 → sum_by w (if l then (if b then j ∷ [] else []) else t ∷ []) ≡ 0
flight_by w true true t j a b = omega (arith, b)
flight_by w true false t j a b = refl
flight_by w false q t j a b = omega (arith, a)

-- a mark of another kind is not among the tickets and jobs
other_flight : (kind : Kind) (h : Home) (p : Held) (slots : List Slot) → (kind_code kind ≡ 2 → ⊥) → (kind_code kind ≡ 4 → ⊥) → sum_by (slot_weight h (sees (mark_in kind h p))) slots ≡ 0
other_flight kind h p slots a b = sum_zero (slot_weight h (sees (mark_in kind h p))) slots
    (λ s. flight_by (sees (mark_in kind h p)) s.landed s.job (mark_in TicketKind h (flight_of s)) (mark_in JobKind h (flight_of s))
    (unseen (mark_in kind h p) (mark_in TicketKind h (flight_of s)) (λ yes. a (same_kind (mark_in kind h p) (mark_in TicketKind h (flight_of s)) yes)))
    (unseen (mark_in kind h p) (mark_in JobKind h (flight_of s)) (λ yes. b (same_kind (mark_in kind h p) (mark_in JobKind h (flight_of s)) yes))))

module _ (h : Home) (p : Held) (stays readings pins disks : List Held) (loan : Option Lent) (slots : List Slot) where
  pub unlisted_stay : count_by (is_held p) stays ≡ 0 → listed (mark_in StayKind h p) (out_of h stays readings pins disks loan slots) ≡ 0
  unlisted_stay none = omega (
    arith,
    none,
    weigh_out (sees (mark_in StayKind h p)) h stays readings pins disks loan slots,
    listed_in StayKind h p stays,
    other_kind StayKind ReadingKind h p readings (λ e. absurd cc),
    other_kind StayKind PinKind h p pins (λ e. absurd cc),
    other_kind StayKind DiskKind h p disks (λ e. absurd cc),
    other_loan StayKind h p loan (λ e. absurd cc),
    other_flight StayKind h p slots (λ e. absurd cc) (λ e. absurd cc),
  )

  pub unlisted_reading : count_by (is_held p) readings ≡ 0 → listed (mark_in ReadingKind h p) (out_of h stays readings pins disks loan slots) ≡ 0
  unlisted_reading none = omega (
    arith,
    none,
    weigh_out (sees (mark_in ReadingKind h p)) h stays readings pins disks loan slots,
    listed_in ReadingKind h p readings,
    other_kind ReadingKind StayKind h p stays (λ e. absurd cc),
    other_kind ReadingKind PinKind h p pins (λ e. absurd cc),
    other_kind ReadingKind DiskKind h p disks (λ e. absurd cc),
    other_loan ReadingKind h p loan (λ e. absurd cc),
    other_flight ReadingKind h p slots (λ e. absurd cc) (λ e. absurd cc),
  )

  pub unlisted_pin : count_by (is_held p) pins ≡ 0 → listed (mark_in PinKind h p) (out_of h stays readings pins disks loan slots) ≡ 0
  unlisted_pin none = omega (
    arith,
    none,
    weigh_out (sees (mark_in PinKind h p)) h stays readings pins disks loan slots,
    listed_in PinKind h p pins,
    other_kind PinKind StayKind h p stays (λ e. absurd cc),
    other_kind PinKind ReadingKind h p readings (λ e. absurd cc),
    other_kind PinKind DiskKind h p disks (λ e. absurd cc),
    other_loan PinKind h p loan (λ e. absurd cc),
    other_flight PinKind h p slots (λ e. absurd cc) (λ e. absurd cc),
  )

  pub unlisted_disk : count_by (is_held p) disks ≡ 0 → listed (mark_in DiskKind h p) (out_of h stays readings pins disks loan slots) ≡ 0
  unlisted_disk none = omega (
    arith,
    none,
    weigh_out (sees (mark_in DiskKind h p)) h stays readings pins disks loan slots,
    listed_in DiskKind h p disks,
    other_kind DiskKind StayKind h p stays (λ e. absurd cc),
    other_kind DiskKind ReadingKind h p readings (λ e. absurd cc),
    other_kind DiskKind PinKind h p pins (λ e. absurd cc),
    other_loan DiskKind h p loan (λ e. absurd cc),
    other_flight DiskKind h p slots (λ e. absurd cc) (λ e. absurd cc),
  )

  -- a loan of another number, or where none is out
  pub unlisted_loan : ((n : Lent) → loan ≡ Some n → loan_of n ≡ p → ⊥) → listed (mark_in LoanKind h p) (out_of h stays readings pins disks loan slots) ≡ 0
  unlisted_loan none = omega (
    arith,
    weigh_out (sees (mark_in LoanKind h p)) h stays readings pins disks loan slots,
    unseen_loan loan none,
    other_kind LoanKind StayKind h p stays (λ e. absurd cc),
    other_kind LoanKind ReadingKind h p readings (λ e. absurd cc),
    other_kind LoanKind PinKind h p pins (λ e. absurd cc),
    other_kind LoanKind DiskKind h p disks (λ e. absurd cc),
    other_flight LoanKind h p slots (λ e. absurd cc) (λ e. absurd cc),
  )
    where
      unseen_loan : (o : Option Lent) → ((n : Lent) → o ≡ Some n → loan_of n ≡ p → ⊥) → loan_weight h (sees (mark_in LoanKind h p)) o ≡ 0
      unseen_loan None none = refl
      unseen_loan (Some n) none = omega (arith, loan_one (sees (mark_in LoanKind h p)) h n, unseen (mark_in LoanKind h p) (mark_in LoanKind h (loan_of n)) (λ yes. none n refl (held_is p (loan_of n) (sym (same_held LoanKind h p (loan_of n)) ∙ yes))))

home_eq : (a h : Home) → a.instance ≡ h.instance → a.path ≡ h.path → a.size ≡ h.size → a.block_size ≡ h.block_size → a ≡ h
home_eq a h p q r s = λ i. record { instance = p i; path = q i; size = r i; block_size = s i }

unseen_at : (kind other : Kind) (a h : Home) (p q : Held) → (a ≡ h → ⊥) → sees (mark_in kind a p) (mark_in other h q) ≡ 0
unseen_at kind other a h p q apart = unseen (mark_in kind a p) (mark_in other h q)
    (λ yes. apart (home_eq a h (same_instance (mark_in kind a p) (mark_in other h q) yes) (same_path (mark_in kind a p) (mark_in other h q) yes) (same_size (mark_in kind a p) (mark_in other h q) yes) (same_block_size (mark_in kind a p) (mark_in other h q) yes)))

-- a token of another core or another file is not out here
pub unlisted_elsewhere : (kind : Kind) (a h : Home) (p : Held) (stays readings pins disks : List Held) (loan : Option Lent) (slots : List Slot) → (a ≡ h → ⊥) → listed (mark_in kind a p) (out_of h stays readings pins disks loan slots) ≡ 0
unlisted_elsewhere kind a h p stays readings pins disks loan slots apart =
    let m = mark_in kind a p in
    let none = λ (other : Kind) (ps : List Held). sum_zero (λ (q : Held). sees m (mark_in other h q)) ps (λ q. unseen_at kind other a h p q apart) in
    let flights = sum_zero (slot_weight h (sees m)) slots (λ s. flight_by (sees m) s.landed s.job (mark_in TicketKind h (flight_of s)) (mark_in JobKind h (flight_of s)) (unseen_at kind TicketKind a h p (flight_of s) apart) (unseen_at kind JobKind a h p (flight_of s) apart)) in
    let lent = loan_zero (sees m) h loan (λ n. unseen_at kind LoanKind a h p (loan_of n) apart) in
    omega (arith, weigh_out (sees m) h stays readings pins disks loan slots, none StayKind stays, none ReadingKind readings, none PinKind pins, none DiskKind disks, lent, flights)

abbrev home_of_view : CoreView → Home
home_of_view v = record { instance = v.instance; path = v.path; size = v.size; block_size = v.block_size }

own_mark : (v : CoreView) (kind : Kind) (p : Held) → foreign v (mark_in kind (home_of_view v) p) ≡ 0
own_mark v kind p =
    let a = eq-eqb v.instance v.instance refl in let b = path_self v.path in let c = eq-eqb v.size v.size refl in let d = eq-eqb v.block_size v.block_size refl in
    grind arith

pub own_out : (v : CoreView) (stays readings pins disks : List Held) (loan : Option Lent) (slots : List Slot) → sum_by (foreign v) (out_of (home_of_view v) stays readings pins disks loan slots) ≡ 0
own_out v stays readings pins disks loan slots =
    let none = λ (kind : Kind) (ps : List Held). sum_zero (λ (q : Held). foreign v (mark_in kind (home_of_view v) q)) ps (λ q. own_mark v kind q) in
    let flights = sum_zero (slot_weight (home_of_view v) (foreign v)) slots (λ s. flight_by (foreign v) s.landed s.job (mark_in TicketKind (home_of_view v) (flight_of s)) (mark_in JobKind (home_of_view v) (flight_of s)) (own_mark v TicketKind (flight_of s)) (own_mark v JobKind (flight_of s))) in
    let lent = loan_zero (foreign v) (home_of_view v) loan (λ n. own_mark v LoanKind (loan_of n)) in
    omega (arith, weigh_out (foreign v) (home_of_view v) stays readings pins disks loan slots, none StayKind stays, none ReadingKind readings, none PinKind pins, none DiskKind disks, lent, flights)

pub nil_of : {A : Type 0} (xs : List A) → length xs ≡ 0 → xs ≡ []
nil_of [] h = refl
nil_of (x ∷ xs) h = absurd (omega arith)

nil_sum : {X : Type 0} (w : X → ℕ) (xs : List X) → ((x : X) → w x ≡ 1) → sum_by w xs ≡ 0 → xs ≡ []
nil_sum w [] all h = refl
nil_sum w (x ∷ xs) all h = let e = all x in absurd (omega (arith, sum_by-cons w x xs, h))

pub nothing_of : (h : Home) (stays readings pins disks : List Held) (loan : Option Lent) (slots : List Slot) → stays ≡ [] → readings ≡ [] → pins ≡ [] → disks ≡ [] → loan ≡ None → slots ≡ [] → out_of h stays readings pins disks loan slots ≡ []
nothing_of h stays readings pins disks loan slots a b c d e f =
    ap (λ (l : List Held). out_of h l readings pins disks loan slots) a ∙ ap (λ (l : List Held). out_of h [] l pins disks loan slots) b ∙ ap (λ (l : List Held). out_of h [] [] l disks loan slots) c
    ∙ ap (λ (l : List Held). out_of h [] [] [] l loan slots) d ∙ ap (λ (o : Option Lent). out_of h [] [] [] [] o slots) e ∙ ap (λ (l : List Slot). out_of h [] [] [] [] None l) f

idle_by : (l b : Bool) (t j : Mark) → sum_by (λ (m : Mark). 1) (if l then (if b then j ∷ [] else []) else t ∷ []) ≡ 0 → (l ≡ true) × (b ≡ false)
idle_by true false t j h = (refl, refl)
idle_by true true t j h = absurd (omega arith)
idle_by false b t j h = absurd (omega arith)

no_loan : (h : Home) (loan : Option Lent) → loan_weight h (λ (m : Mark). 1) loan ≡ 0 → loan ≡ None
no_loan h None zero_is = refl
no_loan h (Some n) zero_is = absurd (omega (arith, zero_is, loan_one (λ (m : Mark). 1) h n))

no_slots : (first : Start) (es : List Entry) (n : ℕ) (h : Home) (slots : List Slot) (pins : List Held) → IsHeld first es n slots pins → pins ≡ [] → sum_by (slot_weight h (λ (m : Mark). 1)) slots ≡ 0 → slots ≡ []
no_slots first es n h [] pins held none zero_is = refl
no_slots first es n h (s ∷ ss) pins held none zero_is =
    let at : slot_of s.block (s ∷ ss) ≡ Some s = ap (λ (q : Bool). if q then Some s else slot_of s.block ss) (eq-eqb s.block s.block refl) in
    let fine : IsFine es pins s.block s = subst (λ (o : Option Slot). Fine es pins s.block o) at (held.tied.fine s.block) in
    let alive : IsAlive (Some s) = subst IsAlive at (held.alive s.block) in
    let light : slot_weight h (λ (m : Mark). 1) s ≡ 0 = omega (arith, sum_by-cons (slot_weight h (λ (m : Mark). 1)) s ss, zero_is) in
    let idle = idle_by s.landed s.job (mark_in TicketKind h (flight_of s)) (mark_in JobKind h (flight_of s)) light in
    let some = alive idle.0 idle.1 in
    let count : on s.block s.ticket pins ≡ 0 = ap (λ (l : List Held). on s.block s.ticket l) none in
    absurd (omega (arith, some, count, fine.pinned))

-- where no token is out, nothing is kept
pub nothing_out : (first : Start) (es : List Entry) (n : ℕ) (h : Home) (stays readings pins disks : List Held) (loan : Option Lent) (slots : List Slot) → IsHeld first es n slots pins → out_of h stays readings pins disks loan slots ≡ [] → (stays ≡ []) × (readings ≡ []) × (pins ≡ []) × (disks ≡ []) × (loan ≡ None) × (slots ≡ [])
nothing_out first es n h stays readings pins disks loan slots held none =
    let zero_is : sum_by (λ (m : Mark). 1) (out_of h stays readings pins disks loan slots) ≡ 0 = ap (sum_by (λ (m : Mark). 1)) none in
    let all = weigh_out (λ (m : Mark). 1) h stays readings pins disks loan slots in
    let c : pins ≡ [] = nil_sum (λ (p : Held). 1) pins (λ p. refl) (omega (arith, zero_is, all)) in
    (nil_sum (λ (p : Held). 1) stays (λ p. refl) (omega (arith, zero_is, all)), nil_sum (λ (p : Held). 1) readings (λ p. refl) (omega (arith, zero_is, all)), c, nil_sum (λ (p : Held). 1) disks (λ p. refl) (omega (arith, zero_is, all)), no_loan h loan (omega (arith, zero_is, all)), no_slots first es n h slots pins held c (omega (arith, zero_is, all)))

pub complete_of : (first : Start) (es : List Entry) (n : ℕ) (slots : List Slot) (pins stays : List Held) → IsHeld first es n slots pins → AreIn es stays → slots ≡ [] → stays ≡ [] → IsComplete first es
complete_of first es n slots pins stays held guests none alone = record {
  lawful = held.well.lawful;
  empty = λ i. subst (λ (o : Option Slot). Fine es pins i o) (ap (λ (l : List Slot). slot_of i l) none) (held.tied.fine i);
  shut = λ m. let e = guests.each m in let z : count_by (is_guest m) stays ≡ 0 = ap (λ (l : List Held). count_by (is_guest m) l) alone in omega arith;
}

pub zeros_of : (a b c d : ℕ) → (a == 0 && b == 0 && c == 0 && d == 0) ≡ true → (a ≡ 0) × (b ≡ 0) × (c ≡ 0) × (d ≡ 0)
zeros_of a b c d h = (grind (arith, tests), grind (arith, tests), grind (arith, tests), grind (arith, tests))

pub all_zeros : (a b c d : ℕ) → a ≡ 0 → b ≡ 0 → c ≡ 0 → d ≡ 0 → (a == 0 && b == 0 && c == 0 && d == 0) ≡ true
all_zeros a b c d p q r s = let e = eq-eqb a 0 p in let f = eq-eqb b 0 q in let g = eq-eqb c 0 r in let i = eq-eqb d 0 s in grind arith

pub mark_at : (kind : Kind) (a h : Home) (p q : Held) → a ≡ h → p ≡ q → mark_in kind a p ≡ mark_in kind h q
mark_at kind a h p q at held = λ i. mark_in kind (at i) (held i)

-- the same where the token's file is the core's
pub at_home : (kind : Kind) (a h : Home) (p : Held) (out : List Mark) → a ≡ h → listed (mark_in kind h p) out ≡ 0 → listed (mark_in kind a p) out ≡ 0
at_home kind a h p out at none = subst (λ (b : Home). listed (mark_in kind b p) out ≡ 0) (sym at) none

-- a change of one slot and the fetch that it is of
pub swaps_at : (a h : Home) (q p : Held) (old new : List Mark) → a ≡ h → q ≡ p → Swaps old (mark_in TicketKind h p) (mark_in JobKind h p) new → Swaps old (mark_in TicketKind a q) (mark_in JobKind a q) new
swaps_at a h q p old new at is swaps w = let t = ap w (mark_at TicketKind a h q p at is) in let j = ap w (mark_at JobKind a h q p at is) in omega (arith, t, j, swaps w)

pub loses_at : (kind : Kind) (a h : Home) (q p : Held) (old new : List Mark) → a ≡ h → q ≡ p → Loses old (mark_in kind h p) new → Loses old (mark_in kind a q) new
loses_at kind a h q p old new at is loses w = let t = ap w (mark_at kind a h q p at is) in omega (arith, t, loses w)

pub home_moved : (i b : ℕ) (was is : Option Slot) (old new : ShelfView) → Changes b was is old new → home_of i new ≡ home_of i old
home_moved i b was is old new moved = λ j. record { instance = i; path = moved.path j; size = moved.size j; block_size = moved.block_size j }

pub gains_at : (kind : Kind) (a h : Home) (q p : Held) (old new : List Mark) → a ≡ h → q ≡ p → Gains old (mark_in kind h p) new → Gains old (mark_in kind a q) new
gains_at kind a h q p old new at is gains w = let t = ap w (mark_at kind a h q p at is) in omega (arith, t, gains w)
