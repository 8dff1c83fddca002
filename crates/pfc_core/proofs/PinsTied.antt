-- What a pin that comes or goes does to what ties slots and pins to the log.
use Rattle.std.proofs.Common.{◌≡◌, ◌≢◌, ◌⊎◌, ℕ, ◌+◌, ◌<◌, ◌≤◌, ◌-◌, List, [], ◌∷◌, ◌++◌, take, sym, refl, ap, ◌∙◌, subst, inl, inr, arith, Bool, true, false, Option, Some, None, if◌then◌else◌, ◌==◌, ◌&&◌, eq-eqb, ne_eqb, tests}
use mathlib.Core.Logic.{dite}
use native.Mathlib.Decide.{ℕ_discrete}
use Rattle.pfc_log.specs.declared.entry.Entry.{Entry}
use Rattle.pfc_log.specs.declared.entry.Entry.TheVariants.{Begin, Direct}
use Rattle.pfc_log.specs.Views.{Place, Away, Flying, place, moves, times, begins, is_begin, is_landed, is_failed, is_lost, is_asked}
use Rattle.pfc_log.proofs.More.{place_more, times_more, times_none, times_one}
use Rattle.pfc_core.specs.declared.slot.Slot.{Slot}
use Rattle.pfc_core.specs.declared.held.Held.{Held}
use Rattle.pfc_core.specs.Slots.{ticket_in, bumped, fresh_slot, lowered}
use Rattle.pfc_core.specs.Pins.{on, waits, is_on, is_wait}
use Rattle.pfc_core.specs.Held.{Puts, Takes}
use Rattle.pfc_log.specs.declared.entry.Way.TheVariants.{Lost}
use Rattle.pfc_core.specs.Tied.{IsTied, IsFine, Fine}
use Rattle.pfc_core.proofs.Tied.{by_bool, fine_all, fine_at, fine_other, here, if_no, if_yes, same_ticket, some_is, there}

on_put : (i t : ℕ) (p : Held) (pins more : List Held) → Puts pins p more → on i t more ≡ on i t pins + (if is_on i t p then 1 else 0)
on_put i t p pins more put = put.each (λ (x : Held). if is_on i t x then 1 else 0)

waits_put : (i n t : ℕ) (p : Held) (pins more : List Held) → Puts pins p more → waits i n t more ≡ waits i n t pins + (if is_wait i n t p then 1 else 0)
waits_put i n t p pins more put = put.each (λ (x : Held). if is_wait i n t x then 1 else 0)

on_yes : (p : Held) → is_on p.block p.flight p ≡ true
on_yes p = grind (arith, eq-eqb)

on_block : (i t : ℕ) (p : Held) → p.block ≢ i → is_on i t p ≡ false
on_block i t p n = grind (arith, ne_eqb)

on_ticket : (i t : ℕ) (p : Held) → p.flight ≢ t → is_on i t p ≡ false
on_ticket i t p n = grind (arith, ne_eqb)

on_more : (i t : ℕ) (p : Held) (pins more : List Held) → Puts pins p more → is_on i t p ≡ true → on i t more ≡ on i t pins + 1
on_more i t p pins more put h = on_put i t p pins more put ∙ ap (λ (q : Bool). on i t pins + (if q then 1 else 0)) h

on_less : (i t : ℕ) (p : Held) (pins more : List Held) → Puts pins p more → is_on i t p ≡ false → on i t more ≡ on i t pins
on_less i t p pins more put h = on_put i t p pins more put ∙ ap (λ (q : Bool). on i t pins + (if q then 1 else 0)) h ∙ omega arith

waits_more : (i n t : ℕ) (p : Held) (pins more : List Held) → Puts pins p more → is_wait i n t p ≡ true → waits i n t more ≡ waits i n t pins + 1
waits_more i n t p pins more put h = waits_put i n t p pins more put ∙ ap (λ (q : Bool). waits i n t pins + (if q then 1 else 0)) h

waits_less : (i n t : ℕ) (p : Held) (pins more : List Held) → Puts pins p more → is_wait i n t p ≡ false → waits i n t more ≡ waits i n t pins
waits_less i n t p pins more put h = waits_put i n t p pins more put ∙ ap (λ (q : Bool). waits i n t pins + (if q then 1 else 0)) h ∙ omega arith

on_is : (i t : ℕ) (p : Held) → is_on i t p ≡ true → (p.block ≡ i) × (p.flight ≡ t)
on_is i t p h = (grind (arith, tests), grind (arith, tests))

wait_is : (i n t : ℕ) (p : Held) → is_wait i n t p ≡ true → (p.block ≡ i) × (p.flight ≡ t) × (p.client ≡ n)
wait_is i n t p h = (grind (arith, tests), grind (arith, tests), grind (arith, tests))

wait_yes : (p : Held) → is_wait p.block p.client p.flight p ≡ true
wait_yes p = grind (arith, eq-eqb)

one_at_most : (q : Bool) → (if q then 1 else 0) ≤ 1
one_at_most true = omega arith
one_at_most false = omega arith

not_lost : (i n u : ℕ) (p : Held) → is_wait i n u p ≡ false → (p.flight == u && p.block == i && p.client == n) ≡ false
not_lost i n u p h = grind (arith, tests)

pub asked_yes : (t b n i m u : ℕ) → t ≡ u → b ≡ i → n ≡ m → (t == u && b == i && n == m) ≡ true
asked_yes t b n i m u x y z = grind (arith, eq-eqb)

old_ticket : (es : List Entry) (pins : List Held) (i u : ℕ) (o : Option Slot) → Fine es pins i o → (t : ℕ) → t ≡ begins es → ticket_in o ≡ Some u → u < t
old_ticket es pins i u None fine t is h = absurd cc
old_ticket es pins i u (Some s) fine t is h = let was = fine.old in let same = some_is s.ticket u h in omega arith

-- a pin more on a slot, by an entry that moves no block
pub bump_tied : (b : ℕ) (e : Entry) (p : Held) (s : Slot) (es : List Entry) (old new : ℕ → Option Slot) (pins more : List Held) → Puts pins p more → IsTied es old pins → old b ≡ Some s → p.block ≡ b → p.flight ≡ s.ticket
    → ((i : ℕ) → new i ≡ (if b == i then Some (bumped s) else old i))
    → ((i : ℕ) (q : Place) → moves i q e ≡ q) → is_begin e ≡ false → ((u : ℕ) → (is_landed u e ≡ false) × (is_failed u e ≡ false)) → ((i n u : ℕ) → is_lost i n u e ≡ false)
    → (0 < times (is_landed s.ticket) es) ⊎ (is_asked b p.client s.ticket e ≡ true)
    → IsTied (es ++ e ∷ []) new more
bump_tied b e p s es old new pins more put tied at block ticket new_is still quiet mute unlost paid =
    let slot : IsFine es pins b s = subst (λ (q : Option Slot). Fine es pins b q) at (tied.fine b) in
    let tickets : (i : ℕ) → ticket_in (new i) ≡ ticket_in (old i) = λ i. same_ticket b i s (bumped s) (old i) (new i) (new_is i) refl (λ h. subst (λ (k : ℕ). old k ≡ Some s) h at) in
    let off : (i : ℕ) → b ≢ i → new i ≡ old i = λ i n. there b i (Some (bumped s)) (old i) (new i) (new_is i) n in
    let begun = times_none is_begin es e quiet in let l = times_none (is_landed s.ticket) es e (mute s.ticket).0 in let f = times_none (is_failed s.ticket) es e (mute s.ticket).1 in
    let mine : is_on b s.ticket p ≡ true = subst (λ (i : ℕ). is_on i s.ticket p ≡ true) block (subst (λ (t : ℕ). is_on p.block t p ≡ true) ticket (on_yes p)) in record {
      fine = fine_all b es e old new pins more tied (fine_at (es ++ e ∷ []) more b (new b) (Some (bumped s)) (here b b (Some (bumped s)) (old b) (new b) (new_is b) refl) record {
        is = place_more b es e ∙ still b (place b es) ∙ slot.is;
        old = let was = slot.old in omega arith;
        pinned = let was = slot.pinned in let m = on_more b s.ticket p pins more put mine in omega arith;
        out = λ h. let was = slot.out h in omega arith;
        seen = λ h. let was = slot.seen h in omega arith;
      }) off (λ i n. still i (place i es)) (λ i u n has. mute u) (λ i u n. on_less i u p pins more put (on_block i u p (λ h. n (sym block ∙ h))));
      unique = λ i j u x y. tied.unique i j u (sym (tickets i) ∙ x) (sym (tickets j) ∙ y);
      once = λ u. let was = tied.once u in let lu = times_none (is_landed u) es e (mute u).0 in let fu = times_none (is_failed u) es e (mute u).1 in omega arith;
      late = λ u h. let was = tied.late u (omega arith) in let lu = times_none (is_landed u) es e (mute u).0 in let fu = times_none (is_failed u) es e (mute u).1 in omega arith;
      young = λ i u h. let was = tied.young i u (omega arith) in let low = slot.old in let n : p.flight ≢ u = λ same. omega arith in on_less i u p pins more put (on_ticket i u p n) ∙ was;
      at = λ i u h. let fu = times_none (is_failed u) es e (mute u).1 in by_bool (is_on i u p)
          (λ yes. let q = on_is i u p yes in inl (tickets i ∙ subst (λ (k : ℕ). ticket_in (old k) ≡ Some u) (sym block ∙ q.0) (ap ticket_in at ∙ ap (λ (k : ℕ). Some k) (sym ticket ∙ q.1))))
          (λ no. let less = on_less i u p pins more put no in elim (tied.at i u (omega arith)) [ inl w ↦ inl (tickets i ∙ w) | inr w ↦ inr (omega arith) ]);
      owed = λ i n u z. let lu = times_none (is_landed u) es e (mute u).0 in let lost = times_none (is_lost i n u) es e (unlost i n u) in let was = tied.owed i n u (omega arith) in let a = times_more (is_asked i n u) es e in by_bool (is_wait i n u p)
          (λ yes. let q = wait_is i n u p yes in let w = waits_more i n u p pins more put yes in elim paid [
            | inl seen ↦ let same : s.ticket ≡ u = sym ticket ∙ q.1 in let zero_there : times (is_landed s.ticket) es ≡ 0 = subst (λ (k : ℕ). times (is_landed k) es ≡ 0) (sym same) (sym lu ∙ z) in absurd (omega arith)
            | inr asked ↦ let mine : is_asked i n u e ≡ true = subst (λ (k : ℕ). is_asked i n k e ≡ true) (sym ticket ∙ q.1) (subst (λ (k : ℕ). is_asked i k s.ticket e ≡ true) q.2 (subst (λ (k : ℕ). is_asked k p.client s.ticket e ≡ true) (sym block ∙ q.0) asked)) in let one = times_one (is_asked i n u) es e mine in omega arith
          ])
          (λ no. let w = waits_less i n u p pins more put no in omega arith);
    }

-- a new flight, with the pin of who began it
pub begin_tied : (b t n : ℕ) (p : Held) (es : List Entry) (old new : ℕ → Option Slot) (pins more : List Held) → Puts pins p more → IsTied es old pins → old b ≡ None → t ≡ begins es → p.block ≡ b → p.flight ≡ t → p.client ≡ n
    → ((i : ℕ) → new i ≡ (if b == i then Some (fresh_slot b t n) else old i)) → IsTied (es ++ Begin t b n ∷ []) new more
begin_tied b t n p es old new pins more put tied at is block ticket client new_is =
    let e : Entry = Begin t b n in
    let none : place b es ≡ Away = subst (λ (q : Option Slot). Fine es pins b q) at (tied.fine b) in
    let off : (i : ℕ) → b ≢ i → new i ≡ old i = λ i h. there b i (Some (fresh_slot b t n)) (old i) (new i) (new_is i) h in
    let now : (i : ℕ) → b ≡ i → new i ≡ Some (fresh_slot b t n) = λ i h. here b i (Some (fresh_slot b t n)) (old i) (new i) (new_is i) h in
    let begun = times_one is_begin es e refl in let was_none = tied.young b t (omega arith) in
    let mine : is_on b t p ≡ true = subst (λ (i : ℕ). is_on i t p ≡ true) block (subst (λ (k : ℕ). is_on p.block k p ≡ true) ticket (on_yes p)) in
    let older : (i u : ℕ) → ticket_in (old i) ≡ Some u → u < t = λ i u h. old_ticket es pins i u (old i) (tied.fine i) t is h in
    let which : (i u : ℕ) → ticket_in (new i) ≡ Some u → ((b ≡ i) × (t ≡ u)) ⊎ (ticket_in (old i) ≡ Some u) = λ i u h. dite (ℕ_discrete b i) (λ m. inl (m, some_is t u (sym (ap ticket_in (now i m)) ∙ h))) (λ m. inr (sym (ap ticket_in (off i m)) ∙ h)) in record {
      fine = fine_all b es e old new pins more tied (fine_at (es ++ e ∷ []) more b (new b) (Some (fresh_slot b t n)) (now b refl) record {
        is = place_more b es e ∙ if_yes (b == b) (Flying t n) (place b es) (eq-eqb b b refl);
        old = omega arith;
        pinned = let m = on_more b t p pins more put mine in omega arith;
        out = λ h. let l = times_none (is_landed t) es e refl in let f = times_none (is_failed t) es e refl in let late = tied.late t (omega arith) in omega arith;
        seen = λ h. absurd cc;
      }) off (λ i m. if_no (b == i) (Flying t n) (place i es) (ne_eqb b i m)) (λ i u m has. (refl, refl)) (λ i u m. on_less i u p pins more put (on_block i u p (λ h. m (sym block ∙ h))));
      unique = λ i j u x y. elim (which i u x) [
        | inl v ↦ elim (which j u y) [ inl w ↦ sym v.0 ∙ w.0 | inr w ↦ let lower = older j u w in let same = v.1 in absurd (omega arith) ]
        | inr v ↦ elim (which j u y) [ inl w ↦ let lower = older i u v in let same = w.1 in absurd (omega arith) | inr w ↦ tied.unique i j u v w ]
      ];
      once = λ u. let was = tied.once u in let l = times_none (is_landed u) es e refl in let f = times_none (is_failed u) es e refl in omega arith;
      late = λ u h. let was = tied.late u (omega arith) in let l = times_none (is_landed u) es e refl in let f = times_none (is_failed u) es e refl in omega arith;
      young = λ i u h. let was = tied.young i u (omega arith) in let m : p.flight ≢ u = λ same. omega arith in on_less i u p pins more put (on_ticket i u p m) ∙ was;
      at = λ i u h. let f = times_none (is_failed u) es e refl in by_bool (is_on i u p)
          (λ yes. let q = on_is i u p yes in inl (ap ticket_in (now i (sym block ∙ q.0)) ∙ ap (λ (k : ℕ). Some k) (sym ticket ∙ q.1)))
          (λ no. let less = on_less i u p pins more put no in elim (tied.at i u (omega arith)) [
            | inl w ↦ dite (ℕ_discrete b i) (λ m. let never : ticket_in None ≡ Some u = sym (ap ticket_in (subst (λ (k : ℕ). old k ≡ None) m at)) ∙ w in absurd cc) (λ m. inl (ap ticket_in (off i m) ∙ w))
            | inr w ↦ inr (omega arith)
          ]);
      owed = λ i m u z. let l = times_none (is_landed u) es e refl in let lost = times_none (is_lost i m u) es e refl in let was = tied.owed i m u (omega arith) in let a = times_more (is_asked i m u) es e in by_bool (is_wait i m u p)
          (λ yes. let q = wait_is i m u p yes in let w = waits_more i m u p pins more put yes in let one = times_one (is_asked i m u) es e (asked_yes t b n i m u (sym ticket ∙ q.1) (sym block ∙ q.0) (sym client ∙ q.2)) in omega arith)
          (λ no. let w = waits_less i m u p pins more put no in omega arith);
    }

fine_pins : (es : List Entry) (pins more : List Held) (i : ℕ) (o : Option Slot) → Fine es pins i o → ((t : ℕ) → ticket_in o ≡ Some t → on i t more ≡ on i t pins) → Fine es more i o
fine_pins es pins more i None fine same = fine
fine_pins es pins more i (Some s) fine same = record { is = fine.is; old = fine.old; pinned = fine.pinned ∙ sym (same s.ticket refl); out = fine.out; seen = fine.seen }

take_on : (i t : ℕ) (p : Held) (pins more : List Held) → Takes p pins more → on i t more + (if is_on i t p then 1 else 0) ≡ on i t pins
take_on i t p pins more take = take.each (λ (x : Held). if is_on i t x then 1 else 0)

take_waits : (i n t : ℕ) (p : Held) (pins more : List Held) → Takes p pins more → waits i n t more + (if is_wait i n t p then 1 else 0) ≡ waits i n t pins
take_waits i n t p pins more take = take.each (λ (x : Held). if is_wait i n t x then 1 else 0)

take_none : (i t : ℕ) (p : Held) (pins more : List Held) → Takes p pins more → is_on i t p ≡ false → on i t more ≡ on i t pins
take_none i t p pins more take h = let e : on i t more + 0 ≡ on i t pins = subst (λ (q : Bool). on i t more + (if q then 1 else 0) ≡ on i t pins) h (take_on i t p pins more take) in omega arith

pub take_one : (p : Held) (pins more : List Held) → Takes p pins more → on p.block p.flight more + 1 ≡ on p.block p.flight pins
take_one p pins more take = subst (λ (q : Bool). on p.block p.flight more + (if q then 1 else 0) ≡ on p.block p.flight pins) (on_yes p) (take_on p.block p.flight p pins more take)

-- pins on a slot of another ticket
not_on : (i u : ℕ) (p : Held) (o : ℕ → Option Slot) → (ticket_in (o p.block) ≡ Some p.flight → ⊥) → ticket_in (o i) ≡ Some u → is_on i u p ≡ false
not_on i u p o apart has = by_bool (is_on i u p) (λ h. let q = on_is i u p h in absurd (apart (subst (λ (k : ℕ). ticket_in (o k) ≡ Some p.flight) (sym q.0) (has ∙ ap (λ (k : ℕ). Some k) (sym q.1))))) (λ h. h)

-- a pin whose flight failed goes
pub gone_tied : (p : Held) (es : List Entry) (old : ℕ → Option Slot) (pins more : List Held) → IsTied es old pins → Takes p pins more → (ticket_in (old p.block) ≡ Some p.flight → ⊥) → IsTied es old more
gone_tied p es old pins more tied take apart = record {
  fine = λ i. fine_pins es pins more i (old i) (tied.fine i) (λ u has. take_none i u p pins more take (not_on i u p old apart has));
  unique = tied.unique;
  once = tied.once;
  late = tied.late;
  young = λ i u h. let was = tied.young i u h in let m = take_on i u p pins more take in omega arith;
  at = λ i u h. let m = take_on i u p pins more take in tied.at i u (omega arith);
  owed = λ i n u z. let was = tied.owed i n u z in let m = take_waits i n u p pins more take in omega arith;
}

-- and is sent to the origin
pub lost_tied : (p : Held) (es : List Entry) (old : ℕ → Option Slot) (pins more : List Held) → IsTied es old pins → Takes p pins more → (ticket_in (old p.block) ≡ Some p.flight → ⊥) → IsTied (es ++ Direct p.block p.client (Lost p.flight) ∷ []) old more
lost_tied p es old pins more tied take apart =
    let e : Entry = Direct p.block p.client (Lost p.flight) in let begun = times_none is_begin es e refl in record {
      fine = λ i. fine_other es e pins more i (old i) (tied.fine i) refl (λ u has. (refl, refl)) (λ u has. take_none i u p pins more take (not_on i u p old apart has));
      unique = tied.unique;
      once = λ u. let was = tied.once u in let l = times_none (is_landed u) es e refl in let f = times_none (is_failed u) es e refl in omega arith;
      late = λ u h. let was = tied.late u (omega arith) in let l = times_none (is_landed u) es e refl in let f = times_none (is_failed u) es e refl in omega arith;
      young = λ i u h. let was = tied.young i u (omega arith) in let m = take_on i u p pins more take in omega arith;
      at = λ i u h. let m = take_on i u p pins more take in let f = times_none (is_failed u) es e refl in elim (tied.at i u (omega arith)) [ inl w ↦ inl w | inr w ↦ inr (omega arith) ];
      owed = λ i n u z. let l = times_none (is_landed u) es e refl in let a = times_none (is_asked i n u) es e refl in let was = tied.owed i n u (omega arith) in by_bool (is_wait i n u p)
          (λ h. let m : waits i n u more + 1 ≡ waits i n u pins = subst (λ (q : Bool). waits i n u more + (if q then 1 else 0) ≡ waits i n u pins) h (take_waits i n u p pins more take) in let lost = times_more (is_lost i n u) es e in let most = one_at_most (is_lost i n u e) in omega arith)
          (λ h. let m = take_waits i n u p pins more take in let lost = times_none (is_lost i n u) es e (not_lost i n u p h) in omega arith);
    }

-- what a lost pin has: its flight failed, and it was asked for more often than it was sent to the origin
pub lost_row : (p : Held) (es : List Entry) (old : ℕ → Option Slot) (pins more : List Held) → IsTied es old pins → Takes p pins more → (ticket_in (old p.block) ≡ Some p.flight → ⊥) → (0 < times (is_failed p.flight) es) × (times (is_lost p.block p.client p.flight) es < times (is_asked p.block p.client p.flight) es)
lost_row p es old pins more tied take apart =
    let one = take_one p pins more take in
    let wait : waits p.block p.client p.flight more + 1 ≡ waits p.block p.client p.flight pins = subst (λ (q : Bool). waits p.block p.client p.flight more + (if q then 1 else 0) ≡ waits p.block p.client p.flight pins) (wait_yes p) (take_waits p.block p.client p.flight p pins more take) in
    let failed : 0 < times (is_failed p.flight) es = elim (tied.at p.block p.flight (omega arith)) [ inl w ↦ absurd (apart w) | inr w ↦ w ] in
    let once = tied.once p.flight in let owed = tied.owed p.block p.client p.flight (omega arith) in (failed, omega arith)

-- a pin on a slot goes, and the slot stays
pub less_tied : (p : Held) (s : Slot) (es : List Entry) (old new : ℕ → Option Slot) (pins more : List Held) → IsTied es old pins → Takes p pins more → old p.block ≡ Some s → s.ticket ≡ p.flight
    → ((i : ℕ) → new i ≡ (if p.block == i then Some (lowered s) else old i)) → IsTied es new more
less_tied p s es old new pins more tied take at ticket new_is =
    let slot : IsFine es pins p.block s = subst (λ (q : Option Slot). Fine es pins p.block q) at (tied.fine p.block) in
    let tickets : (i : ℕ) → ticket_in (new i) ≡ ticket_in (old i) = λ i. same_ticket p.block i s (lowered s) (old i) (new i) (new_is i) refl (λ h. subst (λ (k : ℕ). old k ≡ Some s) h at) in
    let one = take_one p pins more take in record {
      fine = λ i. dite (ℕ_discrete p.block i)
          (λ h. subst (λ (k : ℕ). Fine es more k (new k)) h (fine_at es more p.block (new p.block) (Some (lowered s)) (here p.block p.block (Some (lowered s)) (old p.block) (new p.block) (new_is p.block) refl) record {
            is = slot.is;
            old = slot.old;
            pinned = let was : s.pins ≡ on p.block p.flight pins = subst (λ (t : ℕ). s.pins ≡ on p.block t pins) ticket slot.pinned in subst (λ (t : ℕ). s.pins - 1 ≡ on p.block t more) (sym ticket) (omega arith);
            out = slot.out;
            seen = slot.seen;
          }))
          (λ n. fine_at es more i (new i) (old i) (there p.block i (Some (lowered s)) (old i) (new i) (new_is i) n) (fine_pins es pins more i (old i) (tied.fine i) (λ u has. take_none i u p pins more take (on_block i u p n))));
      unique = λ i j u x y. tied.unique i j u (sym (tickets i) ∙ x) (sym (tickets j) ∙ y);
      once = tied.once;
      late = tied.late;
      young = λ i u h. let was = tied.young i u h in let m = take_on i u p pins more take in omega arith;
      at = λ i u h. let m = take_on i u p pins more take in elim (tied.at i u (omega arith)) [ inl w ↦ inl (tickets i ∙ w) | inr w ↦ inr w ];
      owed = λ i n u z. let was = tied.owed i n u z in let m = take_waits i n u p pins more take in omega arith;
    }
