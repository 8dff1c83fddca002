-- What becomes of a block in memory, beside what ties slots and pins to the log.
use Rattle.std.proofs.Common.{◌≡◌, ◌≢◌, ℕ, ◌<◌, List, [], ◌∷◌, ◌++◌, sym, refl, ap, ◌∙◌, subst, inl, inr, arith, Bool, true, false, Option, Some, None, if◌then◌else◌, ◌==◌, ◌||◌, not, eq-eqb, ne_eqb}
use mathlib.Core.Logic.{dite}
use native.Mathlib.Decide.{ℕ_discrete}
use Rattle.pfc_log.specs.declared.entry.Entry.{Entry}
use Rattle.pfc_log.specs.declared.entry.Entry.TheVariants.{Dropped, Wrote, Left}
use Rattle.pfc_log.specs.Views.{Place, Away, Flying, Here, place, moves, ending, times, is_begin, is_landed, is_failed, is_lost, is_asked}
use Rattle.pfc_log.proofs.More.{place_more, times_none}
use Rattle.pfc_core.specs.declared.slot.Slot.{Slot}
use Rattle.pfc_core.specs.declared.held.Held.{Held}
use Rattle.pfc_core.specs.Slots.{place_of, ticket_in, ended_slot, written_slot}
use Rattle.pfc_core.specs.Pins.{on}
use Rattle.pfc_log.specs.declared.entry.DropCause.{DropCause}
use Rattle.pfc_core.specs.Tied.{IsTied, IsFine, Fine}
use Rattle.pfc_core.proofs.Tied.{fine_all, fine_at, here, if_no, if_yes, same_ticket, some_is, there}

-- a block without pins leaves memory
pub left_tied : (b : ℕ) (s : Slot) (es : List Entry) (old new : ℕ → Option Slot) (pins : List Held) → IsTied es old pins → old b ≡ Some s → s.landed ≡ true → s.pins ≡ 0
    → ((i : ℕ) → new i ≡ (if b == i then None else old i)) → IsTied (es ++ Left b ∷ []) new pins
left_tied b s es old new pins tied at landed bare new_is =
    let e : Entry = Left b in
    let slot : IsFine es pins b s = subst (λ (q : Option Slot). Fine es pins b q) at (tied.fine b) in
    let off : (i : ℕ) → b ≢ i → new i ≡ old i = λ i n. there b i None (old i) (new i) (new_is i) n in
    let gone : (i : ℕ) → b ≡ i → new i ≡ None = λ i h. here b i None (old i) (new i) (new_is i) h in
    let fewer : (i u : ℕ) → ticket_in (new i) ≡ Some u → ticket_in (old i) ≡ Some u = λ i u p. dite (ℕ_discrete b i) (λ h. let no : ticket_in None ≡ Some u = sym (ap ticket_in (gone i h)) ∙ p in absurd cc) (λ n. sym (ap ticket_in (off i n)) ∙ p) in
    let begun = times_none is_begin es e refl in record {
      fine = fine_all b es e old new pins pins tied (fine_at (es ++ e ∷ []) pins b (new b) None (gone b refl) (place_more b es e ∙ if_yes (b == b) Away (place b es) (eq-eqb b b refl))) off
          (λ i n. if_no (b == i) Away (place i es) (ne_eqb b i n)) (λ i u n has. (refl, refl)) (λ i u n. refl);
      unique = λ i j u p q. tied.unique i j u (fewer i u p) (fewer j u q);
      once = λ u. let was = tied.once u in let l = times_none (is_landed u) es e refl in let f = times_none (is_failed u) es e refl in omega arith;
      late = λ u h. let was = tied.late u (omega arith) in let l = times_none (is_landed u) es e refl in let f = times_none (is_failed u) es e refl in omega arith;
      young = λ i u h. tied.young i u (omega arith);
      at = λ i u h. let f = times_none (is_failed u) es e refl in elim (tied.at i u h) [
        | inl w ↦ dite (ℕ_discrete b i)
            (λ k. let same : s.ticket ≡ u = some_is s.ticket u (sym (ap ticket_in (subst (λ (m : ℕ). old m ≡ Some s) k at)) ∙ w) in
            let none : on i u pins ≡ 0 = subst (λ (m : ℕ). on m u pins ≡ 0) k (subst (λ (m : ℕ). on b m pins ≡ 0) same (sym slot.pinned ∙ bare)) in absurd (omega arith))
            (λ n. inl (ap ticket_in (off i n) ∙ w))
        | inr w ↦ inr (omega arith)
      ];
      owed = λ i n u z. let l = times_none (is_landed u) es e refl in let f = times_none (is_lost i n u) es e refl in let a = times_none (is_asked i n u) es e refl in let was = tied.owed i n u (omega arith) in omega arith;
    }

-- a slot of a block in memory turns to another of the same flight, by an entry that moves no other block
turn_tied : (b : ℕ) (e : Entry) (s y : Slot) (es : List Entry) (old new : ℕ → Option Slot) (pins : List Held) → IsTied es old pins → old b ≡ Some s → s.landed ≡ true → y.landed ≡ true → y.ticket ≡ s.ticket → y.pins ≡ s.pins
    → moves b (place_of s) e ≡ place_of y → ((i : ℕ) → b ≢ i → (q : Place) → moves i q e ≡ q) → is_begin e ≡ false → ((u : ℕ) → (is_landed u e ≡ false) × (is_failed u e ≡ false)) → ((i m u : ℕ) → (is_lost i m u e ≡ false) × (is_asked i m u e ≡ false))
    → ((i : ℕ) → new i ≡ (if b == i then Some y else old i)) → IsTied (es ++ e ∷ []) new pins
turn_tied b e s y es old new pins tied at landed there_is ticket pins_is moved still quiet mute unasked new_is =
    let slot : IsFine es pins b s = subst (λ (q : Option Slot). Fine es pins b q) at (tied.fine b) in
    let tickets : (i : ℕ) → ticket_in (new i) ≡ ticket_in (old i) = λ i. same_ticket b i s y (old i) (new i) (new_is i) ticket (λ h. subst (λ (k : ℕ). old k ≡ Some s) h at) in
    let off : (i : ℕ) → b ≢ i → new i ≡ old i = λ i n. there b i (Some y) (old i) (new i) (new_is i) n in
    let begun = times_none is_begin es e quiet in let lb = times_none (is_landed s.ticket) es e (mute s.ticket).0 in record {
      fine = fine_all b es e old new pins pins tied (fine_at (es ++ e ∷ []) pins b (new b) (Some y) (here b b (Some y) (old b) (new b) (new_is b) refl) record {
        is = place_more b es e ∙ ap (λ (q : Place). moves b q e) slot.is ∙ moved;
        old = let was = slot.old in omega (arith, was, ticket, begun);
        pinned = pins_is ∙ slot.pinned ∙ ap (λ (t : ℕ). on b t pins) (sym ticket);
        out = λ h. let clash : true ≡ false = sym there_is ∙ h in absurd cc;
        seen = λ h. let was = slot.seen landed in subst (λ (t : ℕ). 0 < times (is_landed t) (es ++ e ∷ [])) (sym ticket) (omega (arith, was, lb));
      }) off (λ i n. still i n (place i es)) (λ i u n has. mute u) (λ i u n. refl);
      unique = λ i j u x z. tied.unique i j u (sym (tickets i) ∙ x) (sym (tickets j) ∙ z);
      once = λ u. let was = tied.once u in let l = times_none (is_landed u) es e (mute u).0 in let f = times_none (is_failed u) es e (mute u).1 in omega arith;
      late = λ u h. let was = tied.late u (omega arith) in let l = times_none (is_landed u) es e (mute u).0 in let f = times_none (is_failed u) es e (mute u).1 in omega arith;
      young = λ i u h. tied.young i u (omega arith);
      at = λ i u h. let f = times_none (is_failed u) es e (mute u).1 in elim (tied.at i u h) [ inl w ↦ inl (tickets i ∙ w) | inr w ↦ inr (omega arith) ];
      owed = λ i n u z. let l = times_none (is_landed u) es e (mute u).0 in let f = times_none (is_lost i n u) es e (unasked i n u).0 in let a = times_none (is_asked i n u) es e (unasked i n u).1 in let was = tied.owed i n u (omega arith) in omega arith;
    }

pub or_true : (q : Bool) → (q || true) ≡ true
or_true true = refl
or_true false = refl

ends_here : (s : Slot) → s.landed ≡ true → ending (place_of s) ≡ place_of (ended_slot s)
ends_here s h = ap (λ (q : Bool). ending (if q then Here s.ticket (s.written || not s.job) else Flying s.ticket s.client)) h ∙ ap (λ (q : Bool). Here s.ticket q) (sym (or_true s.written)) ∙ ap (λ (q : Bool). if q then Here s.ticket (s.written || true) else Flying s.ticket s.client) (sym h)

written_here : (s : Slot) → s.landed ≡ true → ending (place_of s) ≡ place_of (written_slot s)
written_here s h = ap (λ (q : Bool). ending (if q then Here s.ticket (s.written || not s.job) else Flying s.ticket s.client)) h ∙ ap (λ (q : Bool). if q then Here s.ticket true else Flying s.ticket s.client) (sym h)

-- the job of a block is dropped
pub drop_tied : (b : ℕ) (why : DropCause) (s : Slot) (es : List Entry) (old new : ℕ → Option Slot) (pins : List Held) → IsTied es old pins → old b ≡ Some s → s.landed ≡ true
    → ((i : ℕ) → new i ≡ (if b == i then Some (ended_slot s) else old i)) → IsTied (es ++ Dropped b why ∷ []) new pins
drop_tied b why s es old new pins tied at landed new_is =
    turn_tied b (Dropped b why) s (ended_slot s) es old new pins tied at landed landed refl refl (if_yes (b == b) (ending (place_of s)) (place_of s) (eq-eqb b b refl) ∙ ends_here s landed) (λ i n q. if_no (b == i) (ending q) q (ne_eqb b i n)) refl (λ u. (refl, refl)) (λ i m u. (refl, refl)) new_is

-- a block is written
pub wrote_tied : (b : ℕ) (s : Slot) (es : List Entry) (old new : ℕ → Option Slot) (pins : List Held) → IsTied es old pins → old b ≡ Some s → s.landed ≡ true
    → ((i : ℕ) → new i ≡ (if b == i then Some (written_slot s) else old i)) → IsTied (es ++ Wrote b ∷ []) new pins
wrote_tied b s es old new pins tied at landed new_is =
    turn_tied b (Wrote b) s (written_slot s) es old new pins tied at landed landed refl refl (if_yes (b == b) (ending (place_of s)) (place_of s) (eq-eqb b b refl) ∙ written_here s landed) (λ i n q. if_no (b == i) (ending q) q (ne_eqb b i n)) refl (λ u. (refl, refl)) (λ i m u. (refl, refl)) new_is

stays_here : (s : Slot) → s.written ≡ true → place_of (ended_slot s) ≡ place_of s
stays_here s h = ap (λ (q : Bool). if s.landed then Here s.ticket (q || true) else Flying s.ticket s.client) h ∙ sym (ap (λ (q : Bool). if s.landed then Here s.ticket (q || not s.job) else Flying s.ticket s.client) h)

-- the job of a block that was written ends
pub end_tied : (b : ℕ) (s : Slot) (es : List Entry) (old new : ℕ → Option Slot) (pins : List Held) → IsTied es old pins → old b ≡ Some s → s.written ≡ true
    → ((i : ℕ) → new i ≡ (if b == i then Some (ended_slot s) else old i)) → IsTied es new pins
end_tied b s es old new pins tied at written new_is =
    let slot : IsFine es pins b s = subst (λ (q : Option Slot). Fine es pins b q) at (tied.fine b) in
    let tickets : (i : ℕ) → ticket_in (new i) ≡ ticket_in (old i) = λ i. same_ticket b i s (ended_slot s) (old i) (new i) (new_is i) refl (λ h. subst (λ (k : ℕ). old k ≡ Some s) h at) in record {
      fine = λ i. dite (ℕ_discrete b i)
          (λ h. fine_at es pins i (new i) (Some (ended_slot s)) (here b i _ _ _ (new_is i) h) (subst (λ (k : ℕ). IsFine es pins k (ended_slot s)) h record { is = slot.is ∙ sym (stays_here s written); old = slot.old; pinned = slot.pinned; out = slot.out; seen = slot.seen }))
          (λ n. fine_at es pins i (new i) (old i) (there b i _ _ _ (new_is i) n) (tied.fine i));
      unique = λ i j u x y. tied.unique i j u (sym (tickets i) ∙ x) (sym (tickets j) ∙ y);
      once = tied.once;
      late = tied.late;
      young = tied.young;
      at = λ i u h. elim (tied.at i u h) [ inl w ↦ inl (tickets i ∙ w) | inr w ↦ inr w ];
      owed = tied.owed;
    }
