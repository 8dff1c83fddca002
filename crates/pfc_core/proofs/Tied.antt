-- What an entry does to what ties slots and pins to the log.
use Rattle.std.proofs.Common.{◌≡◌, ◌≢◌, ℕ, List, [], ◌∷◌, ◌++◌, sym, refl, ap, ◌∙◌, subst, inl, inr, arith, Bool, true, false, Option, Some, None, if◌then◌else◌, ◌==◌, eq-eqb, ne_eqb}
use mathlib.Core.Logic.{dite}
use native.Mathlib.Decide.{ℕ_discrete}
use Rattle.pfc_log.specs.declared.entry.Entry.{Entry}
use Rattle.pfc_log.specs.declared.entry.Entry.TheVariants.{Landed, Failed}
use Rattle.pfc_log.specs.declared.entry.Fell.{Fell}
use Rattle.pfc_log.specs.Views.{Place, Away, Here, place, moves, landing, failing, is_begin, is_landed, is_failed, is_lost, is_asked}
use Rattle.pfc_log.proofs.More.{place_more, times_more, times_none, times_one}
use Rattle.pfc_core.specs.declared.slot.Slot.{Slot}
use Rattle.pfc_core.specs.declared.held.Held.{Held}
use Rattle.pfc_core.specs.Slots.{place_of, ticket_in, landed_slot}
use Rattle.pfc_core.specs.Pins.{on}
use Rattle.pfc_core.specs.Tied.{IsTied, IsFine, Fine, ended}

pub here : (b i : ℕ) (x a c : Option Slot) → c ≡ (if b == i then x else a) → b ≡ i → c ≡ x
here b i x a c r e = grind arith

pub there : (b i : ℕ) (x a c : Option Slot) → c ≡ (if b == i then x else a) → b ≢ i → c ≡ a
there b i x a c r n = grind arith

-- a slot of another block
pub fine_other : (es : List Entry) (e : Entry) (pins more : List Held) (i : ℕ) (o : Option Slot) → Fine es pins i o
    → moves i (place i es) e ≡ place i es
    → ((t : ℕ) → ticket_in o ≡ Some t → (is_landed t e ≡ false) × (is_failed t e ≡ false))
    → ((t : ℕ) → ticket_in o ≡ Some t → on i t more ≡ on i t pins) → Fine (es ++ e ∷ []) more i o
fine_other es e pins more i None fine still mute same = place_more i es e ∙ still ∙ fine
fine_other es e pins more i (Some s) fine still mute same =
    let b = times_more is_begin es e in let m = mute s.ticket refl in let l = times_none (is_landed s.ticket) es e m.0 in let f = times_none (is_failed s.ticket) es e m.1 in record {
      is = place_more i es e ∙ still ∙ fine.is;
      old = let was = fine.old in omega arith;
      pinned = fine.pinned ∙ sym (same s.ticket refl);
      out = λ h. let was = fine.out h in omega arith;
      seen = λ h. let was = fine.seen h in omega arith;
    }

lands_not : (t : ℕ) (s : Slot) → s.ticket ≢ t → landing t (place_of s) ≡ place_of s
lands_not t s n = grind arith

lands_so : (t : ℕ) (s : Slot) → s.landed ≡ false → s.ticket ≡ t → landing t (place_of s) ≡ Here s.ticket false
lands_so t s h e = grind arith

fails_not : (t : ℕ) (s : Slot) → s.ticket ≢ t → failing t (place_of s) ≡ place_of s
fails_not t s n = grind arith

fails_so : (t : ℕ) (s : Slot) → s.landed ≡ false → s.ticket ≡ t → failing t (place_of s) ≡ Away
fails_so t s h e = grind arith

ticket_other : (t b i : ℕ) (s : Slot) (o : Option Slot) (old : ℕ → Option Slot) → ((i j u : ℕ) → ticket_in (old i) ≡ Some u → ticket_in (old j) ≡ Some u → i ≡ j) → old b ≡ Some s → s.ticket ≡ t → b ≢ i → (u : ℕ) → ticket_in (old i) ≡ Some u → t ≢ u
ticket_other t b i s o old unique at is n u has = λ e. n (unique b i u (ap ticket_in at ∙ ap (λ (k : ℕ). Some k) (is ∙ e)) has)

still_landing : (t i : ℕ) (es : List Entry) (pins : List Held) (o : Option Slot) → Fine es pins i o → ((u : ℕ) → ticket_in o ≡ Some u → t ≢ u) → landing t (place i es) ≡ place i es
still_landing t i es pins None fine apart = ap (landing t) fine ∙ sym fine
still_landing t i es pins (Some s) fine apart = ap (landing t) fine.is ∙ lands_not t s (λ e. apart s.ticket refl (sym e)) ∙ sym fine.is

still_failing : (t i : ℕ) (es : List Entry) (pins : List Held) (o : Option Slot) → Fine es pins i o → ((u : ℕ) → ticket_in o ≡ Some u → t ≢ u) → failing t (place i es) ≡ place i es
still_failing t i es pins None fine apart = ap (failing t) fine ∙ sym fine
still_failing t i es pins (Some s) fine apart = ap (failing t) fine.is ∙ fails_not t s (λ e. apart s.ticket refl (sym e)) ∙ sym fine.is

pub fine_at : (es : List Entry) (pins : List Held) (i : ℕ) (o p : Option Slot) → o ≡ p → Fine es pins i p → Fine es pins i o
fine_at es pins i o p e h = subst (λ (q : Option Slot). Fine es pins i q) (sym e) h

pub same_ticket : (b i : ℕ) (s y : Slot) (a c : Option Slot) → c ≡ (if b == i then Some y else a) → y.ticket ≡ s.ticket → (b ≡ i → a ≡ Some s) → ticket_in c ≡ ticket_in a
same_ticket b i s y a c r e at = dite (ℕ_discrete b i) (λ h. ap ticket_in (here b i (Some y) a c r h) ∙ ap (λ (k : ℕ). Some k) e ∙ sym (ap ticket_in (at h))) (λ n. ap ticket_in (there b i (Some y) a c r n))

pub land_tied : (t b : ℕ) (s : Slot) (es : List Entry) (old new : ℕ → Option Slot) (pins : List Held) → IsTied es old pins → old b ≡ Some s → s.landed ≡ false → s.ticket ≡ t
    → ((i : ℕ) → new i ≡ (if b == i then Some (landed_slot s) else old i)) → IsTied (es ++ Landed t ∷ []) new pins
land_tied t b s es old new pins tied at out is new_is =
    let slot : IsFine es pins b s = subst (λ (q : Option Slot). Fine es pins b q) at (tied.fine b) in
    let begun = times_more is_begin es (Landed t) in
    let tickets : (i : ℕ) → ticket_in (new i) ≡ ticket_in (old i) = λ i. same_ticket b i s (landed_slot s) (old i) (new i) (new_is i) refl (λ e. subst (λ (k : ℕ). old k ≡ Some s) e at) in record {
      fine = λ i. dite (ℕ_discrete b i)
          (λ e. fine_at (es ++ Landed t ∷ []) pins i (new i) (Some (landed_slot s)) (here b i _ _ _ (new_is i) e) (subst (λ (k : ℕ). IsFine (es ++ Landed t ∷ []) pins k (landed_slot s)) e record {
            is = place_more b es (Landed t) ∙ ap (landing t) slot.is ∙ lands_so t s out is;
            old = let was = slot.old in omega arith;
            pinned = slot.pinned;
            out = λ h. absurd cc;
            seen = λ h. let l = times_one (is_landed s.ticket) es (Landed t) (eq-eqb t s.ticket (sym is)) in omega arith;
          }))
          (λ n. let apart = ticket_other t b i s (old i) old tied.unique at is n in fine_at (es ++ Landed t ∷ []) pins i (new i) (old i) (there b i _ _ _ (new_is i) n) (fine_other es (Landed t) pins pins i (old i) (tied.fine i) (still_landing t i es pins (old i) (tied.fine i) apart) (λ u has. (ne_eqb t u (apart u has), refl)) (λ u has. refl)));
      unique = λ i j u p q. tied.unique i j u (sym (tickets i) ∙ p) (sym (tickets j) ∙ q);
      once = λ u. let f = times_more (is_failed u) es (Landed t) in let was = tied.once u in dite (ℕ_discrete t u)
          (λ e. let none : ended u es ≡ 0 = subst (λ (k : ℕ). ended k es ≡ 0) (is ∙ e) (slot.out out) in let l = times_one (is_landed u) es (Landed t) (eq-eqb t u e) in omega arith)
          (λ n. let l = times_none (is_landed u) es (Landed t) (ne_eqb t u n) in omega arith);
      late = λ u h. let f = times_more (is_failed u) es (Landed t) in let was = tied.late u (omega arith) in let low = slot.old in
          let n : t ≢ u = λ e. omega arith in let l = times_none (is_landed u) es (Landed t) (ne_eqb t u n) in omega arith;
      young = λ i u h. tied.young i u (omega arith);
      at = λ i u h. elim (tied.at i u h) [ inl w ↦ inl (tickets i ∙ w) | inr w ↦ let f = times_more (is_failed u) es (Landed t) in inr (omega arith) ];
      owed = λ i n u z. let l = times_more (is_landed u) es (Landed t) in let f = times_more (is_lost i n u) es (Landed t) in let a = times_more (is_asked i n u) es (Landed t) in let was = tied.owed i n u (omega arith) in omega arith;
    }

pub fine_all : (b : ℕ) (es : List Entry) (e : Entry) (old new : ℕ → Option Slot) (pins more : List Held) → IsTied es old pins → Fine (es ++ e ∷ []) more b (new b)
    → ((i : ℕ) → b ≢ i → new i ≡ old i)
    → ((i : ℕ) → b ≢ i → moves i (place i es) e ≡ place i es)
    → ((i u : ℕ) → b ≢ i → ticket_in (old i) ≡ Some u → (is_landed u e ≡ false) × (is_failed u e ≡ false))
    → ((i u : ℕ) → b ≢ i → on i u more ≡ on i u pins) → (i : ℕ) → Fine (es ++ e ∷ []) more i (new i)
fine_all b es e old new pins more tied fine off still mute same i = dite (ℕ_discrete b i)
    (λ h. subst (λ (k : ℕ). Fine (es ++ e ∷ []) more k (new k)) h fine)
    (λ n. fine_at (es ++ e ∷ []) more i (new i) (old i) (off i n) (fine_other es e pins more i (old i) (tied.fine i) (still i n) (λ u has. mute i u n has) (λ u has. same i u n)))

pub some_is : (a b : ℕ) → Some a ≡ Some b → a ≡ b
some_is a b h = cc

pub fail_tied : (t b : ℕ) (why : Fell) (s : Slot) (es : List Entry) (old new : ℕ → Option Slot) (pins : List Held) → IsTied es old pins → old b ≡ Some s → s.landed ≡ false → s.ticket ≡ t
    → ((i : ℕ) → new i ≡ (if b == i then None else old i)) → IsTied (es ++ Failed t why ∷ []) new pins
fail_tied t b why s es old new pins tied at out is new_is =
    let slot : IsFine es pins b s = subst (λ (q : Option Slot). Fine es pins b q) at (tied.fine b) in
    let e : Entry = Failed t why in
    let apart : (i : ℕ) → b ≢ i → (u : ℕ) → ticket_in (old i) ≡ Some u → t ≢ u = λ i n. ticket_other t b i s (old i) old tied.unique at is n in
    let off : (i : ℕ) → b ≢ i → new i ≡ old i = λ i n. there b i None (old i) (new i) (new_is i) n in
    let gone : (i : ℕ) → b ≡ i → new i ≡ None = λ i h. here b i None (old i) (new i) (new_is i) h in
    let fewer : (i u : ℕ) → ticket_in (new i) ≡ Some u → ticket_in (old i) ≡ Some u = λ i u p. dite (ℕ_discrete b i) (λ h. let no : ticket_in None ≡ Some u = sym (ap ticket_in (gone i h)) ∙ p in absurd cc) (λ n. sym (ap ticket_in (off i n)) ∙ p) in
    let begun = times_none is_begin es e refl in record {
      fine = fine_all b es e old new pins pins tied (fine_at (es ++ e ∷ []) pins b (new b) None (gone b refl) (place_more b es e ∙ ap (failing t) slot.is ∙ fails_so t s out is)) off
          (λ i n. still_failing t i es pins (old i) (tied.fine i) (apart i n)) (λ i u n has. (refl, ne_eqb t u (apart i n u has))) (λ i u n. refl);
      unique = λ i j u p q. tied.unique i j u (fewer i u p) (fewer j u q);
      once = λ u. let l = times_none (is_landed u) es e refl in let was = tied.once u in dite (ℕ_discrete t u)
          (λ h. let none : ended u es ≡ 0 = subst (λ (k : ℕ). ended k es ≡ 0) (is ∙ h) (slot.out out) in let f = times_one (is_failed u) es e (eq-eqb t u h) in omega arith)
          (λ n. let f = times_none (is_failed u) es e (ne_eqb t u n) in omega arith);
      late = λ u h. let l = times_none (is_landed u) es e refl in let was = tied.late u (omega arith) in let low = slot.old in
          let n : t ≢ u = λ same. omega arith in let f = times_none (is_failed u) es e (ne_eqb t u n) in omega arith;
      young = λ i u h. tied.young i u (omega arith);
      at = λ i u h. let f = times_more (is_failed u) es e in elim (tied.at i u h) [
        | inl w ↦ dite (ℕ_discrete b i)
            (λ k. let same : t ≡ u = sym is ∙ some_is s.ticket u (sym (ap ticket_in (subst (λ (m : ℕ). old m ≡ Some s) k at)) ∙ w) in let one = times_one (is_failed u) es e (eq-eqb t u same) in inr (omega arith))
            (λ n. inl (ap ticket_in (off i n) ∙ w))
        | inr w ↦ inr (omega arith)
      ];
      owed = λ i n u z. let l = times_none (is_landed u) es e refl in let f = times_none (is_lost i n u) es e refl in let a = times_none (is_asked i n u) es e refl in let was = tied.owed i n u (omega arith) in omega arith;
    }

pub by_bool : {C : Type 0} (q : Bool) → (q ≡ true → C) → (q ≡ false → C) → C
by_bool true y n = y refl
by_bool false y n = n refl

pub if_yes : (q : Bool) (x y : Place) → q ≡ true → (if q then x else y) ≡ x
if_yes q x y h = ap (λ (r : Bool). if r then x else y) h

pub if_no : (q : Bool) (x y : Place) → q ≡ false → (if q then x else y) ≡ y
if_no q x y h = ap (λ (r : Bool). if r then x else y) h

-- an entry that concerns no block
pub quiet_tied : (e : Entry) (es : List Entry) (old : ℕ → Option Slot) (pins : List Held) → IsTied es old pins → is_begin e ≡ false → ((i : ℕ) (q : Place) → moves i q e ≡ q) → ((u : ℕ) → (is_landed u e ≡ false) × (is_failed u e ≡ false)) → ((i m u : ℕ) → (is_lost i m u e ≡ false) × (is_asked i m u e ≡ false)) → IsTied (es ++ e ∷ []) old pins
quiet_tied e es old pins tied quiet still mute unasked = let begun = times_none is_begin es e quiet in record {
  fine = λ i. fine_other es e pins pins i (old i) (tied.fine i) (still i (place i es)) (λ u has. mute u) (λ u has. refl);
  unique = tied.unique;
  once = λ u. let was = tied.once u in let l = times_none (is_landed u) es e (mute u).0 in let f = times_none (is_failed u) es e (mute u).1 in omega arith;
  late = λ u h. let was = tied.late u (omega arith) in let l = times_none (is_landed u) es e (mute u).0 in let f = times_none (is_failed u) es e (mute u).1 in omega arith;
  young = λ i u h. tied.young i u (omega arith);
  at = λ i u h. let f = times_none (is_failed u) es e (mute u).1 in elim (tied.at i u h) [ inl w ↦ inl w | inr w ↦ inr (omega arith) ];
  owed = λ i n u z. let l = times_none (is_landed u) es e (mute u).0 in let f = times_none (is_lost i n u) es e (unasked i n u).0 in let a = times_none (is_asked i n u) es e (unasked i n u).1 in let was = tied.owed i n u (omega arith) in omega arith;
}
