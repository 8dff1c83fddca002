-- What a log that grows says of blocks that were written or dropped.
use Rattle.std.proofs.Common.{◌≡◌, ◌⊎◌, inl, inr, ℕ, suc, ◌+◌, ◌≤◌, List, [], ◌∷◌, ◌++◌, take, refl, sym, subst, ap, ◌∙◌, arith, Bool, true, false, ◌==◌, Option, Some, None}
use Rattle.std.specs.Prelude.{All, if◌then◌else◌, slice_get}
use Rattle.std.proofs.lemmas.List.{append_assoc, append-nil}
use Rattle.pfc_log.specs.declared.entry.DropCause.{DropCause}
use Rattle.pfc_log.specs.declared.entry.DropCause.TheVariants as cause
use Rattle.pfc_log.specs.declared.entry.Entry.{Entry}
use Rattle.pfc_log.specs.declared.entry.Entry.TheVariants.{Begin, Landed, Failed, Dropped, Wrote, Left}
use Rattle.pfc_log.specs.Views.{Place, Away, Flying, Here, moves, landing, failing, ending, place, times}
use Rattle.pfc_log.proofs.More.{at_push, place_more, times_more}
use Rattle.pfc_log.proofs.Places.{by_bool}
use Rattle.pfc_core.specs.Leaves.{is_done_at}
use Rattle.pfc_log.specs.Waiting.{is_plain, is_worked, is_frozen_cause, Begins, GrowsPlainly}
use Rattle.pfc_log.proofs.Earlier.{begins_same, begins_on, begins_by}

abbrev pub bit : Bool → ℕ
bit q = if q then 1 else 0

-- 1 where block i was written or dropped since flight t landed
abbrev pub done : ℕ → ℕ → List Entry → ℕ
done t i es = bit (is_done_at t (place i es))

-- the entry writes or drops block i
abbrev pub finishes : ℕ → Entry → Bool
finishes i (Wrote j) = j == i
finishes i (Dropped j why) = j == i
finishes i _ = false

-- ---- one entry

bit_most : (q : Bool) → bit q ≤ 1
bit_most true = omega arith
bit_most false = omega arith

-- by a test that the block fails nothing has changed, and by one that it passes it isn't done
unless : (t : ℕ) (q : Bool) (p r : Place) → bit (is_done_at t r) ≡ 0 → bit (is_done_at t (if q then r else p)) ≤ bit (is_done_at t p) + 0
unless t true p r none = omega (arith, none)
unless t false p r none = omega arith

until : (t : ℕ) (q : Bool) (p r : Place) → bit (is_done_at t (if q then r else p)) ≤ bit (is_done_at t p) + bit q
until t true p r = let m = bit_most (is_done_at t r) in omega (arith, m)
until t false p r = omega arith

lands : (t u : ℕ) (p : Place) → bit (is_done_at t (landing u p)) ≤ bit (is_done_at t p) + 0
lands t u Away = omega arith
lands t u (Flying v n) = by_bool (v == t) (λ y. by_bool (v == u) (λ z. rw (z, y) (omega arith)) (λ z. rw z (omega arith))) (λ y. by_bool (v == u) (λ z. rw (z, y) (omega arith)) (λ z. rw z (omega arith)))
lands t u (Here v d) = omega arith

fails : (t u : ℕ) (p : Place) → bit (is_done_at t (failing u p)) ≤ bit (is_done_at t p) + 0
fails t u Away = omega arith
fails t u (Flying v n) = by_bool (v == u) (λ z. rw z (omega arith)) (λ z. rw z (omega arith))
fails t u (Here v d) = omega arith

done_moves : (t i : ℕ) (p : Place) (e : Entry) → bit (is_done_at t (moves i p e)) ≤ bit (is_done_at t p) + bit (finishes i e)
done_moves t i p (Begin u j n) = unless t (j == i) p (Flying u n) refl
done_moves t i p (Landed u) = lands t u p
done_moves t i p (Failed u why) = fails t u p
done_moves t i p (Dropped j why) = until t (j == i) p (ending p)
done_moves t i p (Wrote j) = until t (j == i) p (ending p)
done_moves t i p (Left j) = unless t (j == i) p Away refl
done_moves t i p _ = omega arith

done_push : (t i : ℕ) (es : List Entry) (e : Entry) → done t i (es ++ e ∷ []) ≤ done t i es + bit (finishes i e)
done_push t i es e = subst (λ p. bit (is_done_at t p) ≤ done t i es + bit (finishes i e)) (sym (place_more i es e)) (done_moves t i (place i es) e)

plain_finishes : (i : ℕ) (e : Entry) → is_plain e ≡ true → finishes i e ≡ false
plain_finishes i (Dropped j why) h = absurd cc
plain_finishes i (Wrote j) h = absurd cc
plain_finishes i _ h = refl

plain_worked : (e : Entry) → is_plain e ≡ true → is_worked e ≡ false
plain_worked (Dropped j why) h = absurd cc
plain_worked (Wrote j) h = absurd cc
plain_worked _ h = refl

-- ---- a log that grew

-- the block that was dropped for want of room behind these entries, if one was, and the queue's capacity
abbrev pub IsNew : Option (ℕ × ℕ) → List Entry → List Entry → ℕ → ℕ → Type 0
IsNew None old before i c = ⊥
IsNew (Some full) old before i c = (before ≡ old) × (i ≡ full.0) × (c ≡ full.1)

-- No block was written or dropped but by turns, and writers came to an end with so many blocks more.
pub record Grows (turns : ℕ → ℕ) (n : ℕ) (full : Option (ℕ × ℕ)) (old new : List Entry) : Type 0 where
  pub begins : Begins old new
  pub turned : (t i : ℕ) → done t i new ≤ done t i old + turns i
  pub worked : times is_worked new ≡ times is_worked old + n
  pub drops : (p i c : ℕ) → slice_get new p ≡ Some (Dropped i (cause.Full c)) → ((slice_get old p ≡ Some (Dropped i (cause.Full c))) × (take p new ≡ take p old)) ⊎ IsNew full old (take p new) i c

abbrev pub none : ℕ → ℕ
none i = 0

abbrev pub only : ℕ → ℕ → ℕ
only k i = bit (k == i)

pub grows_same : (es : List Entry) → Grows none 0 None es es
grows_same es = record {
  begins = begins_same es;
  turned = λ t i. omega arith;
  worked = omega arith;
  drops = λ p i c at. inl (at, refl);
}

is_new : (full : Option (ℕ × ℕ)) (old before before2 : List Entry) (i c : ℕ) → before2 ≡ before → IsNew full old before i c → IsNew full old before2 i c
is_new full old before before2 i c same new = subst (λ (es : List Entry). IsNew full old es i c) (sym same) new

-- by one entry that ends no waiting
pub grows_push : (turns : ℕ → ℕ) (n : ℕ) (full : Option (ℕ × ℕ)) (old mid : List Entry) (e : Entry) → is_plain e ≡ true → Grows turns n full old mid → Grows turns n full old (mid ++ e ∷ [])
grows_push turns n full old mid e plain g = record {
  begins = begins_on old mid (mid ++ e ∷ []) g.begins (begins_by mid (e ∷ []));
  turned = λ t i. let one = done_push t i mid e in let off = ap bit (plain_finishes i e plain) in let so_far = g.turned t i in omega (arith, one, off, so_far);
  worked = let more = times_more is_worked mid e in let off = ap bit (plain_worked e plain) in let so_far = g.worked in omega (arith, more, off, so_far);
  drops = λ p i c at. elim (at_push mid e (Dropped i (cause.Full c)) p at) [
    | inl w ↦ elim (g.drops p i c w.0) [
      | inl o ↦ inl (o.0, w.1 ∙ o.1)
      | inr o ↦ inr (is_new full old (take p mid) (take p (mid ++ e ∷ [])) i c w.1 o)
    ]
    | inr w ↦ absurd (not_plain i (cause.Full c) (ap is_plain w.0 ∙ plain))
  ];
}
  where
    not_plain : (i : ℕ) (why : DropCause) → is_plain (Dropped i why) ≡ true → ⊥
    not_plain i why h = cc

grows_on : (turns : ℕ → ℕ) (n : ℕ) (full : Option (ℕ × ℕ)) (old mid more : List Entry) → All (λ e. is_plain e ≡ true) more → Grows turns n full old mid → Grows turns n full old (mid ++ more)
grows_on turns n full old mid [] plain g = subst (Grows turns n full old) (sym (append-nil mid)) g
grows_on turns n full old mid (e ∷ more) plain g =
    let next = grows_push turns n full old mid e (plain 0 e (omega arith)) g in
    subst (Grows turns n full old) (append_assoc mid (e ∷ []) more) (grows_on turns n full old (mid ++ e ∷ []) more (λ k d l. plain (suc k) d (omega (arith, l))) next)

pub grows_plainly : (old new : List Entry) → GrowsPlainly old new → Grows none 0 None old new
grows_plainly old new g = subst (Grows none 0 None old) (sym g.is) (grows_on none 0 None old old g.more g.plain (grows_same old))

pub grows_wrote : (es : List Entry) (k : ℕ) → Grows (only k) 1 None es (es ++ Wrote k ∷ [])
grows_wrote es k = record {
  begins = begins_by es (Wrote k ∷ []);
  turned = λ t i. done_push t i es (Wrote k);
  worked = times_more is_worked es (Wrote k);
  drops = λ p i c at. elim (at_push es (Wrote k) (Dropped i (cause.Full c)) p at) [
    | inl w ↦ inl w
    | inr w ↦ absurd (let e = w.0 in cc)
  ];
}

-- block k is dropped for this cause
abbrev pub room_for : ℕ → DropCause → Option (ℕ × ℕ)
room_for k (cause.Full c) = Some (k, c)
room_for k _ = None

new_drop : (k i c : ℕ) (why : DropCause) (old before : List Entry) → Dropped i (cause.Full c) ≡ Dropped k why → before ≡ old → IsNew (room_for k why) old before i c
new_drop k i c (cause.Full cap) old before e same = (same, cc, cc)
new_drop k i c cause.Frozen old before e same = absurd cc
new_drop k i c cause.There old before e same = absurd cc

pub grows_dropped : (es : List Entry) (k : ℕ) (why : DropCause) → Grows (only k) (bit (is_frozen_cause why)) (room_for k why) es (es ++ Dropped k why ∷ [])
grows_dropped es k why = record {
  begins = begins_by es (Dropped k why ∷ []);
  turned = λ t i. done_push t i es (Dropped k why);
  worked = times_more is_worked es (Dropped k why);
  drops = λ p i c at. elim (at_push es (Dropped k why) (Dropped i (cause.Full c)) p at) [
    | inl w ↦ inl w
    | inr w ↦ inr (new_drop k i c why es (take p (es ++ Dropped k why ∷ [])) w.0 w.1)
  ];
}

-- whether the block leaves or not
pub grows_either : (turns : ℕ → ℕ) (n : ℕ) (full : Option (ℕ × ℕ)) (es mid : List Entry) (i : ℕ) (q : Bool) → Grows turns n full es mid → Grows turns n full es (if q then mid ++ Left i ∷ [] else mid)
grows_either turns n full es mid i true g = grows_push turns n full es mid (Left i) refl g
grows_either turns n full es mid i false g = g
