-- Where a block is, read at the places of its entries.
use Rattle.std.proofs.Common.{◌≡◌, ◌⊎◌, ℕ, List, [], length, sym, refl, ap, ◌∙◌, inl, inr, Bool, true, false, Some}
use Rattle.std.specs.Prelude.{◌==◌, if◌then◌else◌}
use Rattle.std.proofs.lemmas.Option.{slice_get_within}
use Rattle.pfc_log.specs.declared.entry.Entry.{Entry}
use Rattle.pfc_log.specs.declared.entry.Entry.TheVariants as e
use Rattle.pfc_log.specs.declared.start.Start.{Start}
use Rattle.pfc_log.specs.Views.{Place, Away, Flying, Here, place, moves, landing, failing, ending, is_ended}
use Rattle.pfc_log.specs.Positions.{StandsAt, IsOutSince}
use Rattle.pfc_log.specs.Lawful.{Lawful, Row}
use Rattle.pfc_log.proofs.More.{place_more}
use Rattle.pfc_log.proofs.Places.{from_end, by_bool, cases_eq, eq_self, eq_sym, stands_old, stands_new, stands_split, along, none_push, none_last, none_pop, none_now}

landing_flying : (u : ℕ) (p : Place) (t n : ℕ) → landing u p ≡ Flying t n → (p ≡ Flying t n) × ((u == t) ≡ false)
landing_flying u Away t n h = absurd cc
landing_flying u (Here v d) t n h = absurd cc
landing_flying u (Flying v m) t n h = by_bool (v == u)
    (λ y. let gone : Here v false ≡ Flying t n = sym (ap (λ (q : Bool). if q then Here v false else Flying v m) y) ∙ h in absurd cc)
    (λ o. let stays : Flying v m ≡ Flying t n = sym (ap (λ (q : Bool). if q then Here v false else Flying v m) o) ∙ h in
    let same : v ≡ t = cc in (stays, eq_sym t u (ap (λ (x : ℕ). x == u) (sym same) ∙ o)))

failing_flying : (u : ℕ) (p : Place) (t n : ℕ) → failing u p ≡ Flying t n → (p ≡ Flying t n) × ((u == t) ≡ false)
failing_flying u Away t n h = absurd cc
failing_flying u (Here v d) t n h = absurd cc
failing_flying u (Flying v m) t n h = by_bool (v == u)
    (λ y. let gone : Away ≡ Flying t n = sym (ap (λ (q : Bool). if q then Away else Flying v m) y) ∙ h in absurd cc)
    (λ o. let stays : Flying v m ≡ Flying t n = sym (ap (λ (q : Bool). if q then Away else Flying v m) o) ∙ h in
    let same : v ≡ t = cc in (stays, eq_sym t u (ap (λ (x : ℕ). x == u) (sym same) ∙ o)))

ending_flying : (p : Place) (t n : ℕ) → ending p ≡ Flying t n → p ≡ Flying t n
ending_flying Away t n h = h
ending_flying (Flying u m) t n h = h
ending_flying (Here u d) t n h = absurd cc

-- what a choice between two places is
pub if_place : (q : Bool) (x y z : Place) → (if q then x else y) ≡ z → ((q ≡ true) × (x ≡ z)) ⊎ ((q ≡ false) × (y ≡ z))
if_place true x y z h = inl (refl, h)
if_place false x y z h = inr (refl, h)

if_ending : (q : Bool) (p : Place) (t n : ℕ) → (if q then ending p else p) ≡ Flying t n → p ≡ Flying t n
if_ending true p t n h = ending_flying p t n h
if_ending false p t n h = h

pub same_number : (a b : ℕ) → (a == b) ≡ true → a ≡ b
same_number a b h = elim (cases_eq a b) [
  | inl w ↦ w.0
  | inr w ↦ let clash : true ≡ false = sym h ∙ w.1 in absurd cc
]

-- a block is in flight by the entry that began the flight, or was and the entry doesn't end it
moves_flying : (i : ℕ) (p : Place) (x : Entry) (t n : ℕ) → moves i p x ≡ Flying t n → (x ≡ e.Begin t i n) ⊎ ((p ≡ Flying t n) × (is_ended t x ≡ false))
moves_flying i p (e.Begin u j m) t n h = elim (if_place (j == i) (Flying u m) p (Flying t n) h) [
  | inl w ↦ let at : j ≡ i = same_number j i w.0 in let fly : Flying u m ≡ Flying t n = w.1 in inl cc
  | inr w ↦ inr (w.1, refl)
]
moves_flying i p (e.Landed u) t n h = inr (landing_flying u p t n h)
moves_flying i p (e.Failed u why) t n h = inr (failing_flying u p t n h)
moves_flying i p (e.Dropped j why) t n h = inr (if_ending (j == i) p t n h, refl)
moves_flying i p (e.Wrote j) t n h = inr (if_ending (j == i) p t n h, refl)
moves_flying i p (e.Left j) t n h = elim (if_place (j == i) Away p (Flying t n) h) [
  | inl w ↦ let gone : Away ≡ Flying t n = w.1 in absurd cc
  | inr w ↦ inr (w.1, refl)
]
moves_flying i p (e.Opened m) t n h = inr (h, refl)
moves_flying i p (e.Closed m) t n h = inr (h, refl)
moves_flying i p (e.Join u j m) t n h = inr (h, refl)
moves_flying i p (e.Hit j spot m) t n h = inr (h, refl)
moves_flying i p (e.Direct j m why) t n h = inr (h, refl)
moves_flying i p e.Synced t n h = inr (h, refl)
moves_flying i p (e.Claimed q c) t n h = inr (h, refl)
moves_flying i p e.Frozen t n h = inr (h, refl)
moves_flying i p e.WrittenOff t n h = inr (h, refl)
moves_flying i p (e.Served m served) t n h = inr (h, refl)

-- a block that is in flight got there by a begin, and its flight hasn't ended
pub out_since : (i t n : ℕ) (es : List Entry) → place i es ≡ Flying t n → (p : ℕ) × IsOutSince es i t n p
out_since i t n es = from_end (λ (l : List Entry). place i l ≡ Flying t n → (p : ℕ) × IsOutSince l i t n p)
    (λ h. absurd cc)
    (λ xs x was h. elim (moves_flying i (place i xs) x t n (sym (place_more i xs x) ∙ h)) [
      | inl w ↦ (length xs, record { begun = stands_new xs x ∙ ap (λ (f : Entry). Some f) w; out = none_last (is_ended t) xs x })
      | inr w ↦ let since = was w.0 in
          (since.0, record { begun = stands_old xs x (e.Begin t i n) since.0 since.1.begun; out = none_push (is_ended t) xs x since.0 since.1.out w.1 })
    ]) es

-- a lawful entry that doesn't end its flight leaves a block in flight
stays_flying : (first : Start) (i t n : ℕ) (es : List Entry) (x : Entry) → Row first es x → place i es ≡ Flying t n → is_ended t x ≡ false → moves i (place i es) x ≡ Flying t n
stays_flying first i t n es (e.Begin u j m) row h other = elim (cases_eq j i) [
  | inl w ↦ let away : place i es ≡ Away = ap (λ (b : ℕ). place b es) (sym w.0) ∙ row.away in let clash : Away ≡ Flying t n = sym away ∙ h in absurd cc
  | inr w ↦ ap (λ (q : Bool). if q then Flying u m else place i es) w.1 ∙ h
]
stays_flying first i t n es (e.Landed u) row h other = ap (landing u) h ∙ ap (λ (q : Bool). if q then Here t false else Flying t n) (eq_sym u t other)
stays_flying first i t n es (e.Failed u why) row h other = ap (failing u) h ∙ ap (λ (q : Bool). if q then Away else Flying t n) (eq_sym u t other)
stays_flying first i t n es (e.Dropped j why) row h other = ap (λ (p : Place). if j == i then ending p else p) h ∙ elim (j == i) as (λ q. (if q then Flying t n else Flying t n) ≡ Flying t n) [ true ↦ refl | false ↦ refl ]
stays_flying first i t n es (e.Wrote j) row h other = ap (λ (p : Place). if j == i then ending p else p) h ∙ elim (j == i) as (λ q. (if q then Flying t n else Flying t n) ≡ Flying t n) [ true ↦ refl | false ↦ refl ]
stays_flying first i t n es (e.Left j) row h other = elim (cases_eq j i) [
  | inl w ↦ let here : place i es ≡ Here row.0 true = ap (λ (b : ℕ). place b es) (sym w.0) ∙ row.1 in let clash : Here row.0 true ≡ Flying t n = sym here ∙ h in absurd cc
  | inr w ↦ ap (λ (q : Bool). if q then Away else place i es) w.1 ∙ h
]
stays_flying first i t n es (e.Opened m) row h other = h
stays_flying first i t n es (e.Closed m) row h other = h
stays_flying first i t n es (e.Join u j m) row h other = h
stays_flying first i t n es (e.Hit j spot m) row h other = h
stays_flying first i t n es (e.Direct j m why) row h other = h
stays_flying first i t n es e.Synced row h other = h
stays_flying first i t n es (e.Claimed q c) row h other = h
stays_flying first i t n es e.Frozen row h other = h
stays_flying first i t n es e.WrittenOff row h other = h
stays_flying first i t n es (e.Served m served) row h other = h

-- in a lawful log, a block whose flight began and hasn't ended is in flight
pub still_out : (first : Start) (i t n : ℕ) (es : List Entry) → Lawful first es → (p : ℕ) → IsOutSince es i t n p → place i es ≡ Flying t n
still_out first i t n = along first (λ (l : List Entry). (p : ℕ) → IsOutSince l i t n p → place i l ≡ Flying t n)
    (λ p since. absurd (nothing p (e.Begin t i n) since.begun))
    (λ xs x law row was p since. place_more i xs x ∙ elim (stands_split xs x (e.Begin t i n) p since.begun) [
      | inl w ↦ stays_flying first i t n xs x row
          (was p (record { begun = w; out = none_pop (is_ended t) xs x p since.out }))
          (none_now (is_ended t) xs x p (slice_get_within xs p (e.Begin t i n) w) since.out)
      | inr w ↦ ap (moves i (place i xs)) (sym w.0) ∙ ap (λ (q : Bool). if q then Flying t n else place i xs) (eq_self i)
    ])
  where
    nothing : (p : ℕ) (x : Entry) → StandsAt [] p x → ⊥
    nothing p x h = cc
