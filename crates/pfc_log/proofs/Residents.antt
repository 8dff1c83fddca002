-- Which blocks are in memory, read at the places of entries.
use Rattle.std.proofs.Common.{◌≡◌, ◌⊎◌, ℕ, ◌<◌, ◌≤◌, List, [], ◌∷◌, ◌++◌, length, sym, refl, ap, ◌∙◌, subst, inl, inr, arith, Bool, true, false, Some}
use Rattle.std.specs.Prelude.{slice_get, ◌==◌, ◌||◌, if◌then◌else◌}
use Rattle.std.proofs.lemmas.Option.{slice_get_within}
use Rattle.pfc_log.specs.declared.entry.Entry.{Entry}
use Rattle.pfc_log.specs.declared.entry.Entry.TheVariants as e
use Rattle.pfc_log.specs.declared.start.Start.{Start}
use Rattle.pfc_log.specs.Views.{Place, Away, Flying, Here, place, moves, landing, failing, ending, IsFlying}
use Rattle.pfc_log.specs.Positions.{StandsAt, NoneAfter, BeganBefore, IsInSince, IsDoneSince, is_left, is_done}
use Rattle.pfc_log.specs.Lawful.{Lawful, Row}
use Rattle.pfc_log.proofs.More.{place_more}
use Rattle.pfc_log.proofs.Places.{from_end, by_bool, cases_eq, eq_self, stands_old, stands_new, stands_split, along, none_push, none_last, none_pop, none_now, some_push}
use Rattle.pfc_log.proofs.Flights.{out_since, same_number, if_place}
use Rattle.pfc_log.proofs.Tickets.{begin_once}

-- a block came by the entry that landed its flight
record Lands (i : ℕ) (p : Place) (x : Entry) (t : ℕ) (d : Bool) : Type 0 where
  landed : x ≡ e.Landed t
  fresh : d ≡ false
  client : ℕ
  flew : p ≡ Flying t client

-- a block was here, and the entry doesn't take it away
record Stays (i : ℕ) (p : Place) (x : Entry) (t : ℕ) (d : Bool) : Type 0 where
  left : is_left i x ≡ false
  done : Bool
  here : p ≡ Here t done
  now : d ≡ (is_done i x || done)

landing_here : (i u : ℕ) (p : Place) (t : ℕ) (d : Bool) → landing u p ≡ Here t d → Lands i p (e.Landed u) t d ⊎ Stays i p (e.Landed u) t d
landing_here i u Away t d h = absurd cc
landing_here i u (Here v c) t d h = inr (record { left = refl; done = d; here = h; now = refl })
landing_here i u (Flying v m) t d h = elim (if_place (v == u) (Here v false) (Flying v m) (Here t d) h) [
  | inl w ↦ let same : v ≡ u = same_number v u w.0 in let here : Here v false ≡ Here t d = w.1 in let one : v ≡ t = cc in
      inl (record { landed = ap e.Landed (sym same ∙ one); fresh = cc; client = m; flew = ap (λ (a : ℕ). Flying a m) one })
  | inr w ↦ let fly : Flying v m ≡ Here t d = w.1 in absurd cc
]

failing_here : (i u : ℕ) (p : Place) (t : ℕ) (d : Bool) → failing u p ≡ Here t d → p ≡ Here t d
failing_here i u Away t d h = absurd cc
failing_here i u (Here v c) t d h = h
failing_here i u (Flying v m) t d h = elim (if_place (v == u) Away (Flying v m) (Here t d) h) [
  | inl w ↦ let gone : Away ≡ Here t d = w.1 in absurd cc
  | inr w ↦ let fly : Flying v m ≡ Here t d = w.1 in absurd cc
]

ending_here : (p : Place) (t : ℕ) (d : Bool) → ending p ≡ Here t d → (c : Bool) × (p ≡ Here t c) × (d ≡ true)
ending_here Away t d h = absurd cc
ending_here (Flying v m) t d h = absurd cc
ending_here (Here v c) t d h = let same : v ≡ t = cc in (c, ap (λ (a : ℕ). Here a c) same, cc)

-- `written` and `dropped` alike: the test says whether the entry is of the block
ended_here : (i : ℕ) (q : Bool) (p : Place) (x : Entry) (t : ℕ) (d : Bool) → is_left i x ≡ false → is_done i x ≡ q → (if q then ending p else p) ≡ Here t d → Stays i p x t d
ended_here i q p x t d l is h = elim (if_place q (ending p) p (Here t d) h) [
  | inl w ↦ let was = ending_here p t d w.1 in record { left = l; done = was.0; here = was.1; now = was.2 ∙ ap (λ (a : Bool). a || was.0) (sym w.0 ∙ sym is) }
  | inr w ↦ record { left = l; done = d; here = w.1; now = ap (λ (a : Bool). a || d) (sym w.0 ∙ sym is) }
]

moves_here : (i : ℕ) (p : Place) (x : Entry) (t : ℕ) (d : Bool) → moves i p x ≡ Here t d → Lands i p x t d ⊎ Stays i p x t d
moves_here i p (e.Begin u j m) t d h = elim (if_place (j == i) (Flying u m) p (Here t d) h) [
  | inl w ↦ let fly : Flying u m ≡ Here t d = w.1 in absurd cc
  | inr w ↦ inr (record { left = refl; done = d; here = w.1; now = refl })
]
moves_here i p (e.Landed u) t d h = landing_here i u p t d h
moves_here i p (e.Failed u why) t d h = inr (record { left = refl; done = d; here = failing_here i u p t d h; now = refl })
moves_here i p (e.Dropped j why) t d h = inr (ended_here i (j == i) p (e.Dropped j why) t d refl refl h)
moves_here i p (e.Wrote j) t d h = inr (ended_here i (j == i) p (e.Wrote j) t d refl refl h)
moves_here i p (e.Left j) t d h = elim (if_place (j == i) Away p (Here t d) h) [
  | inl w ↦ let gone : Away ≡ Here t d = w.1 in absurd cc
  | inr w ↦ inr (record { left = w.0; done = d; here = w.1; now = refl })
]
moves_here i p (e.Opened m) t d h = inr (record { left = refl; done = d; here = h; now = refl })
moves_here i p (e.Closed m) t d h = inr (record { left = refl; done = d; here = h; now = refl })
moves_here i p (e.Join u j m) t d h = inr (record { left = refl; done = d; here = h; now = refl })
moves_here i p (e.Hit j spot m) t d h = inr (record { left = refl; done = d; here = h; now = refl })
moves_here i p (e.Direct j m why) t d h = inr (record { left = refl; done = d; here = h; now = refl })
moves_here i p e.Synced t d h = inr (record { left = refl; done = d; here = h; now = refl })
moves_here i p (e.Claimed q c) t d h = inr (record { left = refl; done = d; here = h; now = refl })
moves_here i p e.Frozen t d h = inr (record { left = refl; done = d; here = h; now = refl })
moves_here i p e.WrittenOff t d h = inr (record { left = refl; done = d; here = h; now = refl })
moves_here i p (e.Served m served) t d h = inr (record { left = refl; done = d; here = h; now = refl })

done_push : (i p : ℕ) (c : Bool) (es : List Entry) (x : Entry) → IsDoneSince c es i p → is_done i x ≡ false → IsDoneSince c (es ++ x ∷ []) i p
done_push i p true es x was h = some_push (is_done i) es x p was
done_push i p false es x was h = none_push (is_done i) es x p was h

-- one more entry may say that the block is done
done_more : (i p : ℕ) (c : Bool) (es : List Entry) (x : Entry) → p < length es → IsDoneSince c es i p → IsDoneSince (is_done i x || c) (es ++ x ∷ []) i p
done_more i p c es x low was = by_bool (is_done i x)
    (λ y. subst (λ (q : Bool). IsDoneSince q (es ++ x ∷ []) i p) (sym (ap (λ (a : Bool). a || c) y)) (record { at = length es; entry = x; behind = low; stands = stands_new es x; passes = y }))
    (λ o. subst (λ (q : Bool). IsDoneSince q (es ++ x ∷ []) i p) (sym (ap (λ (a : Bool). a || c) o)) (done_push i p c es x was o))

done_same : (i p : ℕ) (es : List Entry) (a b : Bool) → IsDoneSince a es i p → IsDoneSince b es i p → a ≡ b
done_same i p es true true h k = refl
done_same i p es false false h k = refl
done_same i p es true false h k = let clash : true ≡ false = sym h.passes ∙ k.none h.at h.entry h.behind h.stands in absurd cc
done_same i p es false true h k = let clash : true ≡ false = sym k.passes ∙ h.none k.at k.entry k.behind k.stands in absurd cc

began_old : (es : List Entry) (x : Entry) (i t p : ℕ) → BeganBefore es i t p → BeganBefore (es ++ x ∷ []) i t p
began_old es x i t p was = record { at = was.at; client = was.client; before = was.before; stands = stands_old es x (e.Begin t i was.client) was.at was.stands }

began_pop : (es : List Entry) (x : Entry) (i t p : ℕ) → p ≤ length es → BeganBefore (es ++ x ∷ []) i t p → BeganBefore es i t p
began_pop es x i t p low was = elim (stands_split es x (e.Begin t i was.client) was.at was.stands) [
  | inl w ↦ record { at = was.at; client = was.client; before = was.before; stands = w }
  | inr w ↦ absurd (omega (arith, w.1, was.before))
]

-- a block that is in memory came there by a landed flight, and hasn't left
pub in_since : (i t : ℕ) (es : List Entry) (d : Bool) → place i es ≡ Here t d → (p : ℕ) × IsInSince es i t p × IsDoneSince d es i p
in_since i t = from_end (λ (l : List Entry). (d : Bool) → place i l ≡ Here t d → (p : ℕ) × IsInSince l i t p × IsDoneSince d l i p)
    (λ d h. absurd cc)
    (λ xs x was d h. elim (moves_here i (place i xs) x t d (sym (place_more i xs x) ∙ h)) [
      | inl w ↦
          let since = out_since i t w.client xs w.flew in (
            length xs,
            record {
              landed = stands_new xs x ∙ ap (λ (f : Entry). Some f) w.landed;
              begun = record { at = since.0; client = w.client; before = slice_get_within xs since.0 (e.Begin t i w.client) since.1.begun; stands = stands_old xs x (e.Begin t i w.client) since.0 since.1.begun };
              stays = none_last (is_left i) xs x;
            },
            subst (λ (q : Bool). IsDoneSince q (xs ++ x ∷ []) i (length xs)) (sym w.fresh) (none_last (is_done i) xs x),
          )
      | inr w ↦
          let since = was w.done w.here in (
            since.0,
            record {
              landed = stands_old xs x (e.Landed t) since.0 since.1.landed;
              begun = began_old xs x i t since.0 since.1.begun;
              stays = none_push (is_left i) xs x since.0 since.1.stays w.left;
            },
            subst (λ (q : Bool). IsDoneSince q (xs ++ x ∷ []) i since.0) (sym w.now) (done_more i since.0 w.done xs x (slice_get_within xs since.0 (e.Landed t) since.1.landed) since.2),
          )
    ])

done_if : (q c : Bool) (t : ℕ) → (if q then Here t true else Here t c) ≡ Here t (q || c)
done_if true c t = refl
done_if false c t = refl

-- a lawful entry that isn't a `left` of the block leaves it in memory
stays_here : (first : Start) (i t : ℕ) (c : Bool) (es : List Entry) (x : Entry) → Row first es x → place i es ≡ Here t c → is_left i x ≡ false → moves i (place i es) x ≡ Here t (is_done i x || c)
stays_here first i t c es (e.Begin u j m) row h other = elim (cases_eq j i) [
  | inl w ↦ let away : place i es ≡ Away = ap (λ (b : ℕ). place b es) (sym w.0) ∙ row.away in let clash : Away ≡ Here t c = sym away ∙ h in absurd cc
  | inr w ↦ ap (λ (q : Bool). if q then Flying u m else place i es) w.1 ∙ h
]
stays_here first i t c es (e.Landed u) row h other = ap (landing u) h
stays_here first i t c es (e.Failed u why) row h other = ap (failing u) h
stays_here first i t c es (e.Dropped j why) row h other = ap (λ (p : Place). if j == i then ending p else p) h ∙ done_if (j == i) c t
stays_here first i t c es (e.Wrote j) row h other = ap (λ (p : Place). if j == i then ending p else p) h ∙ done_if (j == i) c t
stays_here first i t c es (e.Left j) row h other = ap (λ (q : Bool). if q then Away else place i es) other ∙ h
stays_here first i t c es (e.Opened m) row h other = h
stays_here first i t c es (e.Closed m) row h other = h
stays_here first i t c es (e.Join u j m) row h other = h
stays_here first i t c es (e.Hit j spot m) row h other = h
stays_here first i t c es (e.Direct j m why) row h other = h
stays_here first i t c es e.Synced row h other = h
stays_here first i t c es (e.Claimed q n) row h other = h
stays_here first i t c es e.Frozen row h other = h
stays_here first i t c es e.WrittenOff row h other = h
stays_here first i t c es (e.Served m served) row h other = h

-- the flight that lands is the one that was begun for the block
lands_own : (first : Start) (es : List Entry) → Lawful first es → (i t p : ℕ) → BeganBefore es i t p → IsFlying t es → (n : ℕ) × (place i es ≡ Flying t n)
lands_own first es law i t p begun fly =
    let since = out_since fly.0 t fly.1 es fly.2 in
    let same : begun.at ≡ since.0 = begin_once first es law t i begun.client fly.0 fly.1 begun.at since.0 begun.stands since.1.begun in
    let both : Some (e.Begin t i begun.client) ≡ Some (e.Begin t fly.0 fly.1) = sym begun.stands ∙ ap (slice_get es) same ∙ since.1.begun in
    let block : fly.0 ≡ i = cc in
    (fly.1, ap (λ (b : ℕ). place b es) (sym block) ∙ fly.2)

nothing : (p : ℕ) (x : Entry) → StandsAt [] p x → ⊥
nothing p x h = cc

-- in a lawful log, a block that came and hasn't left is in memory
pub still_in : (first : Start) (i t : ℕ) (es : List Entry) → Lawful first es → (p : ℕ) → IsInSince es i t p → (d : Bool) × (place i es ≡ Here t d) × IsDoneSince d es i p
still_in first i t = along first (λ (l : List Entry). (p : ℕ) → IsInSince l i t p → (d : Bool) × (place i l ≡ Here t d) × IsDoneSince d l i p)
    (λ p since. absurd (nothing p (e.Landed t) since.landed))
    (λ xs x law row was p since. elim (stands_split xs x (e.Landed t) p since.landed) [
      | inl w ↦
          let low : p < length xs = slice_get_within xs p (e.Landed t) w in
          let old = was p (record { landed = w; begun = began_pop xs x i t p (omega arith) since.begun; stays = none_pop (is_left i) xs x p since.stays }) in
          (is_done i x || old.0, place_more i xs x ∙ stays_here first i t old.0 xs x row old.1 (none_now (is_left i) xs x p low since.stays), done_more i p old.0 xs x low old.2)
      | inr w ↦
          let fly : IsFlying t xs = subst (λ (f : Entry). Row first xs f) (sym w.0) row in
          let own = lands_own first xs law i t p (began_pop xs x i t p (omega (arith, w.1)) since.begun) fly in (
            false,
            place_more i xs x ∙ ap (moves i (place i xs)) (sym w.0) ∙ ap (landing t) own.1 ∙ ap (λ (q : Bool). if q then Here t false else Flying t own.0) (eq_self t),
            subst (λ (q : ℕ). NoneAfter (is_done i) (xs ++ x ∷ []) q) (sym w.1) (none_last (is_done i) xs x),
          )
    ])

pub here_exact : (first : Start) (i t : ℕ) (es : List Entry) → Lawful first es → (d : Bool) (p : ℕ) → IsInSince es i t p → IsDoneSince d es i p → place i es ≡ Here t d
here_exact first i t es law d p since done =
    let is = still_in first i t es law p since in
    is.1 ∙ ap (Here t) (done_same i p es is.0 d is.2 done)
