-- Flights and their numbers: a ticket begins once and ends at most once, and its owner stays.
use Rattle.std.proofs.Common.{◌≡◌, ℕ, zero, suc, ◌+◌, ◌<◌, ◌≤◌, List, [], ◌∷◌, ◌++◌, length, take, sym, refl, ap, ◌∙◌, subst, inl, inr, arith, Bool, true, false, Some, length-append}
use Rattle.std.specs.Prelude.{slice_get, if◌then◌else◌}
use Rattle.std.proofs.lemmas.Bool.{cases_order}
use Rattle.std.proofs.lemmas.List.Sums.{sum_by-cons, sum_by-take-le}
use Rattle.pfc_log.specs.declared.entry.Entry.{Entry}
use Rattle.pfc_log.specs.declared.entry.Entry.TheVariants as e
use Rattle.pfc_log.specs.declared.start.Start.{Start}
use Rattle.pfc_log.specs.Views.{Away, Flying, place, times, begins, is_begin, is_ended, IsFlying}
use Rattle.pfc_log.specs.Owners.{owners, owner, owning}
use Rattle.pfc_log.specs.Positions.{StandsAt, NoneAfter}
use Rattle.pfc_log.specs.Lawful.{Lawful, Row, MayBegin}
use Rattle.pfc_log.proofs.More.{times_more, times_one, owners_more}
use Rattle.pfc_log.proofs.Places.{from_end, stands_split, stands_take, take_stands, take_take, along, lawful_front, none_or_some}
use Rattle.pfc_log.proofs.Flights.{out_since, still_out, same_number}

pass_one : (test : Entry → Bool) (es : List Entry) (p : ℕ) (x : Entry) → StandsAt es p x → test x ≡ true → times test (take (suc p) es) ≡ times test (take p es) + 1
pass_one test [] p x h y = absurd cc
pass_one test (x ∷ es) zero f h y = let same : x ≡ f = cc in times_one test [] x (ap test same ∙ y)
pass_one test (x ∷ es) (suc p) f h y =
    sum_by-cons (λ (g : Entry). if test g then 1 else 0) x (take (suc p) es)
    ∙ ap (λ (a : ℕ). (if test x then 1 else 0) + a) (pass_one test es p f h y)
    ∙ omega (arith, sum_by-cons (λ (g : Entry). if test g then 1 else 0) x (take p es))

-- an entry that passes counts in each front behind it
pub pass_front : (test : Entry → Bool) (es : List Entry) (p q : ℕ) (x : Entry) → StandsAt es p x → test x ≡ true → p < q → times test (take p es) < times test (take q es)
pass_front test es p q x at y low =
    let front : times test (take (suc p) (take q es)) ≤ times test (take q es) = sum_by-take-le (λ (f : Entry). if test f then 1 else 0) (take q es) (suc p) in
    omega (arith, ap (times test) (take_take (suc p) q es (omega arith)), front, pass_one test es p x at y)

-- a ticket begins once
pub begin_once : (first : Start) (es : List Entry) → Lawful first es → (t i n j m p q : ℕ) → StandsAt es p (e.Begin t i n) → StandsAt es q (e.Begin t j m) → p ≡ q
begin_once first es law t i n j m p q at there =
    let one : t ≡ begins (take p es) = (law.rows p (e.Begin t i n) at).number in
    let two : t ≡ begins (take q es) = (law.rows q (e.Begin t j m) there).number in
    elim (cases_order p q) [
      | inl same ↦ same
      | inr w ↦ elim w [
        | inl low ↦ absurd (omega (arith, one, two, pass_front is_begin es p q (e.Begin t i n) at refl low))
        | inr high ↦ absurd (omega (arith, one, two, pass_front is_begin es q p (e.Begin t j m) there refl high))
      ]
    ]

ends_flying : (first : Start) (es : List Entry) (t : ℕ) (x : Entry) → Row first es x → is_ended t x ≡ true → IsFlying t es
ends_flying first es t (e.Landed u) row h = subst (λ (v : ℕ). IsFlying v es) (same_number u t h) row
ends_flying first es t (e.Failed u why) row h = subst (λ (v : ℕ). IsFlying v es) (same_number u t h) row
ends_flying first es t (e.Begin u j m) row h = absurd cc
ends_flying first es t (e.Dropped j why) row h = absurd cc
ends_flying first es t (e.Wrote j) row h = absurd cc
ends_flying first es t (e.Left j) row h = absurd cc
ends_flying first es t (e.Opened m) row h = absurd cc
ends_flying first es t (e.Closed m) row h = absurd cc
ends_flying first es t (e.Join u j m) row h = absurd cc
ends_flying first es t (e.Hit j spot m) row h = absurd cc
ends_flying first es t (e.Direct j m why) row h = absurd cc
ends_flying first es t e.Synced row h = absurd cc
ends_flying first es t (e.Claimed q c) row h = absurd cc
ends_flying first es t e.Frozen row h = absurd cc
ends_flying first es t e.WrittenOff row h = absurd cc
ends_flying first es t (e.Served m served) row h = absurd cc

-- what ends a flight stands behind its begin, with no other end between
pub end_since : (first : Start) (es : List Entry) → Lawful first es → (p t : ℕ) (x : Entry) → StandsAt es p x → is_ended t x ≡ true →
    (i n b : ℕ) × (b < p) × StandsAt es b (e.Begin t i n) × NoneAfter (is_ended t) (take p es) b
end_since first es law p t x at h =
    let fly : IsFlying t (take p es) = ends_flying first (take p es) t x (law.rows p x at) h in
    let since = out_since fly.0 t fly.1 (take p es) fly.2 in
    let whole = take_stands p es since.0 (e.Begin t fly.0 fly.1) since.1.begun in
    (fly.0, fly.1, since.0, whole.0, whole.1, since.1.out)

no_second : (first : Start) (es : List Entry) → Lawful first es → (p q t : ℕ) (x y : Entry) → StandsAt es p x → is_ended t x ≡ true → StandsAt es q y → is_ended t y ≡ true → p < q → ⊥
no_second first es law p q t x y at h there k low =
    let one = end_since first es law p t x at h in
    let two = end_since first es law q t y there k in
    let same : one.2 ≡ two.2 = begin_once first es law t one.0 one.1 two.0 two.1 one.2 two.2 one.4 two.4 in
    let seen : is_ended t x ≡ false = two.5.none p x (omega (arith, one.3, same)) (stands_take q es p x low at) in
    let clash : true ≡ false = sym h ∙ seen in cc

-- a ticket ends at most once
pub end_once : (first : Start) (es : List Entry) → Lawful first es → (t p q : ℕ) (x y : Entry) → StandsAt es p x → is_ended t x ≡ true → StandsAt es q y → is_ended t y ≡ true → p ≡ q
end_once first es law t p q x y at h there k = elim (cases_order p q) [
  | inl same ↦ same
  | inr w ↦ elim w [
    | inl low ↦ absurd (no_second first es law p q t x y at h there k low)
    | inr high ↦ absurd (no_second first es law q p t y x there k at h high)
  ]
]

-- between two begins of one block the first flight ended
pub ended_between : (first : Start) (es : List Entry) → Lawful first es → (i t n u m p q : ℕ) → StandsAt es p (e.Begin t i n) → StandsAt es q (e.Begin u i m) → p < q →
    (r : ℕ) × (x : Entry) × (p < r) × (r < q) × StandsAt es r x × (is_ended t x ≡ true)
ended_between first es law i t n u m p q at there low =
    let begun : StandsAt (take q es) p (e.Begin t i n) = stands_take q es p (e.Begin t i n) low at in
    let away : place i (take q es) ≡ Away = (law.rows q (e.Begin u i m) there).away in
    elim (none_or_some (is_ended t) p (take q es)) [
      | inl out ↦
          let fly : place i (take q es) ≡ Flying t n = still_out first i t n (take q es) (lawful_front first es q law) p (record { begun = begun; out = out }) in
          let clash : Away ≡ Flying t n = sym away ∙ fly in absurd cc
      | inr some ↦
          let whole = take_stands q es some.at some.entry some.stands in
          (some.at, some.entry, some.behind, whole.0, whole.1, some.passes)
    ]

get_old : (ns : List ℕ) (m t n : ℕ) → slice_get ns t ≡ Some n → slice_get (ns ++ m ∷ []) t ≡ Some n
get_old [] m t n h = absurd cc
get_old (x ∷ ns) m zero n h = h
get_old (x ∷ ns) m (suc t) n h = get_old ns m t n h

get_new : (ns : List ℕ) (m : ℕ) → slice_get (ns ++ m ∷ []) (length ns) ≡ Some m
get_new [] m = refl
get_new (x ∷ ns) m = get_new ns m

-- the owners so far stay as they are
owning_old : (ns : List ℕ) (x : Entry) (t n : ℕ) → slice_get ns t ≡ Some n → slice_get (owning ns x) t ≡ Some n
owning_old ns (e.Begin u j m) t n h = get_old ns m t n h
owning_old ns (e.Landed u) t n h = h
owning_old ns (e.Failed u why) t n h = h
owning_old ns (e.Dropped j why) t n h = h
owning_old ns (e.Wrote j) t n h = h
owning_old ns (e.Left j) t n h = h
owning_old ns (e.Opened m) t n h = h
owning_old ns (e.Closed m) t n h = h
owning_old ns (e.Join u j m) t n h = h
owning_old ns (e.Hit j spot m) t n h = h
owning_old ns (e.Direct j m why) t n h = h
owning_old ns e.Synced t n h = h
owning_old ns (e.Claimed q c) t n h = h
owning_old ns e.Frozen t n h = h
owning_old ns e.WrittenOff t n h = h
owning_old ns (e.Served m served) t n h = h

-- an owner stays, whatever is added
pub owner_more : (es : List Entry) (x : Entry) (t n : ℕ) → owner t es ≡ Some n → owner t (es ++ x ∷ []) ≡ Some n
owner_more es x t n h = ap (λ (ns : List ℕ). slice_get ns t) (owners_more es x) ∙ owning_old (owners es) x t n h

owning_length : (ns : List ℕ) (x : Entry) → length (owning ns x) ≡ length ns + (if is_begin x then 1 else 0)
owning_length ns (e.Begin u j m) = length-append ns (m ∷ [])
owning_length ns (e.Landed u) = omega arith
owning_length ns (e.Failed u why) = omega arith
owning_length ns (e.Dropped j why) = omega arith
owning_length ns (e.Wrote j) = omega arith
owning_length ns (e.Left j) = omega arith
owning_length ns (e.Opened m) = omega arith
owning_length ns (e.Closed m) = omega arith
owning_length ns (e.Join u j m) = omega arith
owning_length ns (e.Hit j spot m) = omega arith
owning_length ns (e.Direct j m why) = omega arith
owning_length ns e.Synced = omega arith
owning_length ns (e.Claimed q c) = omega arith
owning_length ns e.Frozen = omega arith
owning_length ns e.WrittenOff = omega arith
owning_length ns (e.Served m served) = omega arith

-- there is an owner for each begin
pub owners_length : (es : List Entry) → length (owners es) ≡ begins es
owners_length es = from_end (λ (l : List Entry). length (owners l) ≡ begins l) refl
    (λ xs x was. ap length (owners_more xs x) ∙ owning_length (owners xs) x ∙ ap (λ (a : ℕ). a + (if is_begin x then 1 else 0)) was ∙ sym (times_more is_begin xs x)) es

-- a flight that begins is its client's
pub owner_new : (es : List Entry) (t i n : ℕ) → t ≡ begins es → owner t (es ++ e.Begin t i n ∷ []) ≡ Some n
owner_new es t i n is = ap (λ (ns : List ℕ). slice_get ns t) (owners_more es (e.Begin t i n)) ∙ ap (λ (k : ℕ). slice_get (owners es ++ n ∷ []) k) (is ∙ sym (owners_length es)) ∙ get_new (owners es) n

-- in a lawful log the owner of a flight is the client of the entry that began it
pub owner_begun : (first : Start) (es : List Entry) → Lawful first es → (p t i n : ℕ) → StandsAt es p (e.Begin t i n) → owner t es ≡ Some n
owner_begun first = along first (λ (l : List Entry). (p t i n : ℕ) → StandsAt l p (e.Begin t i n) → owner t l ≡ Some n)
    (λ p t i n at. absurd cc)
    (λ xs x law row was p t i n at. elim (stands_split xs x (e.Begin t i n) p at) [
      | inl w ↦ owner_more xs x t n (was p t i n w)
      | inr w ↦
          let may : MayBegin first xs t i = subst (λ (f : Entry). Row first xs f) (sym w.0) row in
          ap (λ (f : Entry). owner t (xs ++ f ∷ [])) (sym w.0) ∙ owner_new xs t i n may.number
    ])
