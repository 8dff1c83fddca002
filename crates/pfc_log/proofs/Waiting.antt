-- Blocks outside a file stay away, and the blocks that wait are counted one by one.
use Rattle.std.proofs.Common.{◌≡◌, ◌≢◌, ℕ, zero, suc, ◌+◌, ◌<◌, ◌≤◌, List, refl, ap, ◌∙◌, subst, inl, inr, arith, Bool, true, false}
use Rattle.std.specs.Prelude.{◌==◌, if◌then◌else◌}
use Rattle.std.proofs.lemmas.Bool.{cases_lt}
use Rattle.pfc_log.specs.declared.entry.Entry.{Entry}
use Rattle.pfc_log.specs.declared.entry.Entry.TheVariants as e
use Rattle.pfc_log.specs.declared.start.Start.{Start}
use Rattle.pfc_log.specs.Views.{Place, Away, Flying, place, moves, landing, failing, ending, bound, count_below}
use Rattle.pfc_log.specs.Lawful.{Lawful, Row}
use Rattle.pfc_log.proofs.More.{place_more}
use Rattle.pfc_log.proofs.Places.{cases_eq, eq_self, along}

if_away : (q : Bool) → (if q then Away else Away) ≡ Away
if_away true = refl
if_away false = refl

-- a lawful entry leaves a block away that the file doesn't have
stays_away : (first : Start) (i : ℕ) (es : List Entry) (x : Entry) → Row first es x → bound first ≤ i → place i es ≡ Away → moves i (place i es) x ≡ Away
stays_away first i es (e.Begin u j m) row high h = elim (cases_eq j i) [
  | inl w ↦ absurd (omega (arith, row.within, w.0, high))
  | inr w ↦ ap (λ (q : Bool). if q then Flying u m else place i es) w.1 ∙ h
]
stays_away first i es (e.Landed u) row high h = ap (landing u) h
stays_away first i es (e.Failed u why) row high h = ap (failing u) h
stays_away first i es (e.Dropped j why) row high h = ap (λ (p : Place). if j == i then ending p else p) h ∙ if_away (j == i)
stays_away first i es (e.Wrote j) row high h = ap (λ (p : Place). if j == i then ending p else p) h ∙ if_away (j == i)
stays_away first i es (e.Left j) row high h = ap (λ (p : Place). if j == i then Away else p) h ∙ if_away (j == i)
stays_away first i es (e.Opened m) row high h = h
stays_away first i es (e.Closed m) row high h = h
stays_away first i es (e.Join u j m) row high h = h
stays_away first i es (e.Hit j spot m) row high h = h
stays_away first i es (e.Direct j m why) row high h = h
stays_away first i es e.Synced row high h = h
stays_away first i es (e.Claimed q c) row high h = h
stays_away first i es e.Frozen row high h = h
stays_away first i es e.WrittenOff row high h = h
stays_away first i es (e.Served m served) row high h = h

-- in a lawful log a block that the file doesn't have is away
pub away_past : (first : Start) (es : List Entry) → Lawful first es → (i : ℕ) → bound first ≤ i → place i es ≡ Away
away_past first es law i high = along first (λ (l : List Entry). place i l ≡ Away) refl (λ xs x before row h. place_more i xs x ∙ stays_away first i xs x row high h) es law

-- the test, but for one number
abbrev pub except : ℕ → (ℕ → Bool) → ℕ → Bool
except b f i = if b == i then false else f i

pub except_at : (b : ℕ) (f : ℕ → Bool) → except b f b ≡ false
except_at b f = ap (λ (q : Bool). if q then false else f b) (eq_self b)

pub except_else : (b : ℕ) (f : ℕ → Bool) (i : ℕ) → b ≢ i → except b f i ≡ f i
except_else b f i apart = elim (cases_eq b i) [
  | inl w ↦ absurd (apart w.0)
  | inr w ↦ ap (λ (q : Bool). if q then false else f i) w.1
]

-- tests that agree below a bound
count_agrees : (f g : ℕ → Bool) (n : ℕ) → ((i : ℕ) → i < n → f i ≡ g i) → count_below f n ≡ count_below g n
count_agrees f g zero same = refl
count_agrees f g (suc n) same =
    let rest = count_agrees f g n (λ i low. same i (omega (arith, low))) in
    let last = ap {B = ℕ} (λ (q : Bool). if q then 1 else 0) (same n (omega arith)) in
    omega (arith, rest, last)

-- one number less
pub count_except : (f : ℕ → Bool) (b n : ℕ) → b < n → f b ≡ true → count_below (except b f) n + 1 ≡ count_below f n
count_except f b zero low passes = absurd (omega arith)
count_except f b (suc n) low passes = elim (cases_eq b n) [
  | inl w ↦
      let rest = count_agrees (except b f) f n (λ i less. except_else b f i (λ same. absurd (omega (arith, same, less, w.0)))) in
      let gone = ap {B = ℕ} (λ (q : Bool). if q then 1 else 0) (subst (λ (k : ℕ). except b f k ≡ false) w.0 (except_at b f)) in
      let there = ap {B = ℕ} (λ (q : Bool). if q then 1 else 0) (subst (λ (k : ℕ). f k ≡ true) w.0 passes) in
      omega (arith, rest, gone, there)
  | inr w ↦
      let rest = count_except f b n (apart_low w.0) passes in
      let last = ap {B = ℕ} (λ (q : Bool). if q then 1 else 0) (except_else b f n w.0) in
      omega (arith, rest, last)
]
  where
    apart_low : b ≢ n → b < n
    apart_low apart = elim (cases_lt b n) [
      | inl less ↦ less
      | inr high ↦ absurd (apart (omega (arith, low, high)))
    ]
