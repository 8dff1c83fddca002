-- The runs of a set are the ones that `runs_of` gives.
use Rattle.std.proofs.Common.{◌≡◌, ◌⊎◌, ℕ, zero, suc, ◌+◌, ◌-◌, ◌<◌, ◌≤◌, List, [], ◌∷◌, length, sym, refl, ap, ◌∙◌, subst, inl, inr, arith, Bool, true, false}
use Rattle.std.specs.Prelude.{All, AllPairs, Any, slice_index_or, if◌then◌else◌}
use Rattle.std.proofs.lemmas.Bool.{cases_lt}
use Rattle.pfc_base.specs.BlockSet.{AreRuns, is_member}
use Rattle.pfc_log.specs.Runs.{runs_of, runs_from, onto_run}
use Rattle.pfc_log.proofs.Places.{cases_eq, eq_self}

abbrev Run : Type 0
Run = ℕ × ℕ

-- a number lies in a run
abbrev Holds : ℕ → Run → Type 0
Holds j run = (run.0 ≤ j) × (j ≤ run.1)

abbrev IsIn : ℕ → List Run → Type 0
IsIn j [] = ⊥
IsIn j (run ∷ runs) = Holds j run ⊎ IsIn j runs

-- each run is one, and ends more than one before all that is behind it
abbrev AreApart : List Run → Type 0
AreApart [] = Unit {0}
AreApart (run ∷ runs) = (run.0 ≤ run.1) × ((j : ℕ) → IsIn j runs → run.1 + 1 < j) × AreApart runs

any_in : (j : ℕ) (runs : List Run) (k : ℕ) (x : Run) → k < length runs → slice_index_or runs k x ≡ x → Holds j x → IsIn j runs
any_in j [] k x low is h = absurd (omega arith)
any_in j (run ∷ runs) zero x low is h = inl (subst (λ (r : Run). Holds j r) (sym is) h)
any_in j (run ∷ runs) (suc k) x low is h = inr (any_in j runs k x (omega arith) is h)

in_any : (j : ℕ) (runs : List Run) → IsIn j runs → Any (λ (run : Run). Holds j run) runs
in_any j [] h = absurd h
in_any j (run ∷ runs) (inl h) = (0, run, omega arith, refl, h)
in_any j (run ∷ runs) (inr h) = let a = in_any j runs h in (suc a.0, a.1, omega (arith, a.2), a.3, a.4)

apart : (runs : List Run) → All (λ (run : Run). run.0 ≤ run.1) runs → AllPairs (λ (run later : Run). run.1 + 1 < later.0) runs → AreApart runs
apart [] ordered pairs = tt
apart (run ∷ runs) ordered pairs = (
  ordered 0 run (omega arith),
  (λ j h. let a = in_any j runs h in
      let first : run.1 + 1 < (slice_index_or runs a.0 a.1).0 = pairs 0 (suc a.0) a.1 (omega arith) (omega (arith, a.2)) in
      omega (arith, first, ap (λ (r : Run). r.0) a.3, a.4.0)),
  apart runs (λ k d low. ordered (suc k) d (omega arith)) (λ i j d low high. pairs (suc i) (suc j) d (omega arith) (omega arith)),
)

-- j is a member of a set whose list begins at i
record IsMemberFrom (i : ℕ) (set : List Bool) (j : ℕ) : Type 0 where
  low : i ≤ j
  is : is_member set (j - i) ≡ true

-- the same with one more number at the front
front_member : (i : ℕ) (b : Bool) (set : List Bool) (j : ℕ) → IsMemberFrom (suc i) set j → IsMemberFrom i (b ∷ set) j
front_member i b set j h =
    let step : j - i ≡ suc (j - suc i) = omega (arith, h.low) in
    record { low = omega (arith, h.low); is = ap (is_member (b ∷ set)) step ∙ h.is }

rest_member : (i : ℕ) (b : Bool) (set : List Bool) (j : ℕ) → i < j → IsMemberFrom i (b ∷ set) j → IsMemberFrom (suc i) set j
rest_member i b set j low h =
    let step : j - i ≡ suc (j - suc i) = omega arith in
    record { low = omega arith; is = sym (ap (is_member (b ∷ set)) step) ∙ h.is }

first_member : (i : ℕ) (b : Bool) (set : List Bool) → IsMemberFrom i (b ∷ set) i → b ≡ true
first_member i b set h = let step : i - i ≡ 0 = omega arith in sym (ap (is_member (b ∷ set)) step) ∙ h.is

-- what is given of the runs of a set
record AreRunsFrom (i : ℕ) (set : List Bool) (runs : List Run) : Type 0 where
  apart : AreApart runs
  all : (j : ℕ) → IsMemberFrom i set j → IsIn j runs
  only : (j : ℕ) → IsIn j runs → IsMemberFrom i set j

absent_rest : (i : ℕ) (set : List Bool) (runs : List Run) → AreRunsFrom i (false ∷ set) runs → AreRunsFrom (suc i) set runs
absent_rest i set runs h = record {
  apart = h.apart;
  all = λ j m. h.all j (front_member i false set j m);
  only = λ j m. let was = h.only j m in elim (cases_eq i j) [
    | inl w ↦ let clash : false ≡ true = first_member i false set (subst (λ (v : ℕ). IsMemberFrom i (false ∷ set) v) (sym w.0) was) in absurd cc
    | inr w ↦ rest_member i false set j (omega (arith, was.low, w.0)) was
  ];
}

-- the first number of the first run is the first member
starts_at : (i : ℕ) (set : List Bool) (run : Run) (runs : List Run) → AreRunsFrom i (true ∷ set) (run ∷ runs) → run.0 ≡ i
starts_at i set run runs h =
    let own = h.only run.0 (inl (omega arith, h.apart.0)) in
    let zero_step : i - i ≡ 0 = omega arith in
    elim (h.all i (record { low = omega arith; is = ap (is_member (true ∷ set)) zero_step })) [
      | inl w ↦ omega (arith, own.low, w.0)
      | inr w ↦ omega (arith, own.low, h.apart.1 i w, h.apart.0)
    ]

-- the first run is that one number
single_rest : (i : ℕ) (set : List Bool) (run : Run) (runs : List Run) → run.0 ≡ i → run.1 ≡ i → AreRunsFrom i (true ∷ set) (run ∷ runs) → AreRunsFrom (suc i) set runs
single_rest i set run runs start end h = record {
  apart = h.apart.2;
  all = λ j m. elim (h.all j (front_member i true set j m)) [
    | inl w ↦ absurd (omega (arith, m.low, w.1, end))
    | inr w ↦ w
  ];
  only = λ j m. rest_member i true set j (omega (arith, h.apart.1 j m, end)) (h.only j (inr m));
}

-- the first run goes on
longer_rest : (i : ℕ) (set : List Bool) (run : Run) (runs : List Run) → run.0 ≡ i → i < run.1 → AreRunsFrom i (true ∷ set) (run ∷ runs) → AreRunsFrom (suc i) set ((suc i, run.1) ∷ runs)
longer_rest i set run runs start end h = record {
  apart = (omega arith, h.apart.1, h.apart.2);
  all = λ j m. elim (h.all j (front_member i true set j m)) [
    | inl w ↦ inl (m.low, w.1)
    | inr w ↦ inr w
  ];
  only = λ j m. elim m [
    | inl w ↦ rest_member i true set j (omega (arith, w.0)) (h.only j (inl (omega (arith, start, w.0), w.1)))
    | inr w ↦ rest_member i true set j (omega (arith, end, h.apart.1 j w)) (h.only j (inr w))
  ];
}

onto_single : (i : ℕ) (run : Run) (runs : List Run) → run.0 ≡ i → run.1 ≡ i → AreApart (run ∷ runs) → run ∷ runs ≡ onto_run i runs
onto_single i (a, b) [] start end h = let first : a ≡ i = start in let last : b ≡ i = end in cc
onto_single i (a, b) (next ∷ runs) start end h =
    let first : a ≡ i = start in let last : b ≡ i = end in
    let later : b + 1 < next.0 = h.1 next.0 (inl (omega arith, h.2.0)) in
    elim (cases_eq next.0 (suc i)) [
      | inl w ↦ absurd (omega (arith, w.0))
      | inr w ↦ let same : (a, b) ≡ (i, i) = cc in ap (λ (r : Run). r ∷ next ∷ runs) same ∙ sym (ap (λ (q : Bool). if q then (i, next.1) ∷ runs else (i, i) ∷ next ∷ runs) w.1)
    ]

onto_longer : (i : ℕ) (run : Run) (runs : List Run) → run.0 ≡ i → run ∷ runs ≡ onto_run i ((suc i, run.1) ∷ runs)
onto_longer i (a, b) runs start =
    let first : a ≡ i = start in
    let same : (a, b) ≡ (i, b) = cc in
    ap (λ (r : Run). r ∷ runs) same ∙ sym (ap (λ (q : Bool). if q then (i, b) ∷ runs else (i, i) ∷ (suc i, b) ∷ runs) (eq_self (suc i)))

exact : (set : List Bool) (i : ℕ) (runs : List Run) → AreRunsFrom i set runs → runs ≡ runs_from i set
exact [] i [] h = refl
exact [] i (run ∷ runs) h =
    let clash : false ≡ true = (h.only run.0 (inl (omega arith, h.apart.0))).is in absurd cc
exact (false ∷ set) i runs h = exact set (suc i) runs (absent_rest i set runs h)
exact (true ∷ set) i [] h =
    let zero_step : i - i ≡ 0 = omega arith in
    absurd (h.all i (record { low = omega arith; is = ap (is_member (true ∷ set)) zero_step }))
exact (true ∷ set) i (run ∷ runs) h =
    let start = starts_at i set run runs h in
    elim (cases_lt i run.1) [
      | inl low ↦ onto_longer i run runs start ∙ ap (onto_run i) (exact set (suc i) ((suc i, run.1) ∷ runs) (longer_rest i set run runs start low h))
      | inr high ↦
          let end : run.1 ≡ i = omega (arith, start, h.apart.0) in
          onto_single i run runs start end h.apart ∙ ap (onto_run i) (exact set (suc i) runs (single_rest i set run runs start end h))
    ]

pub runs_exact : (set : List Bool) (runs : List (ℕ × ℕ)) → AreRuns runs set → runs ≡ runs_of set
runs_exact set runs are = exact set 0 runs (record {
  apart = apart runs are.ordered are.apart;
  all = λ j m. let step : j - 0 ≡ j = omega arith in let a = (are.covers j).0 (sym (ap (is_member set) step) ∙ m.is) in any_in j runs a.0 a.1 a.2 a.3 a.4;
  only = λ j m. let step : j - 0 ≡ j = omega arith in record { low = omega arith; is = ap (is_member set) step ∙ (are.covers j).1 (in_any j runs m) };
})
