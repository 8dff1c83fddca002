-- The runs of a set, found from its low end on.
use Rattle.std.proofs.Common.{◌≡◌, ◌↔◌, ℕ, ◌+◌, ◌-◌, ◌<◌, ◌≤◌, Bool, true, false, not, List, [], ◌∷◌, ◌++◌, Option, Some, None, unwrap_or, ◌⊎◌, subst, length, get_or, refl, sym, ap, ◌∙◌, arith, inl, inr, length-append}
use Rattle.std.specs.List.{All, AllPairs, Any}
use Rattle.std.proofs.lemmas.Bool.{cases_lt, both_ways, not-false, not-true}
use Rattle.std.proofs.lemmas.List.{get_or_past, get_or_append_left, get_or-append_right}
use Rattle.std.proofs.lemmas.List.Elements.{All-nil, All-push, All-weaker, All-contains}
use Rattle.std.proofs.lemmas.List.Quantifiers.{all_pairs_push, Any-push}
use Rattle.pfc_base.specs.Words.{NonePass, IsLeast, IsFirst}
use Rattle.pfc_base.specs.BlockSet.{is_member, AreRuns}

abbrev pub Holds : ℕ → ℕ × ℕ → Type 0
Holds i run = (run.0 ≤ i) × (i ≤ run.1)

-- the runs below a number, which is not in the set if there are any
pub record RunsBelow (runs : List (ℕ × ℕ)) (set : List Bool) (from : ℕ) : Type 0 where
  pub ordered : All (λ run. run.0 ≤ run.1) runs
  pub apart : AllPairs (λ run later. run.1 + 1 < later.0) runs
  pub below : All (λ run. (run.1 < from) × (is_member set from ≡ false)) runs
  pub covers : (i : ℕ) → i < from → (is_member set i ≡ true) ↔ Any (Holds i) runs

pub runs-none : (set : List Bool) → RunsBelow [] set 0
runs-none set = record {
  ordered = All-nil (λ run. run.0 ≤ run.1);
  apart = λ i j d lt h. absurd (omega arith);
  below = All-nil (λ run. (run.1 < 0) × (is_member set 0 ≡ false));
  covers = λ i h. absurd (omega arith);
}

-- where a run ends that begins at a member
pub record EndsRun (set : List Bool) (first end : ℕ) : Type 0 where
  pub after : first < end
  pub members : (i : ℕ) → first ≤ i → i < end → is_member set i ≡ true
  pub absent : is_member set end ≡ false
  pub within : end ≤ length set

pub ends-run : (set : List Bool) (from first end : ℕ) (found : Option ℕ) → IsLeast (is_member set) from (length set) first →
    IsFirst (λ i. not (is_member set i)) first (length set) found → end ≡ unwrap_or found (length set) → EndsRun set first end
ends-run set from first end None is none e = rw e (record {
  after = is.high;
  members = λ i low high. not-false (is_member set i) (none i low high);
  absent = get_or_past set (length set) false (omega arith);
  within = omega arith;
})
ends-run set from first end (Some i) is at e =
    let absent : is_member set i ≡ false = not-true (is_member set i) at.passes in
    rw e (record {
      after = elim (cases_lt first i) [ inl h ↦ h | inr h ↦ absurd (both_ways (is_member set i) absent (ap (is_member set) (omega (arith, at.low)) ∙ is.passes)) ];
      members = λ j low high. not-false (is_member set j) (at.least j low high);
      absent = absent;
      within = omega (arith, at.high);
    })

any-old : (i : ℕ) (runs : List (ℕ × ℕ)) (run : ℕ × ℕ) → Any (Holds i) runs → Any (Holds i) (runs ++ run ∷ [])
any-old i runs run (k, old, lt, is, holds) =
    (k, old, omega (arith, length-append runs (run ∷ [])), get_or_append_left runs (run ∷ []) old k lt ∙ is, holds)

any-cases : (i : ℕ) (runs : List (ℕ × ℕ)) (run : ℕ × ℕ) → Any (Holds i) (runs ++ run ∷ []) → Any (Holds i) runs ⊎ Holds i run
any-cases i runs run (k, old, lt, is, holds) = elim (cases_lt k (length runs)) [
  | inl h ↦ inl (k, old, h, sym (get_or_append_left runs (run ∷ []) old k h) ∙ is, holds)
  | inr h ↦
      let place : k - length runs ≡ 0 = omega (arith, length-append runs (run ∷ [])) in
      let same : old ≡ run = sym is ∙ get_or-append_right runs (run ∷ []) (length runs) k old refl h ∙ ap (λ m. get_or (run ∷ []) m old) place in
      inr (subst (Holds i) same holds)
]

past-none : (i : ℕ) (runs : List (ℕ × ℕ)) (set : List Bool) (from : ℕ) → All (λ run. (run.1 < from) × (is_member set from ≡ false)) runs → from ≤ i → Any (Holds i) runs → ⊥
past-none i runs set from below high (k, run, lt, is, holds) =
    let old = All-contains (λ run. (run.1 < from) × (is_member set from ≡ false)) runs run below (k, lt, is) in
    omega (arith, old.0, holds.1)

pub runs-more : (runs : List (ℕ × ℕ)) (set : List Bool) (from first end last : ℕ) → RunsBelow runs set from → IsLeast (is_member set) from (length set) first → EndsRun set first end →
    last + 1 ≡ end → RunsBelow (runs ++ (first, last) ∷ []) set end
runs-more runs set from first end last is at ends e = record {
  ordered = All-push (λ run. run.0 ≤ run.1) runs (first, last) is.ordered (omega (arith, ends.after));
  apart = all_pairs_push (λ run later. run.1 + 1 < later.0) runs (first, last) is.apart (λ k d h.
      let old = is.below k d h in
      elim (cases_lt from first) [
        | inl h ↦ omega (arith, old.0)
        | inr h ↦ absurd (both_ways (is_member set first) (ap (is_member set) (omega (arith, at.low)) ∙ old.1) at.passes)
      ]);
  below = All-push (λ run. (run.1 < end) × (is_member set end ≡ false)) runs (first, last)
      (All-weaker (λ run. (run.1 < from) × (is_member set from ≡ false)) (λ run. (run.1 < end) × (is_member set end ≡ false))
      (λ run old. (omega (arith, old.0, at.low, ends.after), ends.absent)) runs is.below)
      (omega arith, ends.absent);
  covers = λ i h. (
    λ member. elim (cases_lt i from) [
      | inl low ↦ any-old i runs (first, last) ((is.covers i low).0 member)
      | inr low ↦ elim (cases_lt i first) [
        | inl between ↦ absurd (both_ways (is_member set i) (at.least i low between) member)
        | inr in_run ↦ Any-push (Holds i) runs (first, last) (in_run, omega arith)
      ]
    ],
    λ any. elim (any-cases i runs (first, last) any) [
      | inl old ↦ elim (cases_lt i from) [
        | inl low ↦ (is.covers i low).1 old
        | inr high ↦ absurd (past-none i runs set from is.below high old)
      ]
      | inr new ↦ ends.members i new.0 h
    ],
  );
}

pub runs-all : (runs : List (ℕ × ℕ)) (set : List Bool) (from : ℕ) → RunsBelow runs set from → NonePass (is_member set) from (length set) → AreRuns runs set
runs-all runs set from is none = record {
  ordered = is.ordered;
  apart = is.apart;
  covers = λ i. elim (cases_lt i from) [
    | inl low ↦ is.covers i low
    | inr high ↦ (
      λ member. absurd (both_ways (is_member set i) (elim (cases_lt i (length set)) [ inl low ↦ none i high low | inr past ↦ get_or_past set i false past ]) member),
      λ any. absurd (past-none i runs set from is.below high any),
    )
  ];
}
