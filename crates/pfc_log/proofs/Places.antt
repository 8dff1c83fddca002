-- Where entries stand in a list that grew at its end, and in a front of it.
use Rattle.std.proofs.Common.{◌≡◌, ◌≢◌, ◌⊎◌, ℕ, zero, suc, ◌<◌, ◌≤◌, List, [], ◌∷◌, ◌++◌, length, take, sym, refl, ap, ◌∙◌, subst, inl, inr, arith, append_assoc, append-nil, Bool, true, false}
use Rattle.std.specs.Prelude.{◌==◌}
use Rattle.std.proofs.lemmas.Bool.Decides.{nat_tests}
use Rattle.std.proofs.lemmas.Bool.{cases_lt}
use Rattle.std.proofs.lemmas.Option.{slice_get_within}
use Rattle.pfc_log.specs.declared.entry.Entry.{Entry}
use Rattle.pfc_log.specs.declared.start.Start.{Start}
use Rattle.pfc_log.specs.Positions.{StandsAt, NoneAfter, SomeAfter}
use Rattle.pfc_log.specs.Lawful.{Lawful, Row}

-- an induction on a list from its end
go : (P : List Entry → Type 0) → ((es : List Entry) (e : Entry) → P es → P (es ++ e ∷ [])) → (before es : List Entry) → P before → P (before ++ es)
go P step before [] h = subst P (sym (append-nil before)) h
go P step before (x ∷ es) h = subst P (append_assoc before (x ∷ []) es) (go P step (before ++ x ∷ []) es (step before x h))

pub from_end : (P : List Entry → Type 0) → P [] → ((es : List Entry) (e : Entry) → P es → P (es ++ e ∷ [])) → (es : List Entry) → P es
from_end P none step es = go P step [] es none

pub by_bool : {C : Type 0} (q : Bool) → (q ≡ true → C) → (q ≡ false → C) → C
by_bool true y n = y refl
by_bool false y n = n refl

pub cases_eq : (a b : ℕ) → ((a ≡ b) × ((a == b) ≡ true)) ⊎ ((a ≢ b) × ((a == b) ≡ false))
cases_eq a b = by_bool (a == b) (λ y. inl (grind (arith, nat_tests), y)) (λ n. inr (grind (arith, nat_tests), n))

pub eq_self : (a : ℕ) → (a == a) ≡ true
eq_self a = grind (arith, nat_tests)

pub eq_sym : (a b : ℕ) → (a == b) ≡ false → (b == a) ≡ false
eq_sym a b h = grind (arith, nat_tests)

pub stands_old : (es : List Entry) (e f : Entry) (p : ℕ) → StandsAt es p f → StandsAt (es ++ e ∷ []) p f
stands_old [] e f p h = absurd cc
stands_old (x ∷ xs) e f zero h = h
stands_old (x ∷ xs) e f (suc p) h = stands_old xs e f p h

pub stands_new : (es : List Entry) (e : Entry) → StandsAt (es ++ e ∷ []) (length es) e
stands_new [] e = refl
stands_new (x ∷ xs) e = stands_new xs e

pub stands_split : (es : List Entry) (e f : Entry) (p : ℕ) → StandsAt (es ++ e ∷ []) p f → (StandsAt es p f) ⊎ ((f ≡ e) × (p ≡ length es))
stands_split [] e f zero h = inr (cc, refl)
stands_split [] e f (suc p) h = absurd cc
stands_split (x ∷ xs) e f zero h = inl h
stands_split (x ∷ xs) e f (suc p) h = elim (stands_split xs e f p h) [
  | inl w ↦ inl w
  | inr w ↦ inr (w.0, ap suc w.1)
]

pub take_stands : (q : ℕ) (es : List Entry) (p : ℕ) (e : Entry) → StandsAt (take q es) p e → (p < q) × StandsAt es p e
take_stands zero es p e h = absurd cc
take_stands (suc q) [] p e h = absurd cc
take_stands (suc q) (x ∷ es) zero e h = (omega arith, h)
take_stands (suc q) (x ∷ es) (suc p) e h = let more = take_stands q es p e h in (omega (arith, more.0), more.1)

pub stands_take : (q : ℕ) (es : List Entry) (p : ℕ) (e : Entry) → p < q → StandsAt es p e → StandsAt (take q es) p e
stands_take zero es p e low h = absurd (omega arith)
stands_take (suc q) [] p e low h = absurd cc
stands_take (suc q) (x ∷ es) zero e low h = h
stands_take (suc q) (x ∷ es) (suc p) e low h = stands_take q es p e (omega arith) h

pub take_take : (p q : ℕ) (es : List Entry) → p ≤ q → take p (take q es) ≡ take p es
take_take zero q es low = refl
take_take (suc p) zero es low = absurd (omega arith)
take_take (suc p) (suc q) [] low = refl
take_take (suc p) (suc q) (x ∷ es) low = ap (λ (l : List Entry). x ∷ l) (take_take p q es (omega arith))

pub take_push : (es : List Entry) (e : Entry) → take (length es) (es ++ e ∷ []) ≡ es
take_push [] e = refl
take_push (x ∷ xs) e = ap (λ (l : List Entry). x ∷ l) (take_push xs e)

-- a front of a lawful log is lawful
pub lawful_front : (first : Start) (es : List Entry) (q : ℕ) → Lawful first es → Lawful first (take q es)
lawful_front first es q law = record {
  rows = λ p e at. let whole = take_stands q es p e at in subst (λ (l : List Entry). Row first l e) (sym (take_take p q es (omega (arith, whole.0)))) (law.rows p e whole.1);
}

pub lawful_pop : (first : Start) (es : List Entry) (e : Entry) → Lawful first (es ++ e ∷ []) → Lawful first es
lawful_pop first es e law = subst (λ (l : List Entry). Lawful first l) (take_push es e) (lawful_front first (es ++ e ∷ []) (length es) law)

pub row_last : (first : Start) (es : List Entry) (e : Entry) → Lawful first (es ++ e ∷ []) → Row first es e
row_last first es e law = subst (λ (l : List Entry). Row first l e) (take_push es e) (law.rows (length es) e (stands_new es e))

-- an induction on a lawful log from its end
pub along : (first : Start) (P : List Entry → Type 0) → P [] → ((es : List Entry) (e : Entry) → Lawful first es → Row first es e → P es → P (es ++ e ∷ [])) → (es : List Entry) → Lawful first es → P es
along first P none step es = from_end (λ (l : List Entry). Lawful first l → P l) (λ law. none)
    (λ xs e was law. step xs e (lawful_pop first xs e law) (row_last first xs e law) (was (lawful_pop first xs e law))) es

pub none_push : (test : Entry → Bool) (es : List Entry) (e : Entry) (p : ℕ) → NoneAfter test es p → test e ≡ false → NoneAfter test (es ++ e ∷ []) p
none_push test es e p was h = record {
  none = λ q f low at. elim (stands_split es e f q at) [
    | inl w ↦ was.none q f low w
    | inr w ↦ ap test w.0 ∙ h
  ];
}

pub none_last : (test : Entry → Bool) (es : List Entry) (e : Entry) → NoneAfter test (es ++ e ∷ []) (length es)
none_last test es e = record {
  none = λ q f low at. elim (stands_split es e f q at) [
    | inl w ↦ absurd (omega (arith, slice_get_within es q f w))
    | inr w ↦ absurd (omega (arith, w.1))
  ];
}

pub none_pop : (test : Entry → Bool) (es : List Entry) (e : Entry) (p : ℕ) → NoneAfter test (es ++ e ∷ []) p → NoneAfter test es p
none_pop test es e p was = record { none = λ q f low at. was.none q f low (stands_old es e f q at) }

pub none_now : (test : Entry → Bool) (es : List Entry) (e : Entry) (p : ℕ) → p < length es → NoneAfter test (es ++ e ∷ []) p → test e ≡ false
none_now test es e p low was = was.none (length es) e low (stands_new es e)

pub some_push : (test : Entry → Bool) (es : List Entry) (e : Entry) (p : ℕ) → SomeAfter test es p → SomeAfter test (es ++ e ∷ []) p
some_push test es e p was = record { at = was.at; entry = was.entry; behind = was.behind; stands = stands_old es e was.entry was.at was.stands; passes = was.passes }

cases_late : (p : ℕ) (es : List Entry) → (p < length es) ⊎ (length es ≤ p)
cases_late p es = cases_lt p (length es)

-- the test passes behind a place, or nowhere there
pub none_or_some : (test : Entry → Bool) (p : ℕ) (es : List Entry) → NoneAfter test es p ⊎ SomeAfter test es p
none_or_some test p es = from_end (λ (l : List Entry). NoneAfter test l p ⊎ SomeAfter test l p)
    (inl (record { none = λ q e low at. absurd cc }))
    (λ xs e was. elim was [
      | inr some ↦ inr (some_push test xs e p some)
      | inl none ↦ by_bool (test e)
          (λ y. elim (cases_late p xs) [
            | inl low ↦ inr (record { at = length xs; entry = e; behind = low; stands = stands_new xs e; passes = y })
            | inr high ↦ inl (record {
              none = λ q f low at. elim (stands_split xs e f q at) [
                | inl w ↦ absurd (omega (arith, slice_get_within xs q f w))
                | inr w ↦ absurd (omega (arith, w.1))
              ];
            })
          ])
          (λ n. inl (none_push test xs e p none n))
    ]) es
