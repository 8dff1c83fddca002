-- One more entry.
use Rattle.std.proofs.Common.{◌≡◌, ◌⊎◌, ℕ, zero, suc, ◌+◌, List, [], ◌∷◌, ◌++◌, take, sym, refl, ap, ◌∙◌, subst, inl, inr, arith, Bool, true, false, Some, None}
use Rattle.std.specs.Prelude.{slice_get, fold, if◌then◌else◌}
use Rattle.std.proofs.lemmas.List.Sums.{fold_push}
use Rattle.pfc_log.specs.declared.entry.Entry.{Entry}
use Rattle.pfc_log.specs.declared.start.Start.{Start}
use Rattle.pfc_log.specs.Views.{Away, place, moves, times, kept, keeps, last_claim, claiming, started}
use Rattle.pfc_log.specs.Owners.{owners, owning, count_after}
use Rattle.pfc_log.specs.Lawful.{Lawful, Row}

-- an entry of the longer list stood at the same place of the shorter one, or is the new one
pub at_push : (es : List Entry) (e f : Entry) (p : ℕ) → slice_get (es ++ e ∷ []) p ≡ Some f → ((slice_get es p ≡ Some f) × (take p (es ++ e ∷ []) ≡ take p es)) ⊎ ((f ≡ e) × (take p (es ++ e ∷ []) ≡ es))
at_push [] e f zero h = inr (cc, refl)
at_push [] e f (suc p) h = absurd cc
at_push (x ∷ xs) e f zero h = inl (h, refl)
at_push (x ∷ xs) e f (suc p) h = elim (at_push xs e f p h) [
  | inl w ↦ inl (w.0, ap (λ (l : List Entry). x ∷ l) w.1)
  | inr w ↦ inr (w.0, ap (λ (l : List Entry). x ∷ l) w.1)
]

pub lawful_more : (first : Start) (es : List Entry) (e : Entry) → Lawful first es → Row first es e → Lawful first (es ++ e ∷ [])
lawful_more first es e law row = record {
  rows = λ p f at. elim (at_push es e f p at) [
    | inl w ↦ subst (λ (l : List Entry). Row first l f) (sym w.1) (law.rows p f w.0)
    | inr w ↦ subst (λ (l : List Entry). Row first l f) (sym w.1) (subst (λ (g : Entry). Row first es g) (sym w.0) row)
  ];
}

pub place_more : (i : ℕ) (es : List Entry) (e : Entry) → place i (es ++ e ∷ []) ≡ moves i (place i es) e
place_more i es e = fold_push (moves i) Away es e

pub times_more : (p : Entry → Bool) (es : List Entry) (e : Entry) → times p (es ++ e ∷ []) ≡ times p es + (if p e then 1 else 0)
times_more p es e = fold_push (λ (a : ℕ) (x : Entry). a + (if p x then 1 else 0)) 0 es e

pub kept_more : (first : Start) (i : ℕ) (es : List Entry) (e : Entry) → kept first i (es ++ e ∷ []) ≡ keeps i (kept first i es) e
kept_more first i es e = fold_push (keeps i) (record { written = started first i; durable = started first i }) es e

pub claim_more : (es : List Entry) (e : Entry) → last_claim (es ++ e ∷ []) ≡ claiming (last_claim es) e
claim_more es e = fold_push claiming None es e

pub owners_more : (es : List Entry) (e : Entry) → owners (es ++ e ∷ []) ≡ owning (owners es) e
owners_more es e = fold_push owning [] es e

pub times_none : (p : Entry → Bool) (es : List Entry) (e : Entry) → p e ≡ false → times p (es ++ e ∷ []) ≡ times p es
times_none p es e h = times_more p es e ∙ ap (λ (q : Bool). times p es + (if q then 1 else 0)) h ∙ omega arith

pub times_one : (p : Entry → Bool) (es : List Entry) (e : Entry) → p e ≡ true → times p (es ++ e ∷ []) ≡ times p es + 1
times_one p es e h = times_more p es e ∙ ap (λ (q : Bool). times p es + (if q then 1 else 0)) h

-- a count that sees the owners goes on with those that the entries so far left
pub count_after_more : (p : List ℕ → Entry → Bool) (ns : List ℕ) (es : List Entry) (e : Entry) → count_after p ns (es ++ e ∷ []) ≡ count_after p ns es + (if p (fold owning ns es) e then 1 else 0)
count_after_more p ns [] e = omega arith
count_after_more p ns (x ∷ es) e = omega (arith, count_after_more p (owning ns x) es e)
