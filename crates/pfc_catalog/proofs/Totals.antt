-- Sums of usages.
use Rattle.std.proofs.Common.{◌≡◌, inl, inr, ℕ, zero, suc, ◌+◌, ◌*◌, ◌-◌, ◌^◌, ◌<◌, ◌≤◌, List, [], ◌∷◌, ◌++◌, length, Some, refl, sym, ap, ◌∙◌, subst, arith}
use Rattle.std.specs.Prelude.{slice_get, sum_by}
use Rattle.std.proofs.lemmas.List.Sums.{sum_by-cons, sum_by_push}
use Rattle.std.proofs.lemmas.Option.{none-some, same_Some}
use Rattle.indexmap.specs.IndexMap.{set_value_at}
use Rattle.pfc_catalog.specs.declared.entry.Entry.{Entry}
use Rattle.pfc_catalog.specs.Catalog.{usage_in}
use Rattle.pfc_catalog.specs.Kept.{IsTotal}
use Rattle.pfc_catalog.proofs.Places.{get-value_same, get-value_other, get-push, same-nat}

-- a sum after a write at a place
pub sum-value : (w : List ℕ × Entry → ℕ) (fs : List (List ℕ × Entry)) (i : ℕ) (f : List ℕ × Entry) (e : Entry) → slice_get fs i ≡ Some f
    → sum_by w (set_value_at fs i e) + w f ≡ sum_by w fs + w (f.0, e)
sum-value w [] i f e h = absurd (none-some f h)
sum-value w (g ∷ gs) zero f e h =
    let is : g ≡ f = same_Some g f h in
    let a = sum_by-cons w (g.0, e) gs in
    let b = sum_by-cons w g gs in
    let c : w (g.0, e) ≡ w (f.0, e) = ap (λ (x : List ℕ × Entry). w (x.0, e)) is in
    let d : w g ≡ w f = ap w is in
    omega (arith, a, b, c, d)
sum-value w (g ∷ gs) (suc i) f e h =
    let rest = sum-value w gs i f e h in
    let a = sum_by-cons w g (set_value_at gs i e) in
    let b = sum_by-cons w g gs in
    omega (arith, a, b, rest)

-- each usage fits, so the sum does
pub sum-fits : (fs : List (List ℕ × Entry)) → ((i : ℕ) (f : List ℕ × Entry) → slice_get fs i ≡ Some f → f.1.usage < 2 ^ 64) → sum_by usage_in fs ≤ length fs * 2 ^ 64
sum-fits [] fits = omega arith
sum-fits (f ∷ fs) fits =
    let rest = sum-fits fs (λ i g h. fits (suc i) g h) in
    let first : f.1.usage < 2 ^ 64 = fits 0 f refl in
    let a = sum_by-cons usage_in f fs in
    omega (arith, a, rest, first)

-- one of them is in the sum
pub one-in_sum : (w : List ℕ × Entry → ℕ) (fs : List (List ℕ × Entry)) (i : ℕ) (f : List ℕ × Entry) → slice_get fs i ≡ Some f → w f ≤ sum_by w fs
one-in_sum w [] i f h = absurd (none-some f h)
one-in_sum w (g ∷ gs) zero f h = let is : w g ≡ w f = ap w (same_Some g f h) in omega (arith, is, sum_by-cons w g gs)
one-in_sum w (g ∷ gs) (suc i) f h = let rest = one-in_sum w gs i f h in omega (arith, rest, sum_by-cons w g gs)

module _ (fs : List (List ℕ × Entry)) (total : ℕ) (kept : IsTotal fs total) where
  pub total-room : total ≤ length fs * 2 ^ 64
  total-room = let a = sum-fits fs kept.fits in omega (arith, a, kept.sum)

  pub total-has : (i : ℕ) (f : List ℕ × Entry) → slice_get fs i ≡ Some f → f.1.usage ≤ total
  total-has i f h = let a = one-in_sum usage_in fs i f h in omega (arith, a, kept.sum)

  pub total-put : (i : ℕ) (f : List ℕ × Entry) (e : Entry) → slice_get fs i ≡ Some f → e.usage < 2 ^ 64 → IsTotal (set_value_at fs i e) (total - f.1.usage + e.usage)
  total-put i f e there low = record {
    sum = let a = sum-value usage_in fs i f e there in let b = one-in_sum usage_in fs i f there in omega (arith, a, b, kept.sum);
    fits = λ j g h. same-nat i j
        (λ same.
        let one : (f.0, e) ≡ g = same_Some (f.0, e) g (sym (get-value_same fs i e f there) ∙ ap (slice_get (set_value_at fs i e)) same ∙ h) in
        subst (λ (x : List ℕ × Entry). x.1.usage < 2 ^ 64) one low)
        (λ other. kept.fits j g (sym (get-value_other fs i j e other) ∙ h));
  }

  pub total-push : (f : List ℕ × Entry) → f.1.usage < 2 ^ 64 → IsTotal (fs ++ f ∷ []) (total + f.1.usage)
  total-push f low = record {
    sum = let a = sum_by_push usage_in fs f in omega (arith, a, kept.sum);
    fits = λ j g h. elim (get-push fs f g j h) [
      | inl last ↦ subst (λ (x : List ℕ × Entry). x.1.usage < 2 ^ 64) last.1 low
      | inr before ↦ kept.fits j g before
    ];
  }

pub total-new : IsTotal [] 0
total-new = record { sum = refl; fits = λ i f h. absurd (none-some f h) }
