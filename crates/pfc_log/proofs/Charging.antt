-- What a log with more entries says of devices that failed.
use Rattle.std.proofs.Common.{◌≡◌, ℕ, ◌+◌, List, [], ◌∷◌, ◌++◌, refl, sym, ap, ◌∙◌, arith, true, false, append_assoc}
use Rattle.std.specs.Prelude.{All}
use Rattle.std.proofs.lemmas.List.{append-nil}
use Rattle.std.proofs.lemmas.List.Elements.{All-nil, All-cons, All-append, All-head, All-tail}
use Rattle.pfc_log.specs.declared.entry.Entry.{Entry}
use Rattle.pfc_log.specs.declared.start.Start.{Start}
use Rattle.pfc_log.specs.Views.{times}
use Rattle.pfc_log.specs.Charges.{charge, charges_after, charges, start_charge, is_there, is_calm, GrowsCalmly}
use Rattle.pfc_log.proofs.More.{times_none}

charged_after : (first : Start) (before es : List Entry) (e : Entry) → charges_after first before (es ++ e ∷ []) ≡ charges_after first before es + charge first (before ++ es) e
charged_after first before [] e = omega (arith, ap (λ (l : List Entry). charge first l e) (append-nil before))
charged_after first before (x ∷ es) e =
    ap (λ (n : ℕ). charge first before x + n) (charged_after first (before ++ x ∷ []) es e ∙ ap (λ (l : List Entry). charges_after first (before ++ x ∷ []) es + charge first l e) (append_assoc before (x ∷ []) es))
    ∙ omega arith

-- one more entry
pub charges_more : (first : Start) (es : List Entry) (e : Entry) → charges first (es ++ e ∷ []) ≡ charges first es + charge first es e
charges_more first es e = ap (λ (n : ℕ). start_charge first + n) (charged_after first [] es e) ∙ omega arith

calm_charge : (first : Start) (es : List Entry) (e : Entry) → is_calm e ≡ true → charge first es e ≡ 0
calm_charge first es e calm = grind (arith, calm)

calm_there : (e : Entry) → is_calm e ≡ true → is_there e ≡ false
calm_there e calm = grind (arith, calm)

pub grows_none : (es : List Entry) → GrowsCalmly es es
grows_none es = record { more = []; is = sym (append-nil es); calm = All-nil (λ e. is_calm e ≡ true) }

pub grows_one : (es : List Entry) (e : Entry) → is_calm e ≡ true → GrowsCalmly es (es ++ e ∷ [])
grows_one es e calm = record { more = e ∷ []; is = refl; calm = All-cons (λ x. is_calm x ≡ true) e [] calm (All-nil (λ x. is_calm x ≡ true)) }

pub grows_on : (es mid new : List Entry) → GrowsCalmly es mid → GrowsCalmly mid new → GrowsCalmly es new
grows_on es mid new first later = record {
  more = first.more ++ later.more;
  is = later.is ∙ ap (λ (l : List Entry). l ++ later.more) first.is ∙ append_assoc es first.more later.more;
  calm = All-append (λ e. is_calm e ≡ true) first.more later.more first.calm later.calm;
}

-- a count that each calm entry leaves as it is
calm_same : (f : List Entry → ℕ) → ((es : List Entry) (e : Entry) → is_calm e ≡ true → f (es ++ e ∷ []) ≡ f es) →
    (es more : List Entry) → All (λ e. is_calm e ≡ true) more → f (es ++ more) ≡ f es
calm_same f still es [] calm = ap f (append-nil es)
calm_same f still es (e ∷ more) calm =
    ap f (sym (append_assoc es (e ∷ []) more))
    ∙ calm_same f still (es ++ e ∷ []) more (All-tail (λ x. is_calm x ≡ true) e more calm)
    ∙ still es e (All-head (λ x. is_calm x ≡ true) e more calm)

-- calm entries change neither
pub charges_calm : (first : Start) (es new : List Entry) → GrowsCalmly es new → charges first new ≡ charges first es
charges_calm first es new grows =
    ap (charges first) grows.is
    ∙ calm_same (charges first) (λ l e calm. charges_more first l e ∙ ap (λ (n : ℕ). charges first l + n) (calm_charge first l e calm) ∙ omega arith) es grows.more grows.calm

pub theres_calm : (es new : List Entry) → GrowsCalmly es new → times is_there new ≡ times is_there es
theres_calm es new grows =
    ap (times is_there) grows.is
    ∙ calm_same (times is_there) (λ l e calm. times_none is_there l e (calm_there e calm)) es grows.more grows.calm
