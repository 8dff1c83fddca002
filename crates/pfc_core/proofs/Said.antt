-- What the sets of a core say of the log, after an entry.
use Rattle.std.proofs.Common.{◌≡◌, ◌≢◌, ℕ, ◌<◌, ◌≤◌, List, [], ◌∷◌, ◌++◌, length, sym, refl, ap, ◌∙◌, subst, arith, Bool, true, false, if◌then◌else◌, ◌==◌, slice_set, ne_eqb, tests}
use mathlib.Core.Logic.{dite}
use native.Mathlib.Decide.{ℕ_discrete}
use Rattle.std.proofs.lemmas.List.{get_or-set_other}
use Rattle.std.proofs.lemmas.Grind.{get_or-set_at}
use Rattle.std.proofs.Math.ListN.{length-set}
use Rattle.pfc_log.specs.declared.entry.Entry.{Entry}
use Rattle.pfc_log.specs.declared.entry.Entry.TheVariants.{Wrote, Synced, Frozen}
use Rattle.pfc_log.specs.declared.start.Start.{Start}
use Rattle.pfc_log.specs.Views.{Kept, kept, keeps, stored, durable, times, is_frozen}
use Rattle.pfc_log.specs.Lawful.{IsUnfrozen}
use Rattle.pfc_log.proofs.More.{kept_more, times_none, times_one}
use Rattle.pfc_log.proofs.Same.{is_keeping, kept_same, stored_same}
use Rattle.pfc_core.specs.Sets.{SetsView}
use Rattle.pfc_core.specs.Kept.{AreSaid, alarm}
use Rattle.pfc_core.proofs.Kept.{now_written}

-- an entry that neither writes, nor syncs, nor freezes
pub said_more : (first : Start) (es : List Entry) (e : Entry) (s : SetsView) → AreSaid first es s → is_keeping e ≡ false → is_frozen e ≡ false → AreSaid first (es ++ e ∷ []) s
said_more first es e s was same cold = record {
  length_is = was.length_is;
  long_is = was.long_is;
  stored_is = λ i. was.stored_is i ∙ sym (stored_same first i es e same cold);
  durable_is = λ i. was.durable_is i ∙ sym (ap (λ (k : Kept). k.durable) (kept_same first i es e same));
  frozen_is = was.frozen_is ∙ ap (λ (n : ℕ). if 0 == n then false else true) (sym (times_none is_frozen es e cold));
}

-- a log in which no `frozen` stands says that what is written can be read
pub stored_cold : (first : Start) (i : ℕ) (es : List Entry) → IsUnfrozen es → stored first i es ≡ (kept first i es).written
stored_cold first i es none = ap (λ (n : ℕ). if 0 == n then (kept first i es).written else (kept first i es).durable) none

past_zero : (n : ℕ) → 0 < n → (0 == n) ≡ false
past_zero n some = ne_eqb 0 n (λ e. omega (arith, some, e))

-- and one in which it stands, that what is durable can be
stored_frozen : (first : Start) (i : ℕ) (es : List Entry) → 0 < times is_frozen es → stored first i es ≡ durable first i es
stored_frozen first i es some = ap (λ (q : Bool). if q then (kept first i es).written else (kept first i es).durable) (past_zero (times is_frozen es) some)

keeps_wrote : (b i : ℕ) (k : Kept) → b ≢ i → keeps i k (Wrote b) ≡ k
keeps_wrote b i k n = ap (λ (q : Bool). if q then record { written = true; durable = k.durable } else k) (ne_eqb b i n)

pub durable_wrote : (b i : ℕ) (k : Kept) → (keeps i k (Wrote b)).durable ≡ k.durable
durable_wrote b i k = elim (b == i) as (λ q. (if q then record { written = true; durable = k.durable } else k).durable ≡ k.durable) [ true ↦ refl | false ↦ refl ]

-- a block is written
pub said_write : (first : Start) (es : List Entry) (b : ℕ) (s : SetsView) → AreSaid first es s → IsUnfrozen es → b < length s.stored → AreSaid first (es ++ Wrote b ∷ []) (record s { stored = slice_set s.stored b true })
said_write first es b s was none low =
    let still : IsUnfrozen (es ++ Wrote b ∷ []) = times_none is_frozen es (Wrote b) refl ∙ none in record {
      length_is = length-set s.stored b true ∙ was.length_is;
      long_is = was.long_is;
      stored_is = λ i. dite (ℕ_discrete b i)
          (λ e. get_or-set_at s.stored b i true false (sym e) low ∙ sym (stored_cold first i (es ++ Wrote b ∷ []) still ∙ subst (λ (k : ℕ). (kept first k (es ++ Wrote b ∷ [])).written ≡ true) e (now_written first es b)))
          (λ n. get_or-set_other s.stored b i true false (λ e. n (sym e)) ∙ was.stored_is i ∙ stored_cold first i es none
          ∙ sym (stored_cold first i (es ++ Wrote b ∷ []) still ∙ ap (λ (k : Kept). k.written) (kept_more first i es (Wrote b) ∙ keeps_wrote b i (kept first i es) n)));
      durable_is = λ i. was.durable_is i ∙ sym (ap (λ (k : Kept). k.durable) (kept_more first i es (Wrote b)) ∙ durable_wrote b i (kept first i es));
      frozen_is = was.frozen_is ∙ ap (λ (n : ℕ). if 0 == n then false else true) (sym (times_none is_frozen es (Wrote b) refl));
    }

-- the store is frozen: what isn't durable can't be read any more
pub said_freeze : (first : Start) (es : List Entry) (s : SetsView) → AreSaid first es s → AreSaid first (es ++ Frozen ∷ []) (record s { stored = s.durable; frozen = true })
said_freeze first es s was =
    let some : 0 < times is_frozen (es ++ Frozen ∷ []) = let one = times_one is_frozen es Frozen refl in omega (arith, one) in
    let same : (i : ℕ) → durable first i (es ++ Frozen ∷ []) ≡ durable first i es = λ i. ap (λ (k : Kept). k.durable) (kept_same first i es Frozen refl) in record {
      length_is = was.long_is;
      long_is = was.long_is;
      stored_is = λ i. was.durable_is i ∙ sym (stored_frozen first i (es ++ Frozen ∷ []) some ∙ same i);
      durable_is = λ i. was.durable_is i ∙ sym (same i);
      frozen_is = sym (ap (λ (q : Bool). if q then false else true) (past_zero (times is_frozen (es ++ Frozen ∷ [])) some));
    }

by_zero : (n : ℕ) (q : Bool) → q ≡ (if 0 == n then false else true) → q ≡ false → n ≡ 0
by_zero n q is h = grind (arith, tests)

pub unfrozen_of : (n : ℕ) → (if 0 == n then false else true) ≡ false → n ≡ 0
unfrozen_of n h = by_zero n (if 0 == n then false else true) refl h

by_some : (n : ℕ) (q : Bool) → q ≡ (if 0 == n then false else true) → q ≡ true → 0 < n
by_some n q is h = grind (arith, tests)

-- whether a `frozen` stands
pub thawed_is : (first : Start) (es : List Entry) (s : SetsView) → AreSaid first es s → s.frozen ≡ false → IsUnfrozen es
thawed_is first es s was h = by_zero (times is_frozen es) s.frozen was.frozen_is h

pub frozen_is : (first : Start) (es : List Entry) (s : SetsView) → AreSaid first es s → s.frozen ≡ true → 0 < times is_frozen es
frozen_is first es s was h = by_some (times is_frozen es) s.frozen was.frozen_is h

pub alarm_most : (s : SetsView) → alarm s ≤ 1
alarm_most s = elim s.frozen as (λ q. (if q then 0 else 1) ≤ 1) [ true ↦ omega arith | false ↦ omega arith ]

pub alarm_on : (s : SetsView) → s.frozen ≡ false → alarm s ≡ 1
alarm_on s h = ap {B = ℕ} (λ (q : Bool). if q then 0 else 1) h

-- each written block is durable
pub said_sync : (first : Start) (es : List Entry) (s : SetsView) → AreSaid first es s → IsUnfrozen es → AreSaid first (es ++ Synced ∷ []) (record s { durable = s.stored })
said_sync first es s was none =
    let still : IsUnfrozen (es ++ Synced ∷ []) = times_none is_frozen es Synced refl ∙ none in
    let now : (i : ℕ) → kept first i (es ++ Synced ∷ []) ≡ record { written = (kept first i es).written; durable = (kept first i es).written } = λ i. kept_more first i es Synced in record {
      length_is = was.length_is;
      long_is = was.length_is;
      stored_is = λ i. was.stored_is i ∙ stored_cold first i es none ∙ sym (stored_cold first i (es ++ Synced ∷ []) still ∙ ap (λ (k : Kept). k.written) (now i));
      durable_is = λ i. was.stored_is i ∙ stored_cold first i es none ∙ sym (ap (λ (k : Kept). k.durable) (now i));
      frozen_is = was.frozen_is ∙ ap (λ (n : ℕ). if 0 == n then false else true) (sym (times_none is_frozen es Synced refl));
    }

-- the cinfo claims other blocks
pub said_claim : (first : Start) (es : List Entry) (s : SetsView) (set : List Bool) → AreSaid first es s → AreSaid first es (record s { claimed = set })
said_claim first es s set was = record { length_is = was.length_is; long_is = was.long_is; stored_is = was.stored_is; durable_is = was.durable_is; frozen_is = was.frozen_is }
