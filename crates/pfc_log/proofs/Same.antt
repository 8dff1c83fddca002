-- What stays the same under an entry that doesn't concern it.
use Rattle.std.proofs.Common.{◌≡◌, ◌≢◌, ℕ, zero, suc, ◌+◌, ◌<◌, ◌≤◌, List, [], ◌∷◌, ◌++◌, length, sym, refl, ap, ◌∙◌, subst, inl, inr, arith, length-append, Bool, true, false, Option, Some, None}
use Rattle.std.specs.Prelude.{◌==◌, IfSome, if◌then◌else◌}
use Rattle.std.proofs.lemmas.List.{take-append-le}
use Rattle.pfc_base.specs.Block.{count_of}
use Rattle.pfc_log.specs.declared.entry.Entry.{Entry}
use Rattle.pfc_log.specs.declared.entry.Entry.TheVariants as e
use Rattle.pfc_log.specs.declared.start.Start.{Start}
use Rattle.pfc_log.specs.Views.{Place, place, moves, Kept, kept, keeps, times, is_frozen, stored, durable, claimed, claimed_at, last_claim, claiming, count_below, sum_below, len_at, held}
use Rattle.pfc_log.specs.Lawful.{Lawful, Row}
use Rattle.pfc_log.proofs.More.{place_more, kept_more, claim_more, times_none}
use Rattle.pfc_log.proofs.Places.{along, cases_eq}

-- the entry moves a block
abbrev pub is_move : Entry → Bool
is_move (e.Begin u j m) = true
is_move (e.Landed u) = true
is_move (e.Failed u why) = true
is_move (e.Dropped j why) = true
is_move (e.Wrote j) = true
is_move (e.Left j) = true
is_move _ = false

-- the entry changes which blocks are written or durable
abbrev pub is_keeping : Entry → Bool
is_keeping (e.Wrote i) = true
is_keeping e.Synced = true
is_keeping _ = false

moves_same : (i : ℕ) (p : Place) (x : Entry) → is_move x ≡ false → moves i p x ≡ p
moves_same i p (e.Opened m) h = refl
moves_same i p (e.Closed m) h = refl
moves_same i p (e.Begin u j m) h = absurd cc
moves_same i p (e.Join u j m) h = refl
moves_same i p (e.Hit j spot m) h = refl
moves_same i p (e.Direct j m why) h = refl
moves_same i p (e.Landed u) h = absurd cc
moves_same i p (e.Failed u why) h = absurd cc
moves_same i p (e.Dropped j why) h = absurd cc
moves_same i p (e.Wrote j) h = absurd cc
moves_same i p (e.Left j) h = absurd cc
moves_same i p e.Synced h = refl
moves_same i p (e.Claimed q c) h = refl
moves_same i p e.Frozen h = refl
moves_same i p e.WrittenOff h = refl
moves_same i p (e.Served m served) h = refl

pub place_same : (i : ℕ) (es : List Entry) (x : Entry) → is_move x ≡ false → place i (es ++ x ∷ []) ≡ place i es
place_same i es x h = place_more i es x ∙ moves_same i (place i es) x h

keeps_same : (i : ℕ) (s : Kept) (x : Entry) → is_keeping x ≡ false → keeps i s x ≡ s
keeps_same i s (e.Opened m) h = refl
keeps_same i s (e.Closed m) h = refl
keeps_same i s (e.Begin u j m) h = refl
keeps_same i s (e.Join u j m) h = refl
keeps_same i s (e.Hit j spot m) h = refl
keeps_same i s (e.Direct j m why) h = refl
keeps_same i s (e.Landed u) h = refl
keeps_same i s (e.Failed u why) h = refl
keeps_same i s (e.Dropped j why) h = refl
keeps_same i s (e.Wrote j) h = absurd cc
keeps_same i s (e.Left j) h = refl
keeps_same i s e.Synced h = absurd cc
keeps_same i s (e.Claimed q c) h = refl
keeps_same i s e.Frozen h = refl
keeps_same i s e.WrittenOff h = refl
keeps_same i s (e.Served m served) h = refl

pub kept_same : (first : Start) (i : ℕ) (es : List Entry) (x : Entry) → is_keeping x ≡ false → kept first i (es ++ x ∷ []) ≡ kept first i es
kept_same first i es x h = kept_more first i es x ∙ keeps_same i (kept first i es) x h

pub stored_same : (first : Start) (i : ℕ) (es : List Entry) (x : Entry) → is_keeping x ≡ false → is_frozen x ≡ false → stored first i (es ++ x ∷ []) ≡ stored first i es
stored_same first i es x h cold =
    ap (λ (n : ℕ). if 0 == n then (kept first i (es ++ x ∷ [])).written else (kept first i (es ++ x ∷ [])).durable) (times_none is_frozen es x cold)
    ∙ ap (λ (s : Kept). if 0 == times is_frozen es then s.written else s.durable) (kept_same first i es x h)

wider : (last : Option ℕ) (n : ℕ) → IfSome last (λ p. p ≤ n) → IfSome last (λ p. p ≤ n + 1)
wider None n h = h
wider (Some p) n h = omega arith

claiming_past : (last : Option ℕ) (first : Start) (es : List Entry) (x : Entry) → IfSome last (λ p. p ≤ length es) → Row first es x → IfSome (claiming last x) (λ p. p ≤ length es + 1)
claiming_past last first es (e.Opened m) was row = wider last (length es) was
claiming_past last first es (e.Closed m) was row = wider last (length es) was
claiming_past last first es (e.Begin u j m) was row = wider last (length es) was
claiming_past last first es (e.Join u j m) was row = wider last (length es) was
claiming_past last first es (e.Hit j spot m) was row = wider last (length es) was
claiming_past last first es (e.Direct j m why) was row = wider last (length es) was
claiming_past last first es (e.Landed u) was row = wider last (length es) was
claiming_past last first es (e.Failed u why) was row = wider last (length es) was
claiming_past last first es (e.Dropped j why) was row = wider last (length es) was
claiming_past last first es (e.Wrote j) was row = wider last (length es) was
claiming_past last first es (e.Left j) was row = wider last (length es) was
claiming_past last first es e.Synced was row = wider last (length es) was
claiming_past last first es (e.Claimed q c) was row = omega (arith, row.past)
claiming_past last first es e.Frozen was row = wider last (length es) was
claiming_past last first es e.WrittenOff was row = wider last (length es) was
claiming_past last first es (e.Served m served) was row = wider last (length es) was

-- in a lawful log the last claim names a place that is there
pub claim_past : (first : Start) (es : List Entry) → Lawful first es → IfSome (last_claim es) (λ p. p ≤ length es)
claim_past first = along first (λ (l : List Entry). IfSome (last_claim l) (λ p. p ≤ length l)) tt
    (λ xs x law row was. subst (λ (n : ℕ). IfSome (last_claim (xs ++ x ∷ [])) (λ p. p ≤ n)) (sym (length-append xs (x ∷ [])))
    (subst (λ (last : Option ℕ). IfSome last (λ p. p ≤ length xs + 1)) (sym (claim_more xs x)) (claiming_past (last_claim xs) first xs x was row)))

claimed_front : (first : Start) (i : ℕ) (es : List Entry) (x : Entry) (last : Option ℕ) → IfSome last (λ p. p ≤ length es) → claimed_at first i (es ++ x ∷ []) last ≡ claimed_at first i es last
claimed_front first i es x None h = refl
claimed_front first i es x (Some p) h = ap (durable first i) (take-append-le p es (x ∷ []) h)

-- a log claims the same until the next `claimed`
pub claimed_same : (first : Start) (i : ℕ) (es : List Entry) (x : Entry) → Lawful first es → claiming (last_claim es) x ≡ last_claim es → claimed first i (es ++ x ∷ []) ≡ claimed first i es
claimed_same first i es x law h =
    ap (claimed_at first i (es ++ x ∷ [])) (claim_more es x ∙ h) ∙ claimed_front first i es x (last_claim es) (claim_past first es law)

pub sum_below_same : (f g : ℕ → ℕ) (n : ℕ) → ((i : ℕ) → f i ≡ g i) → sum_below f n ≡ sum_below g n
sum_below_same f g zero h = refl
sum_below_same f g (suc n) h = omega (arith, sum_below_same f g n h, h n)

sum_below_apart : (f g : ℕ → ℕ) (b n : ℕ) → n ≤ b → ((i : ℕ) → i ≢ b → f i ≡ g i) → sum_below f n ≡ sum_below g n
sum_below_apart f g b zero high h = refl
sum_below_apart f g b (suc n) high h = let other : n ≢ b = omega arith in omega (arith, sum_below_apart f g b n (omega arith) h, h n other)

-- a sum in which one term changes
pub sum_below_change : (f g : ℕ → ℕ) (b n : ℕ) → b < n → ((i : ℕ) → i ≢ b → f i ≡ g i) → sum_below f n + g b ≡ sum_below g n + f b
sum_below_change f g b zero low h = absurd (omega arith)
sum_below_change f g b (suc n) low h = elim (cases_eq n b) [
  | inl w ↦ omega (arith, sum_below_apart f g b n (omega (arith, w.0)) h, ap f w.0, ap g w.0)
  | inr w ↦ omega (arith, sum_below_change f g b n (omega (arith, w.0)) h, h n w.0)
]

pub count_below_same : (f g : ℕ → Bool) (n : ℕ) → ((i : ℕ) → f i ≡ g i) → count_below f n ≡ count_below g n
count_below_same f g zero h = refl
count_below_same f g (suc n) h = omega (arith, count_below_same f g n h, ap {B = ℕ} (λ (q : Bool). if q then 1 else 0) (h n))

-- an entry that moves no block holds the same
pub held_same : (size k : ℕ) (es : List Entry) (x : Entry) → is_move x ≡ false → held size k (es ++ x ∷ []) ≡ held size k es
held_same size k es x h = sum_below_same (λ i. len_at size k i (place i (es ++ x ∷ []))) (λ i. len_at size k i (place i es)) (count_of size k) (λ i. ap (len_at size k i) (place_same i es x h))

-- an entry that moves one block of the file changes what is held by that block's length alone
pub held_change : (size k b : ℕ) (es : List Entry) (x : Entry) → b < count_of size k → ((i : ℕ) → i ≢ b → place i (es ++ x ∷ []) ≡ place i es) →
    held size k (es ++ x ∷ []) + len_at size k b (place b es) ≡ held size k es + len_at size k b (place b (es ++ x ∷ []))
held_change size k b es x low h = sum_below_change (λ i. len_at size k i (place i (es ++ x ∷ []))) (λ i. len_at size k i (place i es)) b (count_of size k) low (λ i other. ap (len_at size k i) (h i other))
