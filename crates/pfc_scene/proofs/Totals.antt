-- What a client did by all logs, where one log goes on.
use Rattle.std.proofs.Common.{◌≡◌, ℕ, zero, suc, ◌+◌, ◌<◌, List, [], ◌∷◌, ◌++◌, length, get_or, set, sum_by, refl, sym, ap, ◌∙◌, arith}
use Rattle.std.proofs.lemmas.List.Sums.{sum_by-cons}
use Rattle.pfc_log.specs.Tallies.{Tally, tally, together, nothing}
use Rattle.pfc_log.proofs.Tallied.{together_assoc, nothing_more}
use Rattle.pfc_core.specs.View.{CoreView}
use Rattle.pfc_scene.specs.Scenes.{total}

abbrev build : ℕ → ℕ → ℕ → ℕ → ℕ → ℕ → ℕ → ℕ → ℕ → ℕ → ℕ → Tally
build a b c d f g h i j k l = record { opened = a; served = b; hit = c; missed = d; bypassed = f; hits = g; waits = h; directs = i; landed = j; faults = k; wants = l }

make : {a b c d f g h i j k l a2 b2 c2 d2 f2 g2 h2 i2 j2 k2 l2 : ℕ} → a ≡ a2 → b ≡ b2 → c ≡ c2 → d ≡ d2 → f ≡ f2 → g ≡ g2 → h ≡ h2 → i ≡ i2 → j ≡ j2 → k ≡ k2 → l ≡ l2 →
    build a b c d f g h i j k l ≡ build a2 b2 c2 d2 f2 g2 h2 i2 j2 k2 l2
make a b c d f g h i j k l = rw (a, b, c, d, f, g, h, i, j, k, l) refl

pub swap : (a b : Tally) → together a b ≡ together b a
swap a b = make (omega arith) (omega arith) (omega arith) (omega arith) (omega arith) (omega arith) (omega arith) (omega arith) (omega arith) (omega arith) (omega arith)

-- the logs but for that at place i
abbrev pub rest_of : ℕ → List CoreView → ℕ → Tally
rest_of n [] i = nothing
rest_of n (c ∷ cs) zero = total n cs
rest_of n (c ∷ cs) (suc i) = together (tally n c.entries) (rest_of n cs i)

total_at : (n : ℕ) (cs : List CoreView) (i : ℕ) (d : CoreView) → i < length cs → total n cs ≡ together (rest_of n cs i) (tally n (get_or cs i d).entries)
total_at n [] i d l = absurd (omega (arith, l))
total_at n (c ∷ cs) zero d l = swap (tally n c.entries) (total n cs)
total_at n (c ∷ cs) (suc i) d l =
    ap (together (tally n c.entries)) (total_at n cs i d (omega (arith, l))) ∙ together_assoc (tally n c.entries) (rest_of n cs i) (tally n (get_or cs i d).entries)

rest_set : (n : ℕ) (cs : List CoreView) (i : ℕ) (c : CoreView) → rest_of n (set cs i c) i ≡ rest_of n cs i
rest_set n [] i c = refl
rest_set n (x ∷ cs) zero c = refl
rest_set n (x ∷ cs) (suc i) c = ap (together (tally n x.entries)) (rest_set n cs i c)

-- one log is another's
pub total_set : (n : ℕ) (cs : List CoreView) (i : ℕ) (c : CoreView) → i < length cs → total n (set cs i c) ≡ together (rest_of n cs i) (tally n c.entries)
total_set n [] i c l = absurd (omega (arith, l))
total_set n (x ∷ cs) zero c l = swap (tally n c.entries) (total n cs)
total_set n (x ∷ cs) (suc i) c l = ap (together (tally n x.entries)) (total_set n cs i c (omega (arith, l))) ∙ together_assoc (tally n x.entries) (rest_of n cs i) (tally n c.entries)

pub total_was : (n : ℕ) (cs : List CoreView) (i : ℕ) (c : CoreView) → i < length cs → c ≡ get_or cs i c → total n cs ≡ together (rest_of n cs i) (tally n c.entries)
total_was n cs i c l e = total_at n cs i c l ∙ ap (λ (v : CoreView). together (rest_of n cs i) (tally n v.entries)) (sym e)

-- a log that says the same of the client
pub total_same : (n : ℕ) (cs : List CoreView) (i : ℕ) (c c2 : CoreView) → i < length cs → c ≡ get_or cs i c → tally n c2.entries ≡ tally n c.entries → total n (set cs i c2) ≡ total n cs
total_same n cs i c c2 l e same = total_set n cs i c2 l ∙ ap (together (rest_of n cs i)) same ∙ sym (total_was n cs i c l e)

-- a log without entries
pub total_push : (n : ℕ) (cs : List CoreView) (c : CoreView) → c.entries ≡ [] → total n (cs ++ c ∷ []) ≡ total n cs
total_push n [] c none = nothing_more (tally n c.entries) ∙ ap (tally n) none
total_push n (x ∷ cs) c none = ap (together (tally n x.entries)) (total_push n cs c none)

-- a number of a tally that adds up, over all logs
pub total_sum : (f : Tally → ℕ) → f nothing ≡ 0 → ((a b : Tally) → f (together a b) ≡ f a + f b) → (n : ℕ) (cs : List CoreView) → f (total n cs) ≡ sum_by (λ c. f (tally n c.entries)) cs
total_sum f none adds n [] = none
total_sum f none adds n (c ∷ cs) = adds (tally n c.entries) (total n cs) ∙ ap (λ m. f (tally n c.entries) + m) (total_sum f none adds n cs) ∙ sym (sum_by-cons (λ (x : CoreView). f (tally n x.entries)) c cs)
