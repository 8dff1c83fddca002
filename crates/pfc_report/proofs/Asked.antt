-- Who is asked anything, line by line.
use Rattle.std.proofs.Common.{◌≡◌, ℕ, ◌+◌, ◌<◌, List, [], ◌∷◌, ◌++◌, length, map, take, refl, sym, ap, ◌∙◌, arith, Bool, true}
use Rattle.std.specs.Prelude.{Option, Some, None, is_some, ◌||◌, nat_lt, filter_map, slice_index_or}
use Rattle.std.proofs.lemmas.Bool.Decides.{nat_tests}
use Rattle.std.proofs.lemmas.List.{take_more, map-append}
use Rattle.std.proofs.lemmas.List.Elements.{filter_map-append}
use Rattle.pfc_report.specs.Schedule.{Line, request_for, asked, is_asked}

some-test : (n : ℕ) → 0 < n → nat_lt 0 n ≡ true
some-test n some = grind (arith, nat_tests)

or-more : (xs : List (List ℕ)) (o : Option (List ℕ)) → nat_lt 0 (length (xs ++ filter_map (λ x. x) (o ∷ []))) ≡ (nat_lt 0 (length xs) || is_some o)
or-more [] None = refl
or-more [] (Some x) = refl
or-more (y ∷ xs) o = rw (some-test (length ((y ∷ xs) ++ filter_map (λ x. x) (o ∷ []))) (omega arith), some-test (length (y ∷ xs)) (omega arith)) refl

-- one line more
pub is_asked-more : (lines : List Line) (line : Line) (n : ℕ) → is_asked (lines ++ line ∷ []) n ≡ (is_asked lines n || is_some (request_for n line))
is_asked-more lines line n =
    ap (λ xs. nat_lt 0 (length xs)) (filter_map-append (request_for n) lines (line ∷ [])) ∙ or-more (asked n lines) (request_for n line)

pub is_asked-next : {S : Type 0} (f : S → Line) (steps : List S) (i : ℕ) (d : S) (n : ℕ) → i < length steps →
    is_asked (map f (take (i + 1) steps)) n ≡ (is_asked (map f (take i steps)) n || is_some (request_for n (f (slice_index_or steps i d))))
is_asked-next f steps i d n low =
    ap (λ xs. is_asked xs n) (ap (map f) (take_more steps i d low) ∙ map-append f (take i steps) (slice_index_or steps i d ∷ []))
    ∙ is_asked-more (map f (take i steps)) (f (slice_index_or steps i d)) n

-- the mark of client n after one step more
pub marked-next : {S : Type 0} (f : S → Line) (steps : List S) (i : ℕ) (x : S) (n : ℕ) (old new : Bool) → i < length steps → x ≡ slice_index_or steps i x →
    old ≡ is_asked (map f (take i steps)) n → new ≡ (old || is_some (request_for n (f x))) → new ≡ is_asked (map f (take (i + 1) steps)) n
marked-next f steps i x n old new low is before after =
    after ∙ ap (λ m. m || is_some (request_for n (f x))) before ∙ ap (λ y. is_asked (map f (take i steps)) n || is_some (request_for n (f y))) is
    ∙ sym (is_asked-next f steps i x n low)
