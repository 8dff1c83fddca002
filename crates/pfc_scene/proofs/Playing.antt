-- What the steps of a plan ask.
use Rattle.std.proofs.Common.{◌≡◌, ℕ, ◌+◌, ◌<◌, List, [], ◌∷◌, ◌++◌, length, map, take, refl, sym, ap, ◌∙◌, arith, Bool, true, false, if◌then◌else◌, ◌==◌, append_assoc}
use Rattle.std.proofs.lemmas.Bool.Decides.{nat_tests}
use Rattle.std.specs.Prelude.{filter_map, Option, Some, None, slice_index_or}
use Rattle.std.proofs.lemmas.List.{append-nil, take_more, length-map}
use Rattle.pfc_scene.proofs.Reports.{at_map}
use Rattle.std.proofs.lemmas.Simd.{map-map}
use Rattle.std.proofs.lemmas.List.Elements.{filter_map-append}
use Rattle.pfc_log.proofs.Places.{by_bool, eq_sym}
use Rattle.pfc_report.specs.Schedule.{Line, Ask, Go, Write, Sync, asked, request_for}
use Rattle.pfc_scene.specs.Ends.{all_asked}
use Rattle.pfc_actor.specs.Clients.{ClientView}
use Rattle.pfc_scene.specs.Scenes.{who, number_of, asked_more}

same_test : (a b : ℕ) → (a == b) ≡ (b == a)
same_test a b = by_bool (b == a)
    (λ t. grind (arith, nat_tests, t))
    (λ f. eq_sym b a f ∙ sym f)

one_ask : (n : ℕ) (line : List ℕ) (x : ℕ × List (List ℕ)) → asked_more n line x ≡ all_asked (Ask n line ∷ []) x
one_ask n line x = by_bool (x.0 == n)
    (λ t. let u : (n == x.0) ≡ true = same_test n x.0 ∙ t in
    ap (λ (q : Bool). if q then (x.0, x.1 ++ line ∷ []) else x) t ∙ sym (ap (λ (q : Bool). (x.0, x.1 ++ filter_map (λ (o : Option (List ℕ)). o) ((if q then Some line else None) ∷ []))) u))
    (λ f. let u : (n == x.0) ≡ false = same_test n x.0 ∙ f in
    ap (λ (q : Bool). if q then (x.0, x.1 ++ line ∷ []) else x) f ∙ ap (λ l. (x.0, l)) (sym (append-nil x.1)) ∙ sym (ap (λ (q : Bool). (x.0, x.1 ++ filter_map (λ (o : Option (List ℕ)). o) ((if q then Some line else None) ∷ []))) u))

map_ext : {X Y : Type 0} (f h : X → Y) → ((x : X) → f x ≡ h x) → (xs : List X) → map f xs ≡ map h xs
map_ext f h e [] = refl
map_ext f h e (x ∷ xs) = ap (λ y. y ∷ map f xs) (e x) ∙ ap (λ l. h x ∷ l) (map_ext f h e xs)

-- an `ask` adds a line
pub asks_one : (n : ℕ) (line : List ℕ) (xs : List (ℕ × List (List ℕ))) → map (asked_more n line) xs ≡ map (all_asked (Ask n line ∷ [])) xs
asks_one n line xs = map_ext (asked_more n line) (all_asked (Ask n line ∷ [])) (one_ask n line) xs

map_id : {X : Type 0} (f : X → X) → ((x : X) → f x ≡ x) → (xs : List X) → map f xs ≡ xs
map_id f e [] = refl
map_id f e (x ∷ xs) = ap (λ y. y ∷ map f xs) (e x) ∙ ap (λ l. x ∷ l) (map_id f e xs)

-- a `go` adds none, nor does a `write`, nor do no lines
pub goes_none : (n times : ℕ) (xs : List (ℕ × List (List ℕ))) → map (all_asked (Go n times ∷ [])) xs ≡ xs
goes_none n times xs = map_id (all_asked (Go n times ∷ [])) (λ x. ap (λ l. (x.0, l)) (append-nil x.1)) xs

pub writes_none : (w times : ℕ) (xs : List (ℕ × List (List ℕ))) → map (all_asked (Write w times ∷ [])) xs ≡ xs
writes_none w times xs = map_id (all_asked (Write w times ∷ [])) (λ x. ap (λ l. (x.0, l)) (append-nil x.1)) xs

pub syncs_none : (path : List ℕ) (times : ℕ) (xs : List (ℕ × List (List ℕ))) → map (all_asked (Sync path times ∷ [])) xs ≡ xs
syncs_none path times xs = map_id (all_asked (Sync path times ∷ [])) (λ x. ap (λ l. (x.0, l)) (append-nil x.1)) xs

pub none_yet : (xs : List (ℕ × List (List ℕ))) → map (all_asked []) xs ≡ xs
none_yet xs = map_id (all_asked []) (λ x. ap (λ l. (x.0, l)) (append-nil x.1)) xs

one_line : (lines : List Line) (line : Line) (x : ℕ × List (List ℕ)) → all_asked (lines ++ line ∷ []) x ≡ all_asked (line ∷ []) (all_asked lines x)
one_line lines line x = ap (λ l. (x.0, x.1 ++ l)) (filter_map-append (request_for x.0) lines (line ∷ [])) ∙ ap (λ l. (x.0, l)) (sym (append_assoc x.1 (asked x.0 lines) (asked x.0 (line ∷ []))))

-- one line more
pub plays_on : (lines : List Line) (i : ℕ) (line : Line) (xs now next : List (ℕ × List (List ℕ))) → i < length lines → line ≡ slice_index_or lines i line → now ≡ map (all_asked (take i lines)) xs →
    next ≡ map (all_asked (line ∷ [])) now → next ≡ map (all_asked (take (i + 1) lines)) xs
plays_on lines i line xs now next low is before after =
    after ∙ ap (map (all_asked (line ∷ []))) before ∙ map-map (all_asked (line ∷ [])) (all_asked (take i lines)) xs
    ∙ map_ext (λ x. all_asked (line ∷ []) (all_asked (take i lines) x)) (all_asked (take i lines ++ line ∷ [])) (λ x. sym (one_line (take i lines) line x)) xs
    ∙ ap (λ ls. map (all_asked ls) xs) (ap (λ (y : Line). take i lines ++ y ∷ []) is ∙ sym (take_more lines i line low))

-- who clients are tells their numbers
pub numbers_from_who : (xs ys : List ClientView) → map who xs ≡ map who ys → map number_of xs ≡ map number_of ys
numbers_from_who xs ys e =
    sym (map-map (λ (x : ℕ × List (List ℕ)). x.0) who xs) ∙ ap (map (λ (x : ℕ × List (List ℕ)). x.0)) e ∙ map-map (λ (x : ℕ × List (List ℕ)). x.0) who ys

pub plays_step : {S : Type 0} (f : S → Line) (steps : List S) (lines : List Line) (i : ℕ) (d : S) (xs now next : List (ℕ × List (List ℕ))) → map f steps ≡ lines → i < length steps → now ≡ map (all_asked (take i lines)) xs →
    next ≡ map (all_asked (f (slice_index_or steps i d) ∷ [])) now → next ≡ map (all_asked (take (i + 1) lines)) xs
plays_step f steps lines i d xs now next is low before after =
    let long = sym (length-map steps f) ∙ ap length is in
    plays_on lines i (f (slice_index_or steps i d)) xs now next (omega (arith, long, low)) (sym (at_map f steps i d (f (slice_index_or steps i d)) low) ∙ ap (λ (ls : List Line). slice_index_or ls i (f (slice_index_or steps i d))) is) before after
