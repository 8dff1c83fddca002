-- The clients that a plan asks anything, from their books and links.
use Rattle.std.proofs.Common.{◌≡◌, ℕ, suc, cond, ◌+◌, ◌-◌, ◌<◌, ◌≤◌, List, [], ◌∷◌, ◌++◌, length, map, get_or, reverse, refl, sym, ap, ◌∙◌, arith, Bool, true, false, subst, if◌then◌else◌, ⊎_elim}
use Rattle.std.specs.Prelude.{All, AllPairs, filter}
use Rattle.std.specs.List.{range_with_len}
use Rattle.std.proofs.lemmas.List.{map-append, map-id, reverse-append, reverse-reverse, get_or-reverse, length-reverse, length-map, length_push, get_or_append_left, append_assoc}
use Rattle.std.proofs.lemmas.List.Elements.{filter-append}
use Rattle.std.proofs.lemmas.List.Kept.{AllPairs-filter}
use Rattle.std.proofs.lemmas.List.FromFn.{map-range_with_len_more, get_or-range_with_len, length-range_with_len}
use Rattle.std.proofs.lemmas.Simd.{map-map}
use Rattle.pfc_report.specs.Schedule.{Line, asked, asked_clients, is_asked}
use Rattle.pfc_report.specs.Spent.{Rows, rows_of}
use Rattle.pfc_actor.specs.Books.{BookView}
use Rattle.pfc_actor.specs.Clients.{ClientView, IsFresh}
use Rattle.pfc_scene.specs.Scenes.{AreUnique, who, number_of}
use Rattle.pfc_scene.specs.Ends.{all_asked}
use Rattle.pfc_scene.proofs.Casts.{below_or}
use Rattle.pfc_scene.proofs.Reports.{at_map}

reverse_one : {X : Type 0} (x : X) (xs : List X) → reverse (x ∷ xs) ≡ reverse xs ++ x ∷ []
reverse_one x xs = reverse-append (x ∷ []) xs

map_reverse : {X Y : Type 0} (f : X → Y) (xs : List X) → map f (reverse xs) ≡ reverse (map f xs)
map_reverse f [] = refl
map_reverse f (x ∷ xs) =
    ap (map f) (reverse_one x xs) ∙ map-append f (reverse xs) (x ∷ []) ∙ ap (λ l. l ++ f x ∷ []) (map_reverse f xs) ∙ sym (reverse_one (f x) (map f xs))

all_reverse : {X : Type 0} (P : X → Type 0) (xs : List X) → All P xs → All P (reverse xs)
all_reverse P xs h k d l =
    let long = length-reverse xs in let low : k < length xs = omega (arith, l, long) in
    subst P (sym (get_or-reverse xs k d low)) (h (length xs - 1 - k) d (omega (arith, low)))

one_kept : (p : ℕ → Bool) (n : ℕ) → (if p n then n ∷ [] else []) ≡ filter p (n ∷ [])
one_kept p n = elim (p n) as (λ v. (if v then n ∷ [] else []) ≡ cond v (n ∷ []) []) [ true ↦ refl | false ↦ refl ]

-- a number more, if it is wanted
pub numbers_more : (p : ℕ → Bool) (n : ℕ) (old new : List ℕ) (mark : Bool) → 1 ≤ n → mark ≡ p n → old ≡ filter p (range_with_len 1 (n - 1)) → new ≡ old ++ (if mark then n ∷ [] else []) →
    new ≡ filter p (range_with_len 1 ((n + 1) - 1))
numbers_more p n old new mark least is before after =
    let count = n - 1 in let next : (n + 1) - 1 ≡ count + 1 = omega (arith, least) in
    let range : range_with_len 1 (count + 1) ≡ range_with_len 1 count ++ n ∷ [] =
    sym (map-id (range_with_len 1 (count + 1))) ∙ map-range_with_len_more (λ (x : ℕ). x) 1 count n (omega (arith, least)) ∙ ap (λ xs. xs ++ n ∷ []) (map-id (range_with_len 1 count)) in
    after ∙ ap (λ xs. xs ++ (if mark then n ∷ [] else [])) before ∙ ap (λ m. filter p (range_with_len 1 count) ++ (if m then n ∷ [] else [])) is ∙ ap (λ xs. filter p (range_with_len 1 count) ++ xs) (one_kept p n)
    ∙ sym (ap (λ m. filter p (range_with_len 1 m)) next ∙ ap (filter p) range ∙ filter-append p (range_with_len 1 count) (n ∷ []))

-- all of them
pub numbers_all : (lines : List Line) (n : ℕ) (xs : List ℕ) → n - 1 ≡ 64 → xs ≡ filter (is_asked lines) (range_with_len 1 (n - 1)) → xs ≡ asked_clients lines
unfolding asked_clients
numbers_all lines n xs all is = is ∙ ap (λ m. filter (is_asked lines) (range_with_len 1 m)) all

rising : (a n : ℕ) → AllPairs (λ x y. x < y) (range_with_len a n)
rising a n i j d lt l =
    let long = length-range_with_len a n in
    let one = get_or-range_with_len a n i d (omega (arith, lt, l, long)) in let two = get_or-range_with_len a n j d (omega (arith, l, long)) in omega (arith, one, two, lt)

-- the numbers that are asked rise
pub asked_rise : (lines : List Line) → AllPairs (λ x y. x < y) (asked_clients lines)
unfolding asked_clients
asked_rise lines = AllPairs-filter (λ x y. x < y) (is_asked lines) (range_with_len 1 64) (rising 1 64)

-- so no two clients of these numbers have one
pub are_unique : (clients : List ClientView) (ns : List ℕ) → map number_of clients ≡ ns → AllPairs (λ x y. x < y) ns → AreUnique clients
are_unique clients ns is rise i j d li lj e =
    let long : length clients ≡ length ns = sym (length-map clients number_of) ∙ ap length is in
    let at : (x : ℕ) → x < length clients → (get_or clients x d).book.number ≡ get_or ns x 0 = λ x l. sym (at_map number_of clients x d 0 l) ∙ ap (λ l. get_or l x 0) is in
    let one = at i li in let two = at j lj in
    ⊎_elim
    (λ lt. let up = rise i j 0 lt (omega (arith, lj, long)) in absurd (omega (arith, up, one, two, e)))
    (λ ge. ⊎_elim
    (λ lt. let up = rise j i 0 lt (omega (arith, li, long)) in absurd (omega (arith, up, one, two, e)))
    (λ ge2. omega (arith, ge, ge2))
    (below_or j i))
    (below_or i j)

-- the numbers of rows
pub numbers_of_rows : {L : Type 0} (number calls faults : L → ℕ) (links : List L) (ns : List ℕ) → rows_of number calls faults links ≡ map (λ n. (n, 0, 0)) ns → map number links ≡ ns
numbers_of_rows number calls faults links ns is =
    sym (map-map (λ (row : ℕ × ℕ × ℕ). row.0) (λ l. (number l, calls l, faults l)) links) ∙ ap (map (λ (row : ℕ × ℕ × ℕ). row.0)) is
    ∙ map-map (λ (row : ℕ × ℕ × ℕ). row.0) (λ n. (n, 0, 0)) ns ∙ map-id ns

pub rows_of_books : {B : Type 0} (number : B → ℕ) (books : List B) (ns : List ℕ) (rows : Rows) → map number books ≡ ns → rows ≡ map (λ n. (n, 0, 0)) ns → rows ≡ map (λ b. (number b, 0, 0)) books
rows_of_books number books ns rows is at = at ∙ ap (map (λ n. (n, 0, 0))) (sym is) ∙ map-map (λ n. (n, 0, 0)) number books

-- the clients in the order of their numbers
pub in_order : (clients after : List ClientView) (ns : List ℕ) → map number_of clients ≡ reverse ns → after ≡ reverse clients → map number_of after ≡ ns
in_order clients after ns is turned = ap (map number_of) turned ∙ map_reverse number_of clients ∙ ap reverse is ∙ reverse-reverse ns

pub fresh_in_order : (clients after : List ClientView) → All (λ a. IsFresh a.book.number a) clients → after ≡ reverse clients → All (λ a. IsFresh a.book.number a) after
fresh_in_order clients after fresh turned = subst (All (λ a. IsFresh a.book.number a)) (sym turned) (all_reverse (λ a. IsFresh a.book.number a) clients fresh)

same_map : (lines : List Line) (clients : List ClientView) → All (λ a. IsFresh a.book.number a) clients → map (λ a. all_asked lines (who a)) clients ≡ map (λ a. (number_of a, asked (number_of a) lines)) clients
same_map lines [] fresh = refl
same_map lines (a ∷ clients) fresh =
    let one = fresh 0 a (omega arith) in
    let none : a.book.asked ≡ [] = ap (λ (b : BookView). b.asked) one.book_is in
    ap (λ l. (a.book.number, l ++ asked a.book.number lines) ∷ map (λ a. all_asked lines (who a)) clients) none
    ∙ ap (λ l. (a.book.number, asked a.book.number lines) ∷ l) (same_map lines clients (λ k d l. fresh (suc k) d (omega (arith, l))))

-- what clients that were asked nothing are asked by a plan
pub asked_from : (lines : List Line) (clients : List ClientView) (ns : List ℕ) → All (λ a. IsFresh a.book.number a) clients → map number_of clients ≡ ns → map (all_asked lines) (map who clients) ≡ map (λ n. (n, asked n lines)) ns
asked_from lines clients ns fresh is =
    map-map (all_asked lines) who clients ∙ same_map lines clients fresh ∙ sym (map-map (λ n. (n, asked n lines)) number_of clients) ∙ ap (map (λ n. (n, asked n lines))) is

-- what is left after the last of two lists that are equal
pub last_same : {X : Type 0} (xs ys : List X) (x y : X) → xs ++ x ∷ [] ≡ ys ++ y ∷ [] → (xs ≡ ys) × (x ≡ y)
last_same [] [] x y e = (refl, cc)
last_same [] (b ∷ ys) x y e = let long = ap length e in absurd (omega (arith, long, length_push ys y))
last_same (a ∷ xs) [] x y e = let long = ap length e in absurd (omega (arith, long, length_push xs x))
last_same (a ∷ xs) (b ∷ ys) x y e =
    let first : a ≡ b = cc in let more : xs ++ x ∷ [] ≡ ys ++ y ∷ [] = cc in
    let rest = last_same xs ys x y more in (ap (λ z. z ∷ xs) first ∙ ap (λ l. b ∷ l) rest.0, rest.1)

-- a link and a book are taken
pub rows_pop : {L B : Type 0} (number calls faults : L → ℕ) (num : B → ℕ) (links l2 : List L) (link : L) (books b2 : List B) (book : B) → links ≡ l2 ++ link ∷ [] → books ≡ b2 ++ book ∷ [] →
    rows_of number calls faults links ≡ map (λ b. (num b, 0, 0)) books → rows_of number calls faults l2 ≡ map (λ b. (num b, 0, 0)) b2
rows_pop number calls faults num links l2 link books b2 book le be is =
    (last_same (rows_of number calls faults l2) (map (λ b. (num b, 0, 0)) b2) (number link, calls link, faults link) (num book, 0, 0)
    (sym (map-append (λ l. (number l, calls l, faults l)) l2 (link ∷ [])) ∙ ap (rows_of number calls faults) (sym le) ∙ is ∙ ap (map (λ b. (num b, 0, 0))) be ∙ map-append (λ b. (num b, 0, 0)) b2 (book ∷ []))).0

pub all_front : {X : Type 0} (P : X → Type 0) (xs ys : List X) (x : X) → xs ≡ ys ++ x ∷ [] → All P xs → All P ys
all_front P xs ys x e h k d l =
    let long = ap length e in let more = length_push ys x in
    subst P (ap (λ l. get_or l k d) e ∙ get_or_append_left ys (x ∷ []) d k l) (h k d (omega (arith, l, long, more)))

pub numbers_pop : {B : Type 0} (num : B → ℕ) (clients after : List ClientView) (a : ClientView) (books b2 : List B) (book : B) (whole : List ℕ) → after ≡ clients ++ a ∷ [] → books ≡ b2 ++ book ∷ [] → number_of a ≡ num book →
    map number_of clients ++ reverse (map num books) ≡ whole → map number_of after ++ reverse (map num b2) ≡ whole
numbers_pop num clients after a books b2 book whole ae be one is =
    let turned : reverse (map num books) ≡ num book ∷ reverse (map num b2) =
    ap (λ l. reverse (map num l)) be ∙ ap reverse (map-append num b2 (book ∷ [])) ∙ reverse-append (map num b2) (num book ∷ []) in
    ap (λ l. map number_of l ++ reverse (map num b2)) ae ∙ ap (λ l. l ++ reverse (map num b2)) (map-append number_of clients (a ∷ []))
    ∙ append_assoc (map number_of clients) (number_of a ∷ []) (reverse (map num b2)) ∙ ap (λ n. map number_of clients ++ n ∷ reverse (map num b2)) one
    ∙ ap (λ l. map number_of clients ++ l) (sym turned) ∙ is

pub as_long : {X : Type 0} (f : X → ℕ) (xs : List X) (ns : List ℕ) → map f xs ≡ ns → length xs ≡ length ns
as_long f xs ns is = sym (length-map xs f) ∙ ap length is
