-- What links that came back leave at their host.
use Rattle.std.proofs.Common.{◌≡◌, ℕ, zero, suc, cond, ◌+◌, ◌<◌, ◌≤◌, List, [], ◌∷◌, ◌++◌, map, refl, sym, ap, ◌∙◌, arith, Bool, true, false, subst}
use Rattle.std.specs.Prelude.{◌==◌, All, filter, IsTrue, if◌then◌else◌}
use Rattle.std.specs.List.{range_with_len, AllByRecursion}
use Rattle.std.proofs.lemmas.Bool.Decides.{nat_tests}
use Rattle.std.proofs.lemmas.List.Elements.{All-from_recursion, filter-append}
use Rattle.std.proofs.lemmas.List.Sums.{fold-append}
use Rattle.std.proofs.lemmas.List.{map-append, map-id}
use Rattle.std.proofs.lemmas.List.FromFn.{map-range_with_len_more}
use Rattle.pfc_world.specs.Counts.{Rose, add_count}
use Rattle.pfc_world.specs.Texts.{SpentAt}
use Rattle.pfc_report.specs.Schedule.{Line, asked_clients, is_asked}
use Rattle.pfc_report.specs.Spent.{Rows, rows_of, spent_by}
use Rattle.pfc_replay.specs.Play.{given_back, fresh_rows, StopsAt, StopsBy}
use Rattle.pfc_replay.specs.declared.play.PlayRefusal.{PlayRefusal}
use Rattle.pfc_replay.specs.declared.play.PlayRefusal.TheVariants.{Link, Memory}

-- two pairs of counts together
abbrev pub added : ℕ × ℕ → ℕ × ℕ → ℕ × ℕ
added a b = (add_count a.0 b.0, add_count a.1 b.1)

add-none : (n : ℕ) → add_count n 0 ≡ n
add-none n = omega arith

-- no row has this number
abbrev pub IsFree : ℕ → Rows → Type 0
IsFree n [] = Unit {0}
IsFree n (row ∷ rows) = ((n == row.0) ≡ false) × IsFree n rows

-- each row's number is in no later row
abbrev pub AreDistinct : Rows → Type 0
AreDistinct [] = Unit {0}
AreDistinct (row ∷ rows) = IsFree row.0 rows × AreDistinct rows

spent_by-free : (n : ℕ) (rows : Rows) → IsFree n rows → spent_by rows n ≡ (0, 0)
spent_by-free n [] free = refl
spent_by-free n (row ∷ rows) free = rw free.0 (spent_by-free n rows free.1)

added-none : (a : ℕ × ℕ) → added a (0, 0) ≡ a
added-none a = rw (add-none a.0, add-none a.1) refl

same-number : (a b : ℕ) → (a == b) ≡ true → a ≡ b
same-number a b is = grind (arith, nat_tests, is)

-- what came back is added to what was spent before, number by number
pub given_back-added : (spent : ℕ → ℕ × ℕ) (rows : Rows) (n : ℕ) → AreDistinct rows → given_back spent rows n ≡ added (spent n) (spent_by rows n)
given_back-added spent [] n distinct = sym (added-none (spent n))
given_back-added spent (row ∷ rows) n distinct =
    given_back-added (SpentAt spent row.0 row.1 row.2) rows n distinct.1
    ∙ (elim (n == row.0) as (λ v. (n == row.0) ≡ v → added (if v then (add_count (spent n).0 row.1, add_count (spent n).1 row.2) else spent n) (spent_by rows n)
    ≡ added (spent n) (if v then (row.1, row.2) else spent_by rows n)) [
      | true ↦ λ is. rw (spent_by-free n rows (subst (λ (m : ℕ). IsFree m rows) (sym (same-number n row.0 is)) distinct.0))
          (added-none (add_count (spent n).0 row.1, add_count (spent n).1 row.2))
      | false ↦ λ is. refl
    ] refl)

-- one row more came back
pub given_back-more : (spent old new : ℕ → ℕ × ℕ) (rows : Rows) (row : ℕ × ℕ × ℕ) (n : ℕ) → old n ≡ given_back spent rows n →
    new n ≡ SpentAt old row.0 row.1 row.2 n → new n ≡ given_back spent (rows ++ row ∷ []) n
given_back-more spent old new rows row n before after =
    after ∙ ap (λ pair. if n == row.0 then (add_count pair.0 row.1, add_count pair.1 row.2) else pair) before
    ∙ sym (ap (λ f. f n) (fold-append (λ (f : ℕ → ℕ × ℕ) (r : ℕ × ℕ × ℕ). SpentAt f r.0 r.1 r.2) spent rows (row ∷ [])))

pub given_back-next : {L : Type 0} (number calls faults : L → ℕ) (links : List L) (link : L) (spent old new : ℕ → ℕ × ℕ) (n : ℕ) →
    old n ≡ given_back spent (rows_of number calls faults links) n → new n ≡ SpentAt old (number link) (calls link) (faults link) n →
    new n ≡ given_back spent (rows_of number calls faults (links ++ link ∷ [])) n
given_back-next number calls faults links link spent old new n before after =
    given_back-more spent old new (rows_of number calls faults links) (number link, calls link, faults link) n before after
    ∙ ap (λ rows. given_back spent rows n) (sym (map-append (λ l. (number l, calls l, faults l)) links (link ∷ [])))

-- ---- rows of fresh links

numbers-rows : {L : Type 0} (number calls faults : L → ℕ) (links : List L) → map (λ row. row.0) (rows_of number calls faults links) ≡ map number links
numbers-rows number calls faults [] = refl
numbers-rows number calls faults (link ∷ links) = ap (λ ns. number link ∷ ns) (numbers-rows number calls faults links)

numbers-fresh : (ns : List ℕ) → map (λ row. row.0) (fresh_rows ns) ≡ ns
numbers-fresh [] = refl
numbers-fresh (n ∷ ns) = ap (λ xs. n ∷ xs) (numbers-fresh ns)

-- the numbers of links with fresh rows
pub numbers-of : {L : Type 0} (number calls faults : L → ℕ) (links : List L) (ns : List ℕ) → rows_of number calls faults links ≡ fresh_rows ns → map number links ≡ ns
numbers-of number calls faults links ns is =
    sym (numbers-rows number calls faults links) ∙ ap (map (λ row. row.0)) is ∙ numbers-fresh ns

fresh-one : (wanted : ℕ → Bool) (number : ℕ) → (if wanted number then (number, 0, 0) ∷ [] else []) ≡ fresh_rows (filter wanted (number ∷ []))
fresh-one wanted number = elim (wanted number) as (λ v. (if v then (number, 0, 0) ∷ [] else []) ≡ fresh_rows (cond v (number ∷ []) [])) [ true ↦ refl | false ↦ refl ]

-- one client more has a link, if it is wanted
pub fresh-more : (wanted : ℕ → Bool) (number count next : ℕ) (old new : Rows) (mark : Bool) → 1 + count ≡ number → next ≡ count + 1 → mark ≡ wanted number →
    old ≡ fresh_rows (filter wanted (range_with_len 1 count)) → new ≡ old ++ (if mark then (number, 0, 0) ∷ [] else []) →
    new ≡ fresh_rows (filter wanted (range_with_len 1 next))
fresh-more wanted number count next old new mark at up is before after = rw up (
    let range : range_with_len 1 (count + 1) ≡ range_with_len 1 count ++ number ∷ [] =
    sym (map-id (range_with_len 1 (count + 1))) ∙ map-range_with_len_more (λ (x : ℕ). x) 1 count number at ∙ ap (λ xs. xs ++ number ∷ []) (map-id (range_with_len 1 count)) in
    let kept : filter wanted (range_with_len 1 (count + 1)) ≡ filter wanted (range_with_len 1 count) ++ filter wanted (number ∷ []) =
    ap (filter wanted) range ∙ filter-append wanted (range_with_len 1 count) (number ∷ []) in
    after ∙ ap (λ xs. xs ++ (if mark then (number, 0, 0) ∷ [] else [])) before ∙ ap (λ m. fresh_rows (filter wanted (range_with_len 1 count)) ++ (if m then (number, 0, 0) ∷ [] else [])) is
    ∙ ap (λ xs. fresh_rows (filter wanted (range_with_len 1 count)) ++ xs) (fresh-one wanted number)
    ∙ sym (ap fresh_rows kept ∙ map-append (λ n. (n, 0, 0)) (filter wanted (range_with_len 1 count)) (filter wanted (number ∷ []))))

-- each client that is asked anything has its link
pub fresh-all : (lines : List Line) (count : ℕ) (rows : Rows) → count ≡ 64 → rows ≡ fresh_rows (filter (is_asked lines) (range_with_len 1 count)) → rows ≡ fresh_rows (asked_clients lines)
unfolding asked_clients
fresh-all lines count rows all is = is ∙ ap (λ n. fresh_rows (filter (is_asked lines) (range_with_len 1 n))) all

-- ---- links that are given back

-- none of the numbers is this one
abbrev IsApart : ℕ → List ℕ → Type 0
IsApart n ns = AllByRecursion (λ m. (n == m) ≡ false) ns

abbrev AreApart : List ℕ → Type 0
AreApart [] = Unit {0}
AreApart (n ∷ ns) = IsApart n ns × AreApart ns

other-number : (m n : ℕ) → m < n → (m == n) ≡ false
other-number m n low = grind (arith, nat_tests)

filter-above : (p : ℕ → Bool) (count a m : ℕ) → m < a → IsApart m (filter p (range_with_len a count))
filter-above p zero a m low = tt
filter-above p (suc count) a m low =
    let rest = filter-above p count (a + 1) m (omega arith) in
    elim (p a) as (λ v. IsApart m (cond v (a ∷ filter p (range_with_len (a + 1) count)) (filter p (range_with_len (a + 1) count)))) [
      | true ↦ (other-number m a low, rest)
      | false ↦ rest
    ]

filter-apart : (p : ℕ → Bool) (count a : ℕ) → AreApart (filter p (range_with_len a count))
filter-apart p zero a = tt
filter-apart p (suc count) a =
    let rest = filter-apart p count (a + 1) in
    elim (p a) as (λ v. AreApart (cond v (a ∷ filter p (range_with_len (a + 1) count)) (filter p (range_with_len (a + 1) count)))) [
      | true ↦ (filter-above p count (a + 1) a (omega arith), rest)
      | false ↦ rest
    ]

filter-below : (p : ℕ → Bool) (count a most : ℕ) → a + count ≤ most + 1 → AllByRecursion (λ m. m ≤ most) (filter p (range_with_len a count))
filter-below p zero a most high = tt
filter-below p (suc count) a most high =
    let rest = filter-below p count (a + 1) most (omega arith) in
    elim (p a) as (λ v. AllByRecursion (λ m. m ≤ most) (cond v (a ∷ filter p (range_with_len (a + 1) count)) (filter p (range_with_len (a + 1) count)))) [
      | true ↦ (omega arith, rest)
      | false ↦ rest
    ]

free-rows : {L : Type 0} (number calls faults : L → ℕ) (links : List L) (n : ℕ) → IsApart n (map number links) → IsFree n (rows_of number calls faults links)
free-rows number calls faults [] n apart = tt
free-rows number calls faults (link ∷ links) n apart = (apart.0, free-rows number calls faults links n apart.1)

distinct-rows : {L : Type 0} (number calls faults : L → ℕ) (links : List L) → AreApart (map number links) → AreDistinct (rows_of number calls faults links)
distinct-rows number calls faults [] apart = tt
distinct-rows number calls faults (link ∷ links) apart =
    (free-rows number calls faults links (number link) apart.0, distinct-rows number calls faults links apart.1)

-- the numbers of the clients that are asked anything are distinct ..
pub asked-distinct : {L : Type 0} (number calls faults : L → ℕ) (links : List L) (lines : List Line) → map number links ≡ asked_clients lines →
    AreDistinct (rows_of number calls faults links)
unfolding asked_clients
asked-distinct number calls faults links lines is =
    distinct-rows number calls faults links (subst AreApart (sym is) (filter-apart (is_asked lines) 64 1))

small-links : {L : Type 0} (number : L → ℕ) (most : ℕ) (links : List L) → AllByRecursion (λ m. m ≤ most) (map number links) → AllByRecursion (λ link. number link ≤ most) links
small-links number most [] small = tt
small-links number most (link ∷ links) small = (small.0, small-links number most links small.1)

-- .. and at most 64
pub asked-small : {L : Type 0} (number : L → ℕ) (links : List L) (lines : List Line) → map number links ≡ asked_clients lines → All (λ link. number link ≤ 64) links
unfolding asked_clients
asked-small number links lines is =
    All-from_recursion _ links (small-links number 64 links (subst (AllByRecursion (λ m. m ≤ 64)) (sym is) (filter-below (is_asked lines) 64 1 64 (omega arith))))

-- what a number had spent before, and what its link spent
pub given_back-asked : {L : Type 0} (number calls faults : L → ℕ) (links : List L) (lines : List Line) (spent : ℕ → ℕ × ℕ) (n : ℕ) → map number links ≡ asked_clients lines →
    given_back spent (rows_of number calls faults links) n ≡ added (spent n) (spent_by (rows_of number calls faults links) n)
given_back-asked number calls faults links lines spent n is = given_back-added spent (rows_of number calls faults links) n (asked-distinct number calls faults links lines is)

-- why a link isn't made is why the plan isn't run
pub stops-on : (lines : List Line) (number before mid after : ℕ) (mark : Bool) (refusal : PlayRefusal) → mark ≡ is_asked lines number → before ≤ mid →
    StopsAt number mark mid after refusal → StopsBy lines before after refusal
stops-on lines number before mid after mark (Link m) is low why =
    let rose : Rose before after = grind (arith, low, why.1) in
    (rose, subst (λ (k : ℕ). IsTrue (is_asked lines k)) (sym why.0) (subst (λ (b : Bool). IsTrue b) is why.2))
stops-on lines number before mid after mark Memory is low why = tt
