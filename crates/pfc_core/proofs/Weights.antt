-- The marks of what is out, weighed.
use Rattle.std.proofs.Common.{◌≡◌, ℕ, ◌+◌, List, [], ◌∷◌, ◌++◌, map, sym, refl, ap, ◌∙◌, subst, arith, Bool, true, false, Option, Some, None, ◌==◌, ◌&&◌, eq-eqb}
use Rattle.std.specs.Prelude.{sum_by, count_by, flat_map, if◌then◌else◌}
use Rattle.std.specs.Cmp.Lexicographic.{pointwise}
use Rattle.std.proofs.lemmas.Bool.{eqb-true}
use Rattle.std.proofs.lemmas.Bool.Decides.{nat_tests}
use Rattle.std.proofs.lemmas.List.Sums.{sum_by-cons, sum_by-append}
use Rattle.pfc_core.specs.declared.slot.Slot.{Slot}
use Rattle.pfc_core.specs.declared.held.Held.{Held}
use Rattle.pfc_core.specs.declared.loan.Lent.{Lent}
use Rattle.pfc_core.specs.Held.{is_held}
use Rattle.pfc_core.specs.Marks.{Kind, StayKind, ReadingKind, PinKind, DiskKind, LoanKind, kind_code, Mark, same, sees}
use Rattle.pfc_core.specs.Out.{Home, mark_in, flights_at, loan_of, loan_at, out_of}
use Rattle.pfc_core.proofs.Entries.{by_bool, sum_map}
use Rattle.pfc_core.proofs.Numbered.{held_is}

sum_flat : {X Y : Type 0} (w : Y → ℕ) (f : X → List Y) (xs : List X) → sum_by w (flat_map f xs) ≡ sum_by (λ x. sum_by w (f x)) xs
sum_flat w f [] = refl
sum_flat w f (x ∷ xs) = sum_by-append w (f x) (flat_map f xs) ∙ ap (λ n. sum_by w (f x) + n) (sum_flat w f xs) ∙ sym (sum_by-cons (λ y. sum_by w (f y)) x xs)

-- what the tokens of one kind weigh
abbrev pub kind_weight : Kind → Home → (Mark → ℕ) → List Held → ℕ
kind_weight kind h w ps = sum_by (λ p. w (mark_in kind h p)) ps

abbrev pub slot_weight : Home → (Mark → ℕ) → Slot → ℕ
slot_weight h w s = sum_by w (flights_at h s)

-- what the loan weighs, where one is out
abbrev pub loan_weight : Home → (Mark → ℕ) → Option Lent → ℕ
loan_weight h w loan = sum_by w (loan_at h loan)

-- all that is out, weighed kind by kind
pub weigh_out : (w : Mark → ℕ) (h : Home) (stays readings pins disks : List Held) (loan : Option Lent) (slots : List Slot) → sum_by w (out_of h stays readings pins disks loan slots) ≡ kind_weight StayKind h w stays + kind_weight ReadingKind h w readings + kind_weight PinKind h w pins + kind_weight DiskKind h w disks + loan_weight h w loan + sum_by (slot_weight h w) slots
weigh_out w h stays readings pins disks loan slots =
    let a = sum_by-append w (map (mark_in StayKind h) stays ++ map (mark_in ReadingKind h) readings ++ map (mark_in PinKind h) pins ++ map (mark_in DiskKind h) disks ++ loan_at h loan) (flat_map (flights_at h) slots) in
    let b = sum_by-append w (map (mark_in StayKind h) stays ++ map (mark_in ReadingKind h) readings ++ map (mark_in PinKind h) pins ++ map (mark_in DiskKind h) disks) (loan_at h loan) in
    let c = sum_by-append w (map (mark_in StayKind h) stays ++ map (mark_in ReadingKind h) readings ++ map (mark_in PinKind h) pins) (map (mark_in DiskKind h) disks) in
    let d = sum_by-append w (map (mark_in StayKind h) stays ++ map (mark_in ReadingKind h) readings) (map (mark_in PinKind h) pins) in
    let e = sum_by-append w (map (mark_in StayKind h) stays) (map (mark_in ReadingKind h) readings) in
    omega (arith, a, b, c, d, e, sum_map w (mark_in StayKind h) stays, sum_map w (mark_in ReadingKind h) readings, sum_map w (mark_in PinKind h) pins, sum_map w (mark_in DiskKind h) disks, sum_flat w (flights_at h) slots)

path_is : (a b : List ℕ) → pointwise ◌==◌ a b ≡ true → a ≡ b
path_is [] [] h = refl
path_is [] (y ∷ ys) h = absurd cc
path_is (x ∷ xs) [] h = absurd cc
path_is (x ∷ xs) (y ∷ ys) h =
    let first : x ≡ y = grind (arith, nat_tests) in let rest : pointwise ◌==◌ xs ys ≡ true = grind (arith, nat_tests) in let tail = path_is xs ys rest in cc

pub path_self : (a : List ℕ) → pointwise ◌==◌ a a ≡ true
path_self [] = refl
path_self (x ∷ xs) = let rest = path_self xs in grind (arith, nat_tests)

both : (a b : Bool) → (a && b) ≡ true → (a ≡ true) × (b ≡ true)
both true b h = (refl, h)
both false b h = absurd cc

-- each of ten tests passes where all do
each : (a b c d e f g h i j : Bool) → (a && b && c && d && e && f && g && h && i && j) ≡ true → (a ≡ true) × (b ≡ true) × (c ≡ true) × (d ≡ true) × (e ≡ true) × (f ≡ true) × (g ≡ true) × (h ≡ true) × (i ≡ true) × (j ≡ true)
each a b c d e f g h i j t =
    let p9 = both (a && b && c && d && e && f && g && h && i) j t in
    let p8 = both (a && b && c && d && e && f && g && h) i p9.0 in
    let p7 = both (a && b && c && d && e && f && g) h p8.0 in
    let p6 = both (a && b && c && d && e && f) g p7.0 in
    let p5 = both (a && b && c && d && e) f p6.0 in
    let p4 = both (a && b && c && d) e p5.0 in
    let p3 = both (a && b && c) d p4.0 in
    let p2 = both (a && b) c p3.0 in
    let p1 = both a b p2.0 in
    (p1.0, p1.1, p2.1, p3.1, p4.1, p5.1, p6.1, p7.1, p8.1, p9.1)

parts : (m x : Mark) → same m x ≡ true → (kind_code m.kind == kind_code x.kind ≡ true) × (m.instance == x.instance ≡ true) × (pointwise ◌==◌ m.path x.path ≡ true) × (m.size == x.size ≡ true) × (m.block_size == x.block_size ≡ true) × (m.number == x.number ≡ true) × (m.client == x.client ≡ true) × (m.block == x.block ≡ true) × (m.flight == x.flight ≡ true) × (m.owner == x.owner ≡ true)
parts m x h = each (kind_code m.kind == kind_code x.kind) (m.instance == x.instance) (pointwise ◌==◌ m.path x.path) (m.size == x.size) (m.block_size == x.block_size) (m.number == x.number) (m.client == x.client) (m.block == x.block) (m.flight == x.flight) (m.owner == x.owner) h

-- marks that are one agree in each part
pub same_kind : (m x : Mark) → same m x ≡ true → kind_code m.kind ≡ kind_code x.kind
same_kind m x h = eqb-true _ _ (parts m x h).0

pub same_instance : (m x : Mark) → same m x ≡ true → m.instance ≡ x.instance
same_instance m x h = eqb-true _ _ (parts m x h).1

pub same_path : (m x : Mark) → same m x ≡ true → m.path ≡ x.path
same_path m x h = path_is m.path x.path (parts m x h).2

pub same_size : (m x : Mark) → same m x ≡ true → m.size ≡ x.size
same_size m x h = eqb-true _ _ (parts m x h).3

pub same_block_size : (m x : Mark) → same m x ≡ true → m.block_size ≡ x.block_size
same_block_size m x h = eqb-true _ _ (parts m x h).4

pub same_number : (m x : Mark) → same m x ≡ true → m.number ≡ x.number
same_number m x h = eqb-true _ _ (parts m x h).5

pub same_client : (m x : Mark) → same m x ≡ true → m.client ≡ x.client
same_client m x h = eqb-true _ _ (parts m x h).6

pub same_block : (m x : Mark) → same m x ≡ true → m.block ≡ x.block
same_block m x h = eqb-true _ _ (parts m x h).7

pub same_flight : (m x : Mark) → same m x ≡ true → m.flight ≡ x.flight
same_flight m x h = eqb-true _ _ (parts m x h).8

pub same_owner : (m x : Mark) → same m x ≡ true → m.owner ≡ x.owner
same_owner m x h = eqb-true _ _ (parts m x h).9

pub same_self : (m : Mark) → same m m ≡ true
same_self m = let p = path_self m.path in grind (arith, nat_tests)

both_ways : (a b : Bool) → (a ≡ true → b ≡ true) → (b ≡ true → a ≡ true) → a ≡ b
both_ways true b f g = sym (f refl)
both_ways false true f g = g refl
both_ways false false f g = refl

-- in one core the marks of one kind are told apart by what is kept
pub same_held : (kind : Kind) (h : Home) (p q : Held) → same (mark_in kind h p) (mark_in kind h q) ≡ is_held p q
same_held kind h p q = both_ways (same (mark_in kind h p) (mark_in kind h q)) (is_held p q)
    (λ yes.
    let a = same_number (mark_in kind h p) (mark_in kind h q) yes in let b = same_client (mark_in kind h p) (mark_in kind h q) yes in
    let c = same_block (mark_in kind h p) (mark_in kind h q) yes in let d = same_flight (mark_in kind h p) (mark_in kind h q) yes in
    let e = same_owner (mark_in kind h p) (mark_in kind h q) yes in
    grind (arith, eq-eqb))
    (λ yes. subst (λ (r : Held). same (mark_in kind h p) (mark_in kind h r) ≡ true) (sym (held_is p q yes)) (same_self (mark_in kind h p)))

sum_same : {X : Type 0} (f g : X → ℕ) (xs : List X) → ((x : X) → f x ≡ g x) → sum_by f xs ≡ sum_by g xs
sum_same f g [] h = refl
sum_same f g (x ∷ xs) h = let r = sum_same f g xs h in let e = h x in omega (arith, sum_by-cons f x xs, sum_by-cons g x xs, r, e)

pub sum_zero : {X : Type 0} (f : X → ℕ) (xs : List X) → ((x : X) → f x ≡ 0) → sum_by f xs ≡ 0
sum_zero f [] h = refl
sum_zero f (x ∷ xs) h = let r = sum_zero f xs h in let e = h x in omega (arith, sum_by-cons f x xs, r, e)

-- how often a mark is among those of its kind
pub listed_in : (kind : Kind) (h : Home) (p : Held) (ps : List Held) → kind_weight kind h (sees (mark_in kind h p)) ps ≡ count_by (is_held p) ps
listed_in kind h p ps = sum_same (λ q. sees (mark_in kind h p) (mark_in kind h q)) (λ q. if is_held p q then 1 else 0) ps (λ q. ap {B = ℕ} (λ (b : Bool). if b then 1 else 0) (same_held kind h p q))

pub unseen : (m x : Mark) → (same m x ≡ true → ⊥) → sees m x ≡ 0
unseen m x apart = by_bool (same m x) (λ yes. absurd (apart yes)) (λ off. ap {B = ℕ} (λ (b : Bool). if b then 1 else 0) off)

-- a mark is not among those of another kind
pub other_kind : (kind other : Kind) (h : Home) (p : Held) (ps : List Held) → (kind_code kind ≡ kind_code other → ⊥) → kind_weight other h (sees (mark_in kind h p)) ps ≡ 0
other_kind kind other h p ps apart = sum_zero (λ q. sees (mark_in kind h p) (mark_in other h q)) ps (λ q. unseen (mark_in kind h p) (mark_in other h q) (λ yes. apart (same_kind (mark_in kind h p) (mark_in other h q) yes)))

-- what the loan weighs where none of its numbers weighs anything
pub loan_zero : (w : Mark → ℕ) (h : Home) (loan : Option Lent) → ((n : Lent) → w (mark_in LoanKind h (loan_of n)) ≡ 0) → loan_weight h w loan ≡ 0
loan_zero w h None none = refl
loan_zero w h (Some n) none = omega (arith, none n, sum_by-cons w (mark_in LoanKind h (loan_of n)) [])

pub loan_one : (w : Mark → ℕ) (h : Home) (n : Lent) → loan_weight h w (Some n) ≡ w (mark_in LoanKind h (loan_of n))
loan_one w h n = omega (arith, sum_by-cons w (mark_in LoanKind h (loan_of n)) [])

-- a mark is not the loan if it is of another kind
pub other_loan : (kind : Kind) (h : Home) (p : Held) (loan : Option Lent) → (kind_code kind ≡ 6 → ⊥) → loan_weight h (sees (mark_in kind h p)) loan ≡ 0
other_loan kind h p loan apart = loan_zero (sees (mark_in kind h p)) h loan (λ n. unseen (mark_in kind h p) (mark_in LoanKind h (loan_of n)) (λ yes. apart (same_kind (mark_in kind h p) (mark_in LoanKind h (loan_of n)) yes)))
