-- Sets of paths by what they contain.
use Rattle.std.proofs.Common.{◌≡◌, ◌≢◌, ◌↔◌, ℕ, ◌+◌, List, Bool, true, false, not, if◌then◌else◌, IsTrue, Contains, length, sym, ◌∙◌, ap, subst, arith, rules}
use Rattle.std.specs.Ordering.{nat_cmp, is_eq}
use Rattle.std.specs.BTreeSet.{BTreeSet, keys, contains, contains_by, UpdatesBy}
use Rattle.std.specs.Cmp.{IsTotalOrder}
use Rattle.std.proofs.lemmas.Map.Lookups.{CmpEqualImpliesEq}
use Rattle.std.specs.Cmp.Lexicographic.{slice_cmp}
use Rattle.std.specs.Cmp.Rules.{comparing}
use Rattle.std.specs.List.Sorted.{IsStrictlySortedBy}
use Rattle.std.proofs.lemmas.Map.Views.{btree_set_contains_iff}
use Rattle.std.proofs.lemmas.Bool.{false_from_ne_true, iff_false}
use Rattle.std.proofs.lemmas.Map.Text.{is_eq-slice_cmp}
use Rattle.std.proofs.lemmas.Slice.Eq.{bytes_eq-Decides}
use Rattle.std.proofs.lemmas.Map.Keys.{Less-from_sorted}
use Rattle.pfc_world.specs.Depot.{Gains, InByteOrder, Loses}

abbrev pub Paths : Type 0
Paths = BTreeSet (List ℕ)

pub total : IsTotalOrder (slice_cmp nat_cmp)
total = search (comparing, rules)

pub exact : CmpEqualImpliesEq (slice_cmp nat_cmp)
exact a b e = (bytes_eq-Decides a b).0 (sym (is_eq-slice_cmp a b) ∙ ap is_eq e)

tied : (a b : List ℕ) → is_eq (slice_cmp nat_cmp a b) ≡ true → a ≡ b
tied a b e = (bytes_eq-Decides a b).0 (sym (is_eq-slice_cmp a b) ∙ e)

-- a path is found exactly where it is one of them
pub found : (s : Paths) (path : List ℕ) → IsTrue (contains (slice_cmp nat_cmp) s path) ↔ Contains (keys s) path
found s path = btree_set_contains_iff total exact s path

pub found-by : (s : Paths) (path : List ℕ) (b : Bool) → b ≡ contains_by (slice_cmp nat_cmp path) s → IsTrue b ↔ Contains (keys s) path
found-by s path b e = (λ t. (found s path).0 (sym e ∙ t), λ inside. e ∙ (found s path).1 inside)

pub others : (s n : Paths) (path : List ℕ) (b : Bool) → UpdatesBy (slice_cmp nat_cmp) (slice_cmp nat_cmp path) s n b → (other : List ℕ) → other ≢ path → Contains (keys n) other ↔ Contains (keys s) other
others s n path b updates other differs =
    let apart : is_eq (slice_cmp nat_cmp path other) ≡ false = false_from_ne_true (is_eq (slice_cmp nat_cmp path other)) (λ tie. differs (sym (tied path other tie))) in
    let same : contains (slice_cmp nat_cmp) n other ≡ contains (slice_cmp nat_cmp) s other = updates.2 other apart in
    (λ inside. (found s other).0 (sym same ∙ (found n other).1 inside), λ inside. (found n other).0 (same ∙ (found s other).1 inside))

pub gains : (s n : Paths) (path : List ℕ) (added : Bool) → (Contains (keys s) path → ⊥) → added ≡ not (contains (slice_cmp nat_cmp) s path) → UpdatesBy (slice_cmp nat_cmp) (slice_cmp nat_cmp path) s n true → length (keys n) ≡ length (keys s) + (if added then 1 else 0) → Gains path (keys s) (keys n)
gains s n path added absent new updates len =
    let missing : contains (slice_cmp nat_cmp) s path ≡ false = false_from_ne_true (contains (slice_cmp nat_cmp) s path) (λ t. absent ((found s path).0 t)) in
    let is_new : added ≡ true = new ∙ ap not missing in
    let P : Bool → Type 0 = λ v. length (keys n) ≡ length (keys s) + (if v then 1 else 0) in
    let one : length (keys n) ≡ length (keys s) + 1 = subst P is_new len in
    record { here = (found n path).0 updates.1; others = others s n path true updates; count = omega arith }

pub loses : (s n : Paths) (path : List ℕ) (gone : Bool) → gone ≡ true → UpdatesBy (slice_cmp nat_cmp) (slice_cmp nat_cmp path) s n false → length (keys n) + (if gone then 1 else 0) ≡ length (keys s) → Loses path (keys s) (keys n)
loses s n path gone is_gone updates len =
    let P : Bool → Type 0 = λ v. length (keys n) + (if v then 1 else 0) ≡ length (keys s) in
    let one : length (keys n) + 1 ≡ length (keys s) = subst P is_gone len in
    record { gone = λ inside. iff_false (found n path) updates.1 inside; others = others s n path false updates; count = omega arith }

pub in-order : (ks : List (List ℕ)) → IsStrictlySortedBy (slice_cmp nat_cmp) ks → InByteOrder ks
in-order ks sorted i j d below within = Less-from_sorted (slice_cmp nat_cmp) ks i j d sorted below within
