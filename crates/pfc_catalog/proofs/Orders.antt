-- The notes of the candidates beside the files.
use Rattle.std.proofs.Common.{◌≡◌, ℕ, ◌==◌, ◌&&◌, List, [], ◌∷◌, ◌++◌, Bool, true, false, cond, Option, Some, None, Result, Ok, Err, OnOk, refl, sym, ap, ◌∙◌, subst, arith, eq-eqb, tests}
use Rattle.std.specs.Prelude.{slice_get, if◌then◌else◌, is_err, sum_by, ◌+◌}
use Rattle.std.proofs.lemmas.List.Sums.{sum_by-cons}
use Rattle.std.specs.List.{IsDistinct}
use Rattle.std.specs.Map.{keys_of}
use Rattle.std.specs.Cmp.{IsTotalOrder}
use Rattle.std.specs.Cmp.Lexicographic.{slice_cmp, lists_ties, same_text}
use Rattle.std.specs.Ordering.{nat_cmp, ordering_then, is_lt, is_gt, is_eq, ordering_reverse}
use Rattle.std.specs.declared.cmp.Ordering.{Ordering}
use Rattle.std.specs.declared.cmp.Ordering.TheVariants.{Less, Equal, Greater}
use Rattle.std.proofs.lemmas.Cmp.{on_total, then_total, nat_cmp_total, nat_list_cmp_total, nat_list_eq_equiv}
use Rattle.std.proofs.lemmas.Bool.{eqb-true}
use Rattle.indexmap.specs.IndexMap.{set_value_at}
use Rattle.pfc_catalog.specs.declared.entry.Entry.{Entry}
use Rattle.pfc_catalog.specs.Entry.{is_candidate, fresh}
use Rattle.pfc_catalog.specs.Files.{same_path, entry_at}
use Rattle.pfc_catalog.specs.Catalog.{put, weight}
use Rattle.pfc_catalog.specs.Order.{OrderView, key_cmp, is_key, has, without, with_it, is_due, IsNoted}
use Rattle.pfc_catalog.specs.Purge.{IsFirst, HasNoCandidate}
use Rattle.pfc_catalog.proofs.Places.{by_bool, set_is_put, push_is_put}
use Rattle.pfc_catalog.proofs.Turning.{at-path}

abbrev Row : Type 0
Row = List ℕ × Entry

key-total : IsTotalOrder key_cmp
key-total = then_total (on_total (λ (k : ℕ × List ℕ). k.0) nat_cmp_total) (on_total (λ (k : ℕ × List ℕ). k.1) nat_list_cmp_total)

flipped : (o : Ordering) → is_lt (ordering_reverse o) ≡ is_gt o
flipped Less = refl
flipped Equal = refl
flipped Greater = refl

pub not-lower : (a b : ℕ × List ℕ) → is_gt (key_cmp a b) ≡ false → is_lt (key_cmp b a) ≡ false
not-lower a b h = ap is_lt (key-total.antisymm b a) ∙ flipped (key_cmp a b) ∙ h

pub of-ok : {T E : Type 0} {P : Type 0} (r : Result T E) → is_err r ≡ false → OnOk r P → P
of-ok (Ok x) h p = p
of-ok (Err e) h p = absurd cc

then-eq : (a b : Ordering) → is_eq (ordering_then a b) ≡ is_eq a && is_eq b
then-eq Less b = refl
then-eq Equal b = refl
then-eq Greater b = refl

nat-eq : (a b : ℕ) → is_eq (nat_cmp a b) ≡ (a == b)
nat-eq a b = grind (arith, tests)

-- two keys are one where both parts are
pub key-is : (m n : ℕ) (p q : List ℕ) → is_key (m, p) (n, q) ≡ (m == n) && same_path p q
key-is m n p q = then-eq (nat_cmp m n) (slice_cmp nat_cmp p q) ∙ ap (λ (b : Bool). b && is_eq (slice_cmp nat_cmp p q)) (nat-eq m n)
    ∙ ap (λ (b : Bool). (m == n) && b) (sym (lists_ties nat_cmp (λ x y. sym (nat-eq x y)) p q))

and-false : (b : Bool) → b && false ≡ false
and-false true = refl
and-false false = refl

and-true : (b : Bool) → b && true ≡ b
and-true true = refl
and-true false = refl

-- the entry at a path after one was put
pub found-put : (fs : List Row) (path q : List ℕ) (e : Entry) → entry_at q (put path e fs) ≡ (if same_path path q then Some e else entry_at q fs)
found-put [] path q e = ap (λ (b : Bool). cond b (Some e) None) (nat_list_eq_equiv.symm q path)
found-put (f ∷ fs) path q e =
    by_bool (same_path path f.0)
    (λ same.
    ap (λ (b : Bool). entry_at q (if b then (f.0, e) ∷ fs else f ∷ put path e fs)) same
    ∙ (let one : same_path q f.0 ≡ same_path path q = nat_list_eq_equiv.symm q f.0 ∙ sym (nat_list_eq_equiv.congr path f.0 q same) in
    ap (λ (b : Bool). cond b (Some e) (entry_at q fs)) one
    ∙ by_bool (same_path path q)
    (λ y. ap (λ (b : Bool). cond b (Some e) (entry_at q fs)) y ∙ sym (ap (λ (b : Bool). if b then Some e else entry_at q (f ∷ fs)) y))
    (λ n. ap (λ (b : Bool). cond b (Some e) (entry_at q fs)) n
    ∙ sym (ap (λ (b : Bool). cond b (Some f.1) (entry_at q fs)) (one ∙ n)) ∙ sym (ap (λ (b : Bool). if b then Some e else entry_at q (f ∷ fs)) n))))
    (λ other.
    ap (λ (b : Bool). entry_at q (if b then (f.0, e) ∷ fs else f ∷ put path e fs)) other
    ∙ by_bool (same_path q f.0)
    (λ y. ap (λ (b : Bool). cond b (Some f.1) (entry_at q (put path e fs))) y
    ∙ sym (ap (λ (b : Bool). if b then Some e else entry_at q (f ∷ fs)) (nat_list_eq_equiv.symm path q ∙ nat_list_eq_equiv.congr q f.0 path y ∙ nat_list_eq_equiv.symm f.0 path ∙ other)
    ∙ ap (λ (b : Bool). cond b (Some f.1) (entry_at q fs)) y))
    (λ n. ap (λ (b : Bool). cond b (Some f.1) (entry_at q (put path e fs))) n ∙ found-put fs path q e
    ∙ ap (λ (o : Option Entry). if same_path path q then Some e else o) (sym (ap (λ (b : Bool). cond b (Some f.1) (entry_at q fs)) n))))

-- the notes of one file
noted-one : (was e : Entry) (path : List ℕ) (n : ℕ) → with_it path e (n, path) (without path was (n, path) (is_due n (Some was))) ≡ is_due n (Some e)
noted-one was e path n =
    let key = λ (m : ℕ). key-is m n path path ∙ ap (λ (b : Bool). (m == n) && b) (nat_list_eq_equiv.refl path) ∙ and-true (m == n) in
    let gone : without path was (n, path) (is_due n (Some was)) ≡ false =
    ap (λ (b : Bool). if is_candidate was then (if b then false else is_candidate was && (was.last == n)) else is_candidate was && (was.last == n)) (key was.last)
    ∙ cases-gone (is_candidate was) (was.last == n) in
    ap (with_it path e (n, path)) gone
    ∙ ap (λ (b : Bool). if is_candidate e then (if b then true else false) else false) (key e.last) ∙ cases-there (is_candidate e) (e.last == n)
  where
    cases-gone : (a b : Bool) → (if a then (if b then false else a && b) else a && b) ≡ false
    cases-gone true true = refl
    cases-gone true false = refl
    cases-gone false b = refl

    cases-there : (a b : Bool) → (if a then (if b then true else false) else false) ≡ a && b
    cases-there true true = refl
    cases-there true false = refl
    cases-there false b = refl

-- the notes of another file stay
noted-other : (was e : Entry) (path q : List ℕ) (n : ℕ) (had : Bool) → same_path path q ≡ false → with_it path e (n, q) (without path was (n, q) had) ≡ had
noted-other was e path q n had other =
    let key = λ (m : ℕ). key-is m n path q ∙ ap (λ (b : Bool). (m == n) && b) other ∙ and-false (m == n) in
    let first : without path was (n, q) had ≡ had = ap (λ (b : Bool). if is_candidate was then (if b then false else had) else had) (key was.last) ∙ same-both (is_candidate was) in
    ap (with_it path e (n, q)) first ∙ ap (λ (b : Bool). if is_candidate e then (if b then true else had) else had) (key e.last) ∙ same-both (is_candidate e)
  where
    same-both : (b : Bool) → (if b then had else had) ≡ had
    same-both true = refl
    same-both false = refl

-- a file went from one entry to another
pub noted-put : (fs : List Row) (path : List ℕ) (was e : Entry) (old : Option Entry) → entry_at path fs ≡ old → ((n : ℕ) → is_due n old ≡ is_due n (Some was))
    → (before after : ℕ × List ℕ → Bool) → ((key : ℕ × List ℕ) → before key ≡ is_due key.0 (entry_at key.1 fs))
    → ((key : ℕ × List ℕ) → after key ≡ with_it path e key (without path was key (before key)))
    → (key : ℕ × List ℕ) → after key ≡ is_due key.0 (entry_at key.1 (put path e fs))
noted-put fs path was e old found same before after noted changed key =
    changed key ∙ ap (λ (b : Bool). with_it path e key (without path was key b)) (noted key)
    ∙ by_bool (same_path path key.1)
    (λ y.
    let is : path ≡ key.1 = same_text path key.1 (sym y) in
    ap (λ (b : Bool). with_it path e key (without path was key b)) (ap (λ (p : List ℕ). is_due key.0 (entry_at p fs)) (sym is) ∙ ap (is_due key.0) found ∙ same key.0)
    ∙ subst (λ (p : List ℕ). with_it path e (key.0, p) (without path was (key.0, p) (is_due key.0 (Some was))) ≡ is_due key.0 (Some e)) is (noted-one was e path key.0)
    ∙ sym (ap (is_due key.0) (found-put fs path key.1 e ∙ ap (λ (b : Bool). if b then Some e else entry_at key.1 fs) y)))
    (λ n.
    noted-other was e path key.1 key.0 (is_due key.0 (entry_at key.1 fs)) n
    ∙ sym (ap (is_due key.0) (found-put fs path key.1 e ∙ ap (λ (b : Bool). if b then Some e else entry_at key.1 fs) n)))

-- what is known of a file at a place changes
pub put-noted : (fs : List Row) (o p r : OrderView) (path : List ℕ) (place : ℕ) (was e : Entry) → IsDistinct same_path (keys_of fs) → slice_get fs place ≡ Some (path, was)
    → IsNoted fs o → p.whole ≡ o.whole → ((key : ℕ × List ℕ) → has key p.keys ≡ without path was key (has key o.keys))
    → (r.whole ≡ true → p.whole ≡ true) → (r.whole ≡ true → (key : ℕ × List ℕ) → has key r.keys ≡ with_it path e key (has key p.keys)) → IsNoted (set_value_at fs place e) r
put-noted fs o p r path place was e distinct there noted same gone still came = λ whole.
    let all = noted (sym same ∙ still whole) in
    subst (λ (gs : List Row). (key : ℕ × List ℕ) → has key r.keys ≡ is_due key.0 (entry_at key.1 gs)) (sym (set_is_put fs place path was e distinct there))
    (noted-put fs path was e (Some was) (at-path fs place path was distinct there) (λ n. refl) (λ key. has key o.keys) (λ key. has key r.keys) all
    (λ key. came whole key ∙ ap (with_it path e key) (gone key)))

-- a file comes in
pub push-noted : (fs : List Row) (o r : OrderView) (path : List ℕ) (e : Entry) → entry_at path fs ≡ None → IsNoted fs o
    → (r.whole ≡ true → o.whole ≡ true) → (r.whole ≡ true → (key : ℕ × List ℕ) → has key r.keys ≡ with_it path e key (has key o.keys)) → IsNoted (fs ++ (path, e) ∷ []) r
push-noted fs o r path e none noted still came = λ whole.
    let all = noted (still whole) in
    subst (λ (gs : List Row). (key : ℕ × List ℕ) → has key r.keys ≡ is_due key.0 (entry_at key.1 gs)) (sym (push_is_put fs path e none))
    (noted-put fs path fresh e None none (λ n. refl) (λ key. has key o.keys) (λ key. has key r.keys) all (came whole))

and-both : (a b : Bool) → a && b ≡ true → (a ≡ true) × (b ≡ true)
and-both true b h = (refl, h)
and-both false b h = absurd cc

module _ (fs : List Row) (o : OrderView) (noted : IsNoted fs o) (whole : o.whole ≡ true) where
  -- the first key that is noted is the file that a purge takes next
  pub first-noted : (k : ℕ × List ℕ) (e : Entry) → has k o.keys ≡ true → ((key : ℕ × List ℕ) → has key o.keys ≡ true → is_lt (key_cmp key k) ≡ false) → entry_at k.1 fs ≡ Some e → IsFirst fs k.1 e
  first-noted k e had first found =
      let due : is_candidate e && (e.last == k.0) ≡ true = sym (ap (is_due k.0) found) ∙ sym (noted whole k) ∙ had in
      let both = and-both (is_candidate e) (e.last == k.0) due in
      let last : e.last ≡ k.0 = eqb-true e.last k.0 both.1 in
      record {
        there = found;
        candidate = both.0;
        first = λ q f at can.
            let is : has (f.last, q) o.keys ≡ true = noted whole (f.last, q) ∙ ap (is_due f.last) at ∙ ap (λ (b : Bool). b && (f.last == f.last)) can ∙ eq-eqb f.last f.last refl in
            ap (λ (n : ℕ). is_lt (key_cmp (f.last, q) (n, k.1))) last ∙ first (f.last, q) is;
      }

  pub none-noted : ((key : ℕ × List ℕ) → has key o.keys ≡ false) → HasNoCandidate fs
  none-noted none q f at = by_bool (is_candidate f)
      (λ can.
      let clash : true ≡ false = sym (noted whole (f.last, q) ∙ ap (is_due f.last) at ∙ ap (λ (b : Bool). b && (f.last == f.last)) can ∙ eq-eqb f.last f.last refl) ∙ none (f.last, q) in
      absurd cc)
      (λ not_can. not_can)

pub new-noted : (fs : List Row) (o : OrderView) → fs ≡ [] → o ≡ record { keys = []; whole = true } → IsNoted fs o
new-noted fs o no_file is = λ _. λ key. ap (λ (x : OrderView). has key x.keys) is ∙ sym (ap (λ (gs : List Row). is_due key.0 (entry_at key.1 gs)) no_file)

-- a sum after one file was put
pub sum-put : (w : Entry → ℕ) (fs : List Row) (path : List ℕ) (e : Entry) → sum_by (λ (f : Row). w f.1) (put path e fs) + weight w (entry_at path fs) ≡ sum_by (λ (f : Row). w f.1) fs + w e
sum-put w [] path e = omega (arith, sum_by-cons (λ (f : Row). w f.1) (path, e) [])
sum-put w (f ∷ fs) path e =
    let v = λ (x : Row). w x.1 in
    by_bool (same_path path f.0)
    (λ y. subst (λ (b : Bool). sum_by v (if b then (f.0, e) ∷ fs else f ∷ put path e fs) + weight w (cond b (Some f.1) (entry_at path fs)) ≡ sum_by v (f ∷ fs) + w e) (sym y)
    (omega (arith, sum_by-cons v (f.0, e) fs, sum_by-cons v f fs)))
    (λ n. subst (λ (b : Bool). sum_by v (if b then (f.0, e) ∷ fs else f ∷ put path e fs) + weight w (cond b (Some f.1) (entry_at path fs)) ≡ sum_by v (f ∷ fs) + w e) (sym n)
    (let rest = sum-put w fs path e in omega (arith, rest, sum_by-cons v f (put path e fs), sum_by-cons v f fs)))
