-- The catalog of the volumes that were looked at so far.
use Rattle.std.proofs.Common.{◌≡◌, ◌≢◌, ◌↔◌, inl, inr, ℕ, ◌+◌, ◌<◌, ◌≤◌, Bool, true, false, not, cond, List, [], ◌∷◌, ◌++◌, Option, Some, None, Result, Ok, Err, length, take, get_or, refl, sym, ap, ◌∙◌, subst, arith, T, length-take, get_or-take}
use Rattle.std.specs.Prelude.{IsTrue, IsSome, Contains, All, if◌then◌else◌}
use Rattle.std.specs.Map.{keys_of, lookup}
use Rattle.std.specs.Cmp.Lexicographic.{slice_cmp, same_text}
use Rattle.std.specs.Ordering.{nat_cmp, is_eq}
use Rattle.std.specs.declared.cmp.Ordering.TheVariants.{Less, Equal}
use Rattle.std.proofs.lemmas.Cmp.{nat_list_eq_equiv, nat_list_cmp_total, tied_itself}
use Rattle.std.proofs.lemmas.List.{map-append, take_more}
use Rattle.std.proofs.lemmas.List.Sums.{sum_by_push}
use Rattle.std.proofs.lemmas.List.Elements.{All-nil, All-cons, All-head, All-tail, All-push, All-contains}
use Rattle.std.proofs.lemmas.Map.Views.{Contains-keys_from_lookup, Contains-from_lookup, IsSome-lookup_from_Contains, list_any-from_Contains}
use Rattle.std.proofs.lemmas.Option.{none-some}
use Rattle.pfc_base.specs.declared.memory.Memory.{Memory}
use Rattle.pfc_world.specs.Counts.{Rose, RoseBy, RefusalCause}
use Rattle.pfc_world.specs.declared.refusal.Refusal.{Refusal}
use Rattle.pfc_world.specs.declared.refusal.Refusal.TheVariants as refusal
use Rattle.pfc_world.specs.Depot.{InByteOrder}
use Rattle.pfc_catalog.specs.declared.entry.Entry.{Entry}
use Rattle.pfc_catalog.specs.declared.scanning.Looked.{Looked}
use Rattle.pfc_catalog.specs.declared.scanning.Looked.TheVariants.{Out, Broken, Known}
use Rattle.pfc_catalog.specs.Entry.{shell_of}
use Rattle.pfc_catalog.specs.Files.{same_path, entry_at}
use Rattle.pfc_catalog.specs.Shells.{holder, is_shell}
use Rattle.pfc_catalog.specs.View.{CatalogView}
use Rattle.pfc_catalog.specs.Catalog.{put}
use Rattle.pfc_catalog.specs.Scan.{IsFoundAs, is_among, is_broken, broken_in, entry_of, is_away, Sees, LookCause}
use Rattle.pfc_catalog.proofs.Places.{by_bool, by_option, push_is_put}

abbrev Files : Type 0
Files = List (List ℕ × Entry)

-- each file as it was found
abbrev pub AreFound : Bool → (List ℕ → Option (List ℕ) → Type 0) → List (List ℕ) → Files → Type 0
AreFound tells M out files = All (λ f. IsFoundAs tells (M f.0) (Contains out f.0) f.1) files

-- the catalog has these paths, each as it was found, and those that couldn't be read are counted
pub record IsScanOf (tells : Bool) (M : List ℕ → Option (List ℕ) → Type 0) (out : List (List ℕ)) (before now : ℕ) (paths : List (List ℕ)) (c : CatalogView) : Type 0 where
  pub keys : keys_of c.entries ≡ paths
  pub next : c.next ≡ 0
  pub found : AreFound tells M out c.entries
  pub broken : RoseBy before (broken_in out c.entries) now

-- ---- paths

same_paths : (x y : List ℕ) → same_path x y ≡ true → x ≡ y
same_paths x y same = same_text x y (sym same)

-- what comes before is another
less_apart : (a b : List ℕ) → slice_cmp nat_cmp a b ≡ Less → a ≢ b
less_apart a b less same = absurd (subst (λ o. T (is_eq o)) (sym (subst (λ x. slice_cmp nat_cmp a x ≡ Equal) same (tied_itself nat_list_cmp_total a)) ∙ less) tt)

-- the path at a place isn't among those before it
not_before : (paths : List (List ℕ)) (i : ℕ) (p : List ℕ) → InByteOrder paths → i < length paths → p ≡ get_or paths i p → Contains (take i paths) p → ⊥
not_before paths i p order within is (k, below, at) =
    let low : k < i = omega (arith, below, length-take i paths) in
    let there : get_or paths k p ≡ p = sym (get_or-take i paths k p low) ∙ at in
    less_apart (get_or paths k p) (get_or paths i p) (order k i p low within) (there ∙ is)

-- so it has no entry yet
pub absent : (paths : List (List ℕ)) (i : ℕ) (p : List ℕ) (files : Files) → InByteOrder paths → i < length paths → p ≡ get_or paths i p → keys_of files ≡ take i paths → entry_at p files ≡ None
absent paths i p files order within is keys = by_option (entry_at p files) (λ none. none)
    (λ e some. absurd (not_before paths i p order within is
    (subst (λ (l : List (List ℕ)). Contains l p) keys (Contains-keys_from_lookup same_paths p files (subst (λ o. IsSome o) (sym some) refl)))))

-- ---- the entries

-- each other entry is as it was found
others : (P Q : List ℕ × Entry → Type 0) (p : List ℕ) (files : Files) → entry_at p files ≡ None → ((f : List ℕ × Entry) → f.0 ≢ p → P f → Q f) → All P files → All Q files
others P Q p [] none step all = All-nil Q
others P Q p (f ∷ fs) none step all =
    by_bool (same_path p f.0)
    (λ yes. absurd (none-some f.1 (sym none ∙ ap (λ (b : Bool). cond b (Some f.1) (lookup (same_path p) fs)) yes)))
    (λ no.
    let rest : entry_at p fs ≡ None = sym (ap (λ (b : Bool). cond b (Some f.1) (lookup (same_path p) fs)) no) ∙ none in
    let apart : f.0 ≢ p = λ same. (let clash : false ≡ true = sym no ∙ subst (λ (q : List ℕ). same_path p q ≡ true) (sym same) (nat_list_eq_equiv.refl p) in cc) in
    All-cons Q f fs (step f apart (All-head P f fs all)) (others P Q p fs rest step (All-tail P f fs all)))

-- an entry as it was seen
seen : (tells : Bool) (M : Option (List ℕ) → Type 0) (IsOut : Type 0) (looked : Looked) → (IsTrue tells → Sees M looked) → (IsTrue (is_away looked) ↔ IsOut) → IsFoundAs tells M IsOut (entry_of looked)
seen tells M IsOut Out sees away = record { home = refl; away = λ is. refl; marked = λ is. (refl, refl); told = λ no. (let clash : true ≡ false = no in cc) }
seen tells M IsOut Broken sees away = record { home = refl; away = λ is. refl; marked = λ is. (refl, refl); told = λ no. (let clash : true ≡ false = no in cc) }
seen tells M IsOut (Known usage last) sees away = record {
  home = refl;
  away = λ is. (let clash : false ≡ true = away.1 is in cc);
  marked = λ yes. (let clash : false ≡ true = yes in cc);
  told = λ no. sees;
}

-- ---- counts

rose_by-later : (a n b c : ℕ) → RoseBy a n b → b ≤ c → RoseBy a n c
rose_by-later a n b c (inl rose) later = inl (omega arith)
rose_by-later a n b c (inr top) later = inr (omega arith)

pub look_later : (b c : ℕ) (result : Result Looked Memory) → LookCause b c result → b ≤ c
look_later b c (Ok Out) cause = cause
look_later b c (Ok Broken) cause = cause.0
look_later b c (Ok (Known usage last)) cause = cause
look_later b c (Err memory) cause = cause

pub list_later : {T : Type 0} (b c : ℕ) (result : Result T Refusal) → RefusalCause b c result → b ≤ c
list_later b c (Ok x) cause = cause
list_later b c (Err refusal.Fault) cause = cause.0
list_later b c (Err refusal.Memory) cause = cause

pub rose_by-earlier : (a n b c : ℕ) → a ≤ b → RoseBy b n c → RoseBy a n c
rose_by-earlier a n b c early (inl rose) = inl (omega arith)
rose_by-earlier a n b c early (inr top) = inr top

rose_by-more : (a n b c m : ℕ) → m ≤ 1 → RoseBy a n b → b ≤ c → Rose b c → RoseBy a (n + m) c
rose_by-more a n b c m one (inl rose) later (inl more) = inl (omega arith)
rose_by-more a n b c m one (inl rose) later (inr top) = inr top
rose_by-more a n b c m one (inr last) later more = inr (omega arith)

one_most : (b : Bool) → cond b 1 0 ≤ 1
one_most true = omega arith
one_most false = omega arith

counted : (a n b c : ℕ) (out : List (List ℕ)) (p : List ℕ) (looked : Looked) → (IsTrue (is_away looked) ↔ Contains out p) → RoseBy a n b → LookCause b c (Ok looked) → RoseBy a (n + cond (is_broken out (p, entry_of looked)) 1 0) c
counted a n b c out p Out away rose cause =
    let among : is_among out p ≡ true = list_any-from_Contains nat_list_eq_equiv p out (away.0 refl) in
    let none : cond (not (is_among out p)) 1 0 ≡ 0 = ap {B = ℕ} (λ (q : Bool). cond (not q) 1 0) among in
    subst (λ m. RoseBy a m c) (omega (arith, none)) (rose_by-later a n b c rose cause)
counted a n b c out p Broken away rose cause = rose_by-more a n b c (cond (not (is_among out p)) 1 0) (one_most (not (is_among out p))) rose cause.0 cause.1
counted a n b c out p (Known usage last) away rose cause = subst (λ m. RoseBy a m c) (omega arith) (rose_by-later a n b c rose cause)

-- ---- one path more

pub none_yet : (tells : Bool) (M : List ℕ → Option (List ℕ) → Type 0) (out : List (List ℕ)) (now : ℕ) (c : CatalogView) → c ≡ record { entries = []; next = 0 } → IsScanOf tells M out now now [] c
none_yet tells M out now c is = subst (λ (v : CatalogView). IsScanOf tells M out now now [] v) (sym is)
    (record { keys = refl; next = refl; found = All-nil (λ f. IsFoundAs tells (M f.0) (Contains out f.0) f.1); broken = inl (omega arith) })

pub scan_more : (tells : Bool) (M NewMain : List ℕ → Option (List ℕ) → Type 0) (out : List (List ℕ)) (before now now2 : ℕ) (paths : List (List ℕ)) (i : ℕ) (p : List ℕ) (c c2 : CatalogView) (looked : Looked) →
    InByteOrder paths → i < length paths → p ≡ get_or paths i p → IsScanOf tells M out before now (take i paths) c →
    (IsTrue tells → (other : List ℕ) → other ≢ p → (main : Option (List ℕ)) → NewMain other main → M other main) → (IsTrue tells → Sees (NewMain p) looked) → (IsTrue (is_away looked) ↔ Contains out p) →
    LookCause now now2 (Ok looked) → c2 ≡ record { entries = put p (entry_of looked) c.entries; next = c.next } → IsScanOf tells NewMain out before now2 (take (i + 1) paths) c2
scan_more tells M NewMain out before now now2 paths i p c c2 looked order within is scan rest sees away cause entered =
    let none = absent paths i p c.entries order within is scan.keys in
    let e = entry_of looked in
    let pushed = push_is_put c.entries p e none in
    subst (λ (v : CatalogView). IsScanOf tells NewMain out before now2 (take (i + 1) paths) v) (sym (entered ∙ ap (λ (fs : Files). record { entries = fs; next = c.next }) (sym pushed)))
    (record {
      keys = map-append (λ f. f.0) c.entries ((p, e) ∷ []) ∙ ap (λ (l : List (List ℕ)). l ++ p ∷ []) scan.keys ∙ ap (λ (q : List ℕ). take i paths ++ q ∷ []) is ∙ sym (take_more paths i p within);
      next = scan.next;
      found = All-push (λ f. IsFoundAs tells (NewMain f.0) (Contains out f.0) f.1) c.entries (p, e)
          (others (λ f. IsFoundAs tells (M f.0) (Contains out f.0) f.1) (λ f. IsFoundAs tells (NewMain f.0) (Contains out f.0) f.1) p c.entries none
          (λ f apart was. record { home = was.home; away = was.away; marked = was.marked; told = λ unmarked told main there. was.told unmarked told main (rest told f.0 apart main there) }) scan.found)
          (seen tells (NewMain p) (Contains out p) looked sees away);
      broken = subst (λ n. RoseBy before n now2) (sym (sum_by_push (λ f. cond (is_broken out f) 1 0) c.entries (p, e))) (counted before (broken_in out c.entries) now now2 out p looked away scan.broken cause);
    })

-- ---- all paths

module _ (tells : Bool) (M : List ℕ → Option (List ℕ) → Type 0) (out : List (List ℕ)) where
  pub found_at : (files : Files) (path : List ℕ) (e : Entry) → AreFound tells M out files → entry_at path files ≡ Some e → IsFoundAs tells (M path) (Contains out path) e
  found_at files path e all there = All-contains (λ f. IsFoundAs tells (M f.0) (Contains out f.0) f.1) files (path, e) all (Contains-from_lookup same_paths path e files there)

  -- nobody holds a shell
  pub free : (files : Files) (s : ℕ) → AreFound tells M out files → holder s files ≡ None
  free [] s all = refl
  free (f ∷ fs) s all =
      let home = (All-head (λ f. IsFoundAs tells (M f.0) (Contains out f.0) f.1) f fs all).home in
      ap (λ st. if is_shell s (shell_of st) then Some f.0 else holder s fs) home ∙ free fs s (All-tail (λ f. IsFoundAs tells (M f.0) (Contains out f.0) f.1) f fs all)

-- a path that is listed has an entry, and no other has
pub has_entry : (files : Files) (paths : List (List ℕ)) (path : List ℕ) → keys_of files ≡ paths → Contains paths path → IsSome (entry_at path files)
has_entry files paths path keys held = IsSome-lookup_from_Contains nat_list_eq_equiv path files (subst (λ (l : List (List ℕ)). Contains l path) (sym keys) held)

pub is_listed : (files : Files) (paths : List (List ℕ)) (path : List ℕ) → keys_of files ≡ paths → IsSome (entry_at path files) → Contains paths path
is_listed files paths path keys some = subst (λ (l : List (List ℕ)). Contains l path) keys (Contains-keys_from_lookup same_paths path files some)
