-- Which file a purge takes next.
use Rattle.std.proofs.Common.{◌≡◌, ℕ, ◌+◌, List, [], ◌∷◌, ◌++◌, length, take, filter, cond, Bool, true, false, Option, Some, None, refl, sym, ap, ◌∙◌, subst, arith}
use Rattle.std.specs.Prelude.{slice_get}
use Rattle.std.specs.List.{IsDistinct}
use Rattle.std.specs.Map.{keys_of}
use Rattle.std.specs.Cmp.{IsTotalOrder}
use Rattle.std.specs.Ordering.{is_lt}
use Rattle.std.specs.declared.cmp.Ordering.{Ordering}
use Rattle.std.specs.declared.cmp.Ordering.TheVariants.{Less, Equal, Greater}
use Rattle.std.proofs.lemmas.Cmp.{on_total, then_total, nat_cmp_total, nat_list_cmp_total, nat_list_eq_equiv, tied_itself}
use Rattle.std.proofs.lemmas.Map.Entries.{place_from_lookup, lookup_from_place}
use Rattle.std.proofs.lemmas.Option.{same_Some, slice_get_within, get_or_from_slice_get}
use Rattle.std.proofs.lemmas.List.Elements.{filter_more}
use Rattle.std.proofs.lemmas.List.{append-nil}
use Rattle.std.specs.Cmp.Lexicographic.{same_text}
use Rattle.pfc_catalog.specs.declared.entry.Entry.{Entry}
use Rattle.pfc_catalog.specs.Entry.{is_candidate}
use Rattle.pfc_catalog.specs.Files.{same_path, entry_at}
use Rattle.pfc_catalog.specs.Purge.{purge_cmp, candidates, IsFirst, HasNoCandidate}
use Rattle.pfc_catalog.specs.Best.{IsBestAt, IsBest}
use Rattle.pfc_catalog.specs.Kept.{IsTable}
use Rattle.pfc_catalog.specs.Catalog.{IsCatalog}
use Rattle.pfc_catalog.proofs.Tables.{table-low}
use Rattle.pfc_catalog.proofs.Places.{by_bool, same-nat}

abbrev pub Row : Type 0
Row = List ℕ × Entry

pub purge-total : IsTotalOrder purge_cmp
purge-total = then_total (on_total (λ (f : Row). f.1.last) nat_cmp_total) (on_total (λ (f : Row). f.0) nat_list_cmp_total)

less-is : (o : Ordering) → is_lt o ≡ true → o ≡ Less
less-is Less h = refl
less-is Equal h = absurd cc
less-is Greater h = absurd cc

not-itself : (f : Row) → is_lt (purge_cmp f f) ≡ false
not-itself f = ap is_lt (tied_itself purge-total f)

-- what isn't before a file isn't before one that is before it
not-before : (g f h : Row) → is_lt (purge_cmp g h) ≡ false → is_lt (purge_cmp f h) ≡ true → is_lt (purge_cmp g f) ≡ false
not-before g f h apart below = by_bool (is_lt (purge_cmp g f))
    (λ yes. let clash : true ≡ false = sym (ap is_lt (purge-total.trans g f h (less-is _ yes) (less-is _ below))) ∙ apart in absurd cc)
    (λ no. no)

module _ (fs : List Row) (n : ℕ) (f : Row) (there : slice_get fs n ≡ Some f) where
  -- the first candidate so far
  pub best-one : IsBest fs n None → is_candidate f.1 ≡ true → IsBest fs (n + 1) (Some n)
  best-one none is = record {
    file = f;
    there = there;
    candidate = is;
    best = λ i g low at can. same-nat i n
        (λ same. let one : g ≡ f = same_Some g f (sym at ∙ ap (slice_get fs) same ∙ there) in ap (λ (x : Row). is_lt (purge_cmp x f)) one ∙ not-itself f)
        (λ other. let clash : true ≡ false = sym can ∙ none i g (omega (arith, low, other)) at in absurd cc);
  }

  -- it comes before the best so far
  pub best-new : (b : ℕ) (h : Row) → IsBestAt fs n b → slice_get fs b ≡ Some h → is_candidate f.1 ≡ true → is_lt (purge_cmp f h) ≡ true → IsBest fs (n + 1) (Some n)
  best-new b h old at_b is below = record {
    file = f;
    there = there;
    candidate = is;
    best = λ i g low at can. same-nat i n
        (λ same. let one : g ≡ f = same_Some g f (sym at ∙ ap (slice_get fs) same ∙ there) in ap (λ (x : Row). is_lt (purge_cmp x f)) one ∙ not-itself f)
        (λ other.
        let is_h : old.file ≡ h = same_Some old.file h (sym old.there ∙ at_b) in
        not-before g f h (subst (λ (x : Row). is_lt (purge_cmp g x) ≡ false) is_h (old.best i g (omega (arith, low, other)) at can)) below);
  }

  -- it doesn't
  pub best-old : (b : ℕ) (h : Row) → IsBestAt fs n b → slice_get fs b ≡ Some h → is_lt (purge_cmp f h) ≡ false → IsBest fs (n + 1) (Some b)
  best-old b h old at_b above = record {
    file = old.file;
    there = old.there;
    candidate = old.candidate;
    best = λ i g low at can. same-nat i n
        (λ same.
        let one : g ≡ f = same_Some g f (sym at ∙ ap (slice_get fs) same ∙ there) in
        let is_h : old.file ≡ h = same_Some old.file h (sym old.there ∙ at_b) in
        ap (λ (x : Row). is_lt (purge_cmp x old.file)) one ∙ ap (λ (x : Row). is_lt (purge_cmp f x)) is_h ∙ above)
        (λ other. old.best i g (omega (arith, low, other)) at can);
  }

module _ (fs : List Row) (distinct : IsDistinct same_path (keys_of fs)) where
  place-at : (q : List ℕ) (e : Entry) → entry_at q fs ≡ Some e → (i : ℕ) × (slice_get fs i ≡ Some (q, e))
  place-at q e h =
      let p = place_from_lookup (same_path q) fs e h in
      let is : q ≡ p.1 = same_text q p.1 (sym p.3) in
      (p.0, p.2 ∙ ap (λ (k : List ℕ). Some (k, e)) (sym is))

  pub first-is : (b : ℕ) (path : List ℕ) (e : Entry) → IsBestAt fs (length fs) b → slice_get fs b ≡ Some (path, e) → IsFirst fs path e
  first-is b path e best at_b =
      let is : best.file ≡ (path, e) = same_Some best.file (path, e) (sym best.there ∙ at_b) in
      record {
        there = lookup_from_place nat_list_eq_equiv fs b path e distinct at_b;
        candidate = sym (ap (λ (x : Row). is_candidate x.1) is) ∙ best.candidate;
        first = λ q f h can. let p = place-at q f h in
            ap (λ (x : Row). is_lt (purge_cmp (q, f) x)) (sym is) ∙ best.best p.0 (q, f) (slice_get_within fs p.0 (q, f) p.1) p.1 can;
      }

  pub none-is : IsBest fs (length fs) None → HasNoCandidate fs
  none-is none q f h = let p = place-at q f h in none p.0 (q, f) (slice_get_within fs p.0 (q, f) p.1) p.1

-- the candidates of a front that is one longer
filter-more : (p : Row → Bool) (fs : List Row) (i : ℕ) (f : Row) → slice_get fs i ≡ Some f → filter p (take (i + 1) fs) ≡ filter p (take i fs) ++ cond (p f) (f ∷ []) []
filter-more p fs i f there =
    filter_more p fs i f (slice_get_within fs i f there) ∙ ap (λ (x : Row). filter p (take i fs) ++ cond (p x) (x ∷ []) []) (get_or_from_slice_get fs i f f there)

pub candidates-more : (fs : List Row) (i : ℕ) (f : Row) → slice_get fs i ≡ Some f → is_candidate f.1 ≡ true → candidates (take (i + 1) fs) ≡ candidates (take i fs) ++ f ∷ []
candidates-more fs i f there is = filter-more (λ x. is_candidate x.1) fs i f there ∙ ap (λ (b : Bool). candidates (take i fs) ++ cond b (f ∷ []) []) is

pub candidates-same : (fs : List Row) (i : ℕ) (f : Row) → slice_get fs i ≡ Some f → is_candidate f.1 ≡ false → candidates (take (i + 1) fs) ≡ candidates (take i fs)
candidates-same fs i f there isnt = filter-more (λ x. is_candidate x.1) fs i f there ∙ ap (λ (b : Bool). candidates (take i fs) ++ cond b (f ∷ []) []) isnt ∙ append-nil (candidates (take i fs))

-- one path has one file, and one shell one holder
pub is-catalog : (fs : List Row) (shells : List (Option ℕ)) → IsDistinct same_path (keys_of fs) → IsTable fs shells → IsCatalog fs
is-catalog fs shells distinct table = record {
  paths = distinct;
  low = λ path e s found at. let p = place-at fs distinct path e found in table-low fs shells table p.0 s (path, e) p.1 at;
  alone = λ p q e f s found_p found_q at_p at_q.
      let i = place-at fs distinct p e found_p in
      let j = place-at fs distinct q f found_q in
      let same : i.0 ≡ j.0 = same_Some i.0 j.0 (same_Some (Some i.0) (Some j.0) (sym (table.holds i.0 s (p, e) i.1 at_p) ∙ table.holds j.0 s (q, f) j.1 at_q)) in
      let one : (p, e) ≡ (q, f) = same_Some (p, e) (q, f) (sym i.1 ∙ ap (slice_get fs) same ∙ j.1) in
      ap (λ (x : Row). x.0) one;
}
