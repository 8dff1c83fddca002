-- Parts beside the places of their pieces.
use Rattle.std.proofs.Common.{◌≡◌, ◌≢◌, ◌==◌, ℕ, zero, suc, ◌+◌, ◌<◌, ◌≤◌, List, [], ◌∷◌, ◌++◌, length, map, filter, Some, refl, sym, ap, ◌∙◌, arith, subst, append_assoc, inl, inr}
use Rattle.std.specs.List.{All, AllPairs, slice_get}
use Rattle.std.proofs.lemmas.Bool.{cases_eq, eq-eqb, ne_eqb}
use Rattle.std.proofs.lemmas.List.{append-nil, map-append}
use Rattle.std.proofs.lemmas.List.Elements.{All-nil, All-head, All-tail, All-push, All-append, All-map, All-weaker, filter-append}
use Rattle.std.proofs.lemmas.List.Quantifiers.{all_pairs_push}
use Rattle.pfc_base.specs.declared.block.Part.{Part}
use Rattle.pfc_base.specs.declared.block.Piece.{Piece}
use Rattle.pfc_span.specs.Tiling.{Tiles, TileEach, parts_of}

abbrev pub beside : ℕ → List Part → List (ℕ × Part)
beside place parts = map (λ part. (place, part)) parts

pub parts-beside : (place : ℕ) (parts : List Part) → map (λ x. x.1) (beside place parts) ≡ parts
parts-beside place [] = refl
parts-beside place (part ∷ parts) = ap (λ ps. part ∷ ps) (parts-beside place parts)

parts_of-beside_same : (place : ℕ) (parts : List Part) → parts_of place (beside place parts) ≡ parts
parts_of-beside_same place [] = refl
parts_of-beside_same place (part ∷ parts) =
    rw (eq-eqb place place refl) (ap (λ ps. part ∷ ps) (parts_of-beside_same place parts))

parts_of-beside_other : (i place : ℕ) (parts : List Part) → place ≢ i → parts_of i (beside place parts) ≡ []
parts_of-beside_other i place [] ne = refl
parts_of-beside_other i place (part ∷ parts) ne = rw (ne_eqb place i ne) (parts_of-beside_other i place parts ne)

parts_of-below : (i : ℕ) (placed : List (ℕ × Part)) → All (λ x. x.0 < i) placed → parts_of i placed ≡ []
parts_of-below i [] below = refl
parts_of-below i (x ∷ xs) below =
    let ne : x.0 ≢ i = λ e. let h = All-head (λ (y : ℕ × Part). y.0 < i) x xs below in omega (arith, h) in
    rw (ne_eqb x.0 i ne) (parts_of-below i xs (All-tail (λ y. y.0 < i) x xs below))

parts_of-append : (i : ℕ) (xs ys : List (ℕ × Part)) → parts_of i (xs ++ ys) ≡ parts_of i xs ++ parts_of i ys
parts_of-append i xs ys = ap (map (λ x. x.1)) (filter-append (λ x. x.0 == i) xs ys) ∙ map-append (λ x. x.1) (filter (λ x. x.0 == i) xs) (filter (λ x. x.0 == i) ys)

in_order-append : (xs : List (ℕ × Part)) (place : ℕ) (parts : List Part) → AllPairs (λ x later. x.0 ≤ later.0) xs → All (λ x. x.0 ≤ place) xs →
    AllPairs (λ x later. x.0 ≤ later.0) (xs ++ beside place parts)
in_order-append xs place [] ordered below = let P : List (ℕ × Part) → Type 0 = λ ys. AllPairs (λ x later. x.0 ≤ later.0) ys in subst P (sym (append-nil xs)) ordered
in_order-append xs place (part ∷ parts) ordered below =
    let P : List (ℕ × Part) → Type 0 = λ ys. AllPairs (λ x later. x.0 ≤ later.0) ys in
    let more = all_pairs_push (λ x later. x.0 ≤ later.0) xs (place, part) ordered (λ k d h. below k d h) in
    let at_most = All-push (λ x. x.0 ≤ place) xs (place, part) below (omega arith) in
    subst P (append_assoc xs ((place, part) ∷ []) (beside place parts)) (in_order-append (xs ++ (place, part) ∷ []) place parts more at_most)

slice_get-lt : (pieces : List Piece) (i : ℕ) (piece : Piece) → slice_get pieces i ≡ Some piece → i < length pieces
slice_get-lt [] i piece at = cc
slice_get-lt (p ∷ ps) zero piece at = omega arith
slice_get-lt (p ∷ ps) (suc i) piece at = omega (arith, slice_get-lt ps i piece at)

-- the parts of the first pieces
pub record TileBelow (size k : ℕ) (pieces : List Piece) (n : ℕ) (placed : List (ℕ × Part)) : Type 0 where
  pub places : All (λ x. x.0 < n) placed
  pub in_order : AllPairs (λ x later. x.0 ≤ later.0) placed
  pub tile : (i : ℕ) (piece : Piece) → i < n → slice_get pieces i ≡ Some piece → Tiles size k piece (parts_of i placed)

pub below-none : (size k : ℕ) (pieces : List Piece) → TileBelow size k pieces 0 []
below-none size k pieces = record {
  places = All-nil (λ x. x.0 < 0);
  in_order = λ i j d lt h. absurd (omega arith);
  tile = λ i piece h is. absurd (omega arith);
}

some-same : (a b : Piece) → Some a ≡ Some b → a ≡ b
some-same a b e = cc

pub each-from_below : (size k : ℕ) (pieces : List Piece) (placed : List (ℕ × Part)) → TileBelow size k pieces (length pieces) placed → TileEach size k pieces placed
each-from_below size k pieces placed is = record {
  places = is.places;
  in_order = is.in_order;
  tile = λ i piece at. is.tile i piece (slice_get-lt pieces i piece at) at;
}

pub below-more : (size k : ℕ) (pieces : List Piece) (n : ℕ) (placed : List (ℕ × Part)) (piece : Piece) (parts : List Part) → slice_get pieces n ≡ Some piece →
    TileBelow size k pieces n placed → Tiles size k piece parts → TileBelow size k pieces (n + 1) (placed ++ beside n parts)
below-more size k pieces n placed piece parts here is tiles = record {
  places = All-append (λ x. x.0 < n + 1) placed (beside n parts)
      (All-weaker (λ x. x.0 < n) (λ x. x.0 < n + 1) (λ x h. omega arith) placed is.places)
      (All-map (λ x. x.0 < n + 1) (λ part. (n, part)) parts (λ j d h. omega arith));
  in_order = in_order-append placed n parts is.in_order (All-weaker (λ x. x.0 < n) (λ x. x.0 ≤ n) (λ x h. omega arith) placed is.places);
  tile = λ i p h at. elim (cases_eq i n) [
    | inl e ↦
        let same : piece ≡ p = some-same piece p (sym here ∙ ap (slice_get pieces) (sym e) ∙ at) in
        let none = parts_of-below n placed is.places in
        let all : parts ≡ parts_of i (placed ++ beside n parts) =
        sym (parts_of-beside_same n parts) ∙ ap (λ ps. ps ++ parts_of n (beside n parts)) (sym none) ∙ sym (parts_of-append n placed (beside n parts))
        ∙ ap (λ m. parts_of m (placed ++ beside n parts)) (sym e) in
        let P : Piece → List Part → Type 0 = λ q ps. Tiles size k q ps in
        subst (P p) all (subst (λ q. P q parts) same tiles)
    | inr ne ↦
        let other = parts_of-beside_other i n parts (λ e. ne (sym e)) in
        let all : parts_of i placed ≡ parts_of i (placed ++ beside n parts) =
        sym (append-nil (parts_of i placed)) ∙ ap (λ ps. parts_of i placed ++ ps) (sym other) ∙ sym (parts_of-append i placed (beside n parts)) in
        let P : List Part → Type 0 = λ ps. Tiles size k p ps in
        subst P all (is.tile i p (omega (arith, ne)) at)
  ];
}
