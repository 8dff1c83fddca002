-- The reply's bytes and their places in the file.
use Rattle.std.proofs.Common.{◌≡◌, ℕ, zero, suc, ◌+◌, ◌-◌, ◌*◌, ◌<◌, ◌≤◌, List, [], ◌∷◌, ◌++◌, length, take, drop, refl, sym, ap, subst, ◌∙◌, arith, inl, inr, get_or, length-append, length-take, length-drop, slice_index}
use Rattle.std.specs.Prelude.{sum_by, nat_lt, Some, true, false}
use Rattle.std.specs.List.{All, slice_get}
use Rattle.std.proofs.lemmas.Bool.{cases_lt, lt-ltb, le-ltb}
use Rattle.std.proofs.lemmas.List.{take-append-drop, take-append-le, get_or_append_left, get_or-take, get_or-drop, nil_from_length, ext_get_or}
use Rattle.std.proofs.lemmas.List.Sums.{sum_by-cons, sum_by-append, sum_by_more_le}
use Rattle.std.proofs.lemmas.List.Elements.{All-nil, All-append}
use Rattle.std.proofs.Math.Seq.{get_or-append_right, take-append-add, take-length}
use Rattle.pfc_base.specs.Block.{slice_of, IsPartOf}
use Rattle.pfc_base.specs.declared.block.Part.{Part}
use Rattle.pfc_base.specs.declared.block.Piece.{Piece}
use Rattle.pfc_span.specs.Pieces.{asked_of, piece_len, total_of, spot, bytes_of}
use Rattle.pfc_span.specs.Tiling.{part_len, AreAtSpots, Tiles, TileInTurn}

-- the bytes of a piece stand behind those of the pieces before
spot-at : (size : ℕ) (pieces : List Piece) (i : ℕ) (piece : Piece) (x : ℕ) → slice_get pieces i ≡ Some piece → x < piece_len size piece →
    spot size pieces (total_of size (take i pieces) + x) ≡ piece.off + x
spot-at size [] i piece x at some = cc
spot-at size (p ∷ ps) zero piece x at some =
    let same : p ≡ piece = cc in
    let here : x < piece_len size p = subst (λ q. x < piece_len size q) (sym same) some in
    let yes_lt : nat_lt x (piece_len size p) ≡ true = lt-ltb x (piece_len size p) here in
    let start : total_of size [] + x ≡ x = omega arith in
    let step : spot size (p ∷ ps) x ≡ p.off + x = rw yes_lt refl in
    ap (spot size (p ∷ ps)) start ∙ step ∙ ap (λ q. q.off + x) same
spot-at size (p ∷ ps) (suc i) piece x at some =
    let long : ℕ = piece_len size p in
    let y : ℕ = total_of size (take i ps) + x in
    let e : total_of size (p ∷ take i ps) + x ≡ long + y = omega (arith, sum_by-cons (piece_len size) p (take i ps)) in
    let past : nat_lt (long + y) long ≡ false = le-ltb (long + y) long (omega arith) in
    let back : long + y - long ≡ y = omega arith in
    let step : spot size (p ∷ ps) (long + y) ≡ spot size ps y = rw past (ap (spot size ps) back) in
    ap (spot size (p ∷ ps)) e ∙ step ∙ spot-at size ps i piece x at some

total-more : (size : ℕ) (pieces : List Piece) (i : ℕ) (piece : Piece) → slice_get pieces i ≡ Some piece → total_of size (take (i + 1) pieces) ≡ total_of size (take i pieces) + piece_len size piece
total-more size [] i piece at = cc
total-more size (p ∷ ps) zero piece at =
    let same : p ≡ piece = cc in
    let one : total_of size (p ∷ []) ≡ piece_len size p = omega (arith, sum_by-cons (piece_len size) p []) in
    let none : piece_len size piece ≡ total_of size [] + piece_len size piece = omega arith in
    one ∙ ap (piece_len size) same ∙ none
total-more size (p ∷ ps) (suc i) piece at =
    let later : suc i + 1 ≡ suc (i + 1) = omega arith in
    let front : total_of size (take (suc i + 1) (p ∷ ps)) ≡ total_of size (p ∷ take (i + 1) ps) = ap (λ m. total_of size (take m (p ∷ ps))) later in
    let sums : total_of size (p ∷ take (i + 1) ps) ≡ total_of size (p ∷ take i ps) + piece_len size piece =
    omega (arith, sum_by-cons (piece_len size) p (take (i + 1) ps), sum_by-cons (piece_len size) p (take i ps), total-more size ps i piece at) in
    front ∙ sums

-- the parts of the first pieces, one behind the other
pub record InTurnBelow (size k : ℕ) (pieces : List Piece) (n : ℕ) (parts : List Part) : Type 0 where
  pub inside : All (IsPartOf size k) parts
  pub spots : AreAtSpots size k pieces parts
  pub whole : sum_by part_len parts ≡ total_of size (take n pieces)

pub turn-none : (size k : ℕ) (pieces : List Piece) → InTurnBelow size k pieces 0 []
turn-none size k pieces = record {
  inside = All-nil (IsPartOf size k);
  spots = λ i d x h. absurd (omega arith);
  whole = refl;
}

spots-more : (size k : ℕ) (pieces : List Piece) (n : ℕ) (parts more : List Part) (piece : Piece) → slice_get pieces n ≡ Some piece →
    InTurnBelow size k pieces n parts → Tiles size k piece more → AreAtSpots size k pieces (parts ++ more)
spots-more size k pieces n parts more piece here is tiles i d x h within =
    let P : Part → List Part → Type 0 = λ p ps. p.block * k + p.from + x ≡ spot size pieces (sum_by part_len ps + x) in
    elim (cases_lt i (length parts)) [
      | inl lower ↦
          let at : get_or (parts ++ more) i d ≡ get_or parts i d = get_or_append_left parts more d i lower in
          let front : take i (parts ++ more) ≡ take i parts = take-append-le i parts more (omega (arith, lower)) in
          let short : x < (get_or parts i d).len = subst (λ p. x < p.len) at within in
          subst (λ p. P p (take i (parts ++ more))) (sym at) (subst (P (get_or parts i d)) (sym front) (is.spots i d x lower short))
      | inr upper ↦
          let j : ℕ = i - length parts in
          let e : i ≡ length parts + j = omega (arith, upper) in
          let at : get_or (parts ++ more) i d ≡ get_or more j d = get_or-append_right parts more i d upper in
          let front : take i (parts ++ more) ≡ parts ++ take j more = ap (λ m. take m (parts ++ more)) e ∙ take-append-add parts more j in
          let short : x < (get_or more j d).len = subst (λ p. x < p.len) at within in
          let below : j < length more = omega (arith, e, h, length-append parts more) in
          let before : ℕ = sum_by part_len (take j more) in
          let some : before + x < piece_len size piece = omega (arith, short, sum_by_more_le part_len more j d below, tiles.whole) in
          let sums : sum_by part_len (parts ++ take j more) + x ≡ total_of size (take n pieces) + (before + x) = omega (arith, sum_by-append part_len parts (take j more), is.whole) in
          let row : (get_or more j d).block * k + (get_or more j d).from ≡ piece.off + before = tiles.row j d below in
          let place : (get_or more j d).block * k + (get_or more j d).from + x ≡ piece.off + (before + x) = omega (arith, row) in
          let there : P (get_or more j d) (parts ++ take j more) = place ∙ sym (spot-at size pieces n piece (before + x) here some) ∙ ap (spot size pieces) (sym sums) in
          subst (λ p. P p (take i (parts ++ more))) (sym at) (subst (P (get_or more j d)) (sym front) there)
    ]

pub turn-more : (size k : ℕ) (pieces : List Piece) (n : ℕ) (parts more : List Part) (piece : Piece) → slice_get pieces n ≡ Some piece →
    InTurnBelow size k pieces n parts → Tiles size k piece more → InTurnBelow size k pieces (n + 1) (parts ++ more)
turn-more size k pieces n parts more piece here is tiles = record {
  inside = All-append (IsPartOf size k) parts more is.inside tiles.inside;
  spots = spots-more size k pieces n parts more piece here is tiles;
  whole = sum_by-append part_len parts more ∙ (λ i. is.whole i + tiles.whole i) ∙ sym (total-more size pieces n piece here);
}

pub turn-all : (size k : ℕ) (pieces : List Piece) (parts : List Part) → InTurnBelow size k pieces (length pieces) parts → TileInTurn size k pieces parts
turn-all size k pieces parts is = record {
  inside = is.inside;
  spots = is.spots;
  whole = is.whole ∙ ap (total_of size) (take-length pieces);
}

pub total-asked : (size : ℕ) (pieces : List Piece) → total_of size pieces ≤ asked_of pieces
total-asked size [] = omega arith
total-asked size (p ∷ ps) = omega (arith, sum_by-cons (piece_len size) p ps, sum_by-cons (λ (piece : Piece). piece.len) p ps, total-asked size ps)

-- the bytes of one piece, which stand first
first-bytes : (file : List ℕ) (piece : Piece) (bytes : List ℕ) → length bytes ≡ piece_len (length file) piece → ((j : ℕ) → j < length bytes → get_or bytes j 0 ≡ get_or file (piece.off + j) 0) →
    bytes ≡ slice_of file piece.off piece.len
first-bytes file piece bytes long each =
    let same : length bytes ≡ length (take piece.len (drop piece.off file)) = omega (arith, long, length-take piece.len (drop piece.off file), length-drop piece.off file) in
    ext_get_or 0 bytes (take piece.len (drop piece.off file)) same (λ j h.
    let short : j < piece.len = omega (arith, h, long) in
    each j h ∙ sym (get_or-drop piece.off file j 0) ∙ sym (get_or-take piece.len (drop piece.off file) j 0 short))

-- bytes that are the file's at their spots are the pieces' bytes
pub bytes-of_spots : (file : List ℕ) (size : ℕ) (pieces : List Piece) (bytes : List ℕ) → length file ≡ size → length bytes ≡ total_of size pieces →
    ((j : ℕ) → j < length bytes → slice_index bytes j ≡ slice_index file (spot size pieces j)) → bytes ≡ bytes_of file pieces
bytes-of_spots file size [] bytes sized long each = nil_from_length bytes long
bytes-of_spots file size (p ∷ ps) bytes sized long each =
    let n : ℕ = piece_len size p in
    let whole : length bytes ≡ n + total_of size ps = long ∙ sum_by-cons (piece_len size) p ps in
    let front : length (take n bytes) ≡ n = omega (arith, whole, length-take n bytes) in
    let behind : length (drop n bytes) ≡ total_of size ps = omega (arith, whole, length-drop n bytes) in
    let first : take n bytes ≡ slice_of file p.off p.len =
    first-bytes file p (take n bytes) (front ∙ ap (λ s. piece_len s p) (sym sized)) (λ j h.
    let lower : j < n = omega (arith, h, front) in
    let here : nat_lt j n ≡ true = lt-ltb j n lower in
    let place : spot size (p ∷ ps) j ≡ p.off + j = rw here refl in
    get_or-take n bytes j 0 lower ∙ each j (omega (arith, lower, whole)) ∙ ap (λ m. get_or file m 0) place) in
    let rest : drop n bytes ≡ bytes_of file ps =
    bytes-of_spots file size ps (drop n bytes) sized behind (λ j h.
    let past : nat_lt (n + j) n ≡ false = le-ltb (n + j) n (omega arith) in
    let back : n + j - n ≡ j = omega arith in
    let place : spot size (p ∷ ps) (n + j) ≡ spot size ps j = rw past (ap (spot size ps) back) in
    get_or-drop n bytes j 0 ∙ each (n + j) (omega (arith, h, behind, whole)) ∙ ap (λ m. get_or file m 0) place) in
    sym (take-append-drop n bytes) ∙ (λ i. first i ++ rest i)
