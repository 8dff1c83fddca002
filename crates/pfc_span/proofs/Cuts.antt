-- Cuts of a file at the ends of its blocks.
use Rattle.std.proofs.Common.{◌≡◌, ℕ, ◌+◌, ◌-◌, ◌*◌, ◌/◌, ◌%◌, ◌<◌, ◌≤◌, List, [], ◌∷◌, ◌++◌, length, take, drop, min, refl, sym, ap, subst, ◌∙◌, arith, inl, inr, get_or, length-append, length-drop}
use Rattle.std.specs.Prelude.{sum_by}
use Rattle.std.specs.List.{All, flat_map}
use Rattle.std.proofs.lemmas.Grind.{flat_map-append}
use Rattle.std.proofs.lemmas.Bool.{cases_eq}
use Rattle.std.proofs.lemmas.List.{take_min, append-nil, take-append-le, get_or_push, get_or_append_left}
use Rattle.std.proofs.lemmas.List.Sums.{sum_by_push}
use Rattle.std.proofs.lemmas.List.Elements.{All-nil, All-push}
use Rattle.std.proofs.lemmas.Nat.{le-div, div-add-mod'}
use Rattle.std.proofs.Math.Seq.{take-add, take-length}
use Rattle.pfc_base.specs.Block.{slice_of, block_of, count_of, IsPartOf}
use Rattle.pfc_base.specs.declared.block.Part.{Part}
use Rattle.pfc_base.specs.declared.block.Piece.{Piece}
use Rattle.pfc_base.proofs.Lists.{drop-take, take-take_min, drop-drop}
use Rattle.pfc_span.specs.Tiling.{part_len, AreInRow, bytes_of_part, Tiles}

-- a part from a place of the file on, up to the end of the block there or before
pub record IsCut (size k from len : ℕ) (part : Part) : Type 0 where
  pub some : 0 < len
  pub block : part.block ≡ from / k
  pub start : part.from ≡ from % k
  pub same : part.len ≡ len
  pub in_block : from % k + len ≤ k
  pub in_file : from + len ≤ size

pub part-of_cut : (size k from len : ℕ) (part : Part) → 0 < k → IsCut size k from len part → IsPartOf size k part
part-of_cut size k from len part some is =
    let place : from / k * k + from % k ≡ from = div-add-mod' from k in
    let times : (from / k + 1) * k ≡ from / k * k + k = omega arith in
    let count : from / k + 1 ≤ count_of size k = le-div (from / k + 1) (size + (k - 1)) k some (omega (arith, is.in_file, is.some)) in
    let block : part.block * k ≡ from / k * k = ap (λ b. b * k) is.block in
    record {
      some = omega (arith, is.some, is.same);
      block = omega (arith, is.block);
      within = omega (arith, is.start, is.same, is.in_block, is.in_file);
    }

pub bytes-of_cut : (file : List ℕ) (size k from len : ℕ) (part : Part) → IsCut size k from len part → bytes_of_part file k part ≡ slice_of file from len
bytes-of_cut file size k from len part is =
    let place : from / k * k + from % k ≡ from = div-add-mod' from k in
    let least : min len (k - from % k) ≡ len = omega (arith, is.in_block) in
    (λ i. slice_of (block_of file k (is.block i)) (is.start i) (is.same i))
    ∙ ap (take len) (drop-take (from % k) k (drop (from / k * k) file))
    ∙ take-take_min len (k - from % k) (drop (from % k) (drop (from / k * k) file))
    ∙ (λ i. take (least i) (drop-drop (from % k) (from / k * k) file i))
    ∙ ap (λ n. take len (drop n file)) place

pub place-of_cut : (size k from len : ℕ) (part : Part) → IsCut size k from len part → part.block * k + part.from ≡ from
place-of_cut size k from len part is = (λ i. is.block i * k + is.start i) ∙ div-add-mod' from k

row-more : (size k off done len : ℕ) (parts : List Part) (part : Part) → sum_by part_len parts ≡ done → AreInRow k off parts → IsCut size k (off + done) len part →
    AreInRow k off (parts ++ part ∷ [])
row-more size k off done len parts part whole row cut i d h =
    let P : Part → List Part → Type 0 = λ p ps. p.block * k + p.from ≡ off + sum_by part_len ps in
    elim (cases_eq i (length parts)) [
      | inl e ↦
          let last : get_or (parts ++ part ∷ []) i d ≡ part = get_or_push parts part d i (sym e) in
          let all : length parts ≤ length parts = omega arith in
          let front : take i (parts ++ part ∷ []) ≡ parts = ap (λ n. take n (parts ++ part ∷ [])) e ∙ rw take-append-le (take-length parts) in
          let here : P part parts = place-of_cut size k (off + done) len part cut ∙ ap (λ n. off + n) (sym whole) in
          subst (λ p. P p (take i (parts ++ part ∷ []))) (sym last) (subst (P part) (sym front) here)
      | inr ne ↦
          let lower : i < length parts = omega (arith, ne, h, length-append parts (part ∷ [])) in
          let at : get_or (parts ++ part ∷ []) i d ≡ get_or parts i d = get_or_append_left parts (part ∷ []) d i lower in
          let at_most : i ≤ length parts = omega (arith, lower) in
          let front : take i (parts ++ part ∷ []) ≡ take i parts = rw take-append-le refl in
          subst (λ p. P p (take i (parts ++ part ∷ []))) (sym at) (subst (P (get_or parts i d)) (sym front) (row i d lower))
    ]

-- the parts tile the first bytes of a piece
pub record TilesFirst (size k off done : ℕ) (parts : List Part) : Type 0 where
  pub inside : All (IsPartOf size k) parts
  pub row : AreInRow k off parts
  pub whole : sum_by part_len parts ≡ done
  pub bytes : (file : List ℕ) → length file ≡ size → flat_map (bytes_of_part file k) parts ≡ slice_of file off done

pub tiles-none : (size k off done : ℕ) → done ≡ 0 → TilesFirst size k off done []
tiles-none size k off done e = record {
  inside = All-nil (IsPartOf size k);
  row = λ i d h. absurd (omega arith);
  whole = sym e;
  bytes = λ file long. ap (λ n. take n (drop off file)) (sym e);
}

pub tiles-more : (size k off done len : ℕ) (parts : List Part) (part : Part) → 0 < k → TilesFirst size k off done parts → IsCut size k (off + done) len part →
    TilesFirst size k off (done + len) (parts ++ part ∷ [])
tiles-more size k off done len parts part some is cut = record {
  inside = All-push (IsPartOf size k) parts part is.inside (part-of_cut size k (off + done) len part some cut);
  row = row-more size k off done len parts part is.whole is.row cut;
  whole = sum_by_push part_len parts part ∙ (λ i. is.whole i + cut.same i);
  bytes = λ file long.
      flat_map-append (bytes_of_part file k) parts (part ∷ [])
      ∙ (λ i. is.bytes file long i ++ append-nil (bytes_of_part file k part) i)
      ∙ ap (λ b. slice_of file off done ++ b) (bytes-of_cut file size k (off + done) len part cut ∙ ap (take len) (sym (drop-drop done off file)))
      ∙ sym (take-add done len (drop off file));
}

pub tiles-all : (size k : ℕ) (piece : Piece) (done : ℕ) (parts : List Part) → done ≡ min piece.len (size - piece.off) → TilesFirst size k piece.off done parts → Tiles size k piece parts
tiles-all size k piece done parts e is = record {
  inside = is.inside;
  row = is.row;
  whole = is.whole ∙ e;
  bytes = λ file long.
      let rest : done ≡ min piece.len (length (drop piece.off file)) = e ∙ ap (λ n. min piece.len n) (ap (λ s. s - piece.off) (sym long) ∙ sym (length-drop piece.off file)) in
      is.bytes file long ∙ ap (λ n. take n (drop piece.off file)) rest ∙ take_min piece.len (drop piece.off file);
}
