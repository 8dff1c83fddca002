-- The bytes of several pieces, one behind the other, and their text.
use Rattle.std.specs.Prelude.{ℕ, List, [], ◌∷◌, ◌++◌, length, take, drop, map, codes}
use Rattle.std.specs.List.{flat_map}
use Rattle.std.specs.Fmt.{decimal}
use Rattle.hex.specs.Hex.{encode_lower}
use Rattle.pfc_base.specs.declared.block.Piece.{Piece}
use Rattle.pfc_span.specs.Pieces.{piece_len}

-- these bytes in parts of these lengths, one behind the other
abbrev pub cut : List ℕ → List ℕ → List (List ℕ)
cut [] bytes = []
cut (n ∷ ns) bytes = take n bytes ∷ cut ns (drop n bytes)

-- the bytes of each piece of a file of this size
abbrev pub in_pieces : ℕ → List Piece → List ℕ → List (List ℕ)
in_pieces size list bytes = cut (map (piece_len size) list) bytes

-- a piece's word: how many bytes there are, and two digits for each
abbrev pub piece_text : List ℕ → List ℕ
piece_text [] = codes " 0:-"
piece_text (b ∷ bs) = codes " " ++ decimal (length (b ∷ bs)) ++ codes ":" ++ encode_lower (b ∷ bs)

-- how many pieces there are, and a word for each
abbrev pub vector_text : List (List ℕ) → List ℕ
vector_text parts = codes "vector " ++ decimal (length parts) ++ flat_map piece_text parts
