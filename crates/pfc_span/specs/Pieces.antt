-- The pieces that one request asks, and where the bytes of the reply stand in the file.
use Rattle.std.specs.Prelude.{ℕ, ◌+◌, ◌-◌, min, nat_lt, if◌then◌else◌, List, [], ◌∷◌, sum_by}
use Rattle.std.specs.List.{flat_map}
use Rattle.pfc_base.specs.Block.{slice_of}
use Rattle.pfc_base.specs.declared.block.Piece.{Piece}
use Rattle.pfc_span.specs.declared.pieces.Pieces.{Pieces}
use Rattle.pfc_span.specs.declared.pieces.Pieces.TheVariants as pieces

-- the pieces, in the order of the reply
abbrev pub pieces_in : Pieces → List Piece
pieces_in (pieces.One piece) = piece ∷ []
pieces_in (pieces.Vector list) = list

-- how many bytes are asked, wherever the file ends
abbrev pub asked_of : List Piece → ℕ
asked_of list = sum_by (λ piece. piece.len) list

-- how many bytes a piece has, cut at the end of the file
abbrev pub piece_len : ℕ → Piece → ℕ
piece_len size piece = min piece.len (size - piece.off)

-- how many bytes the reply has
abbrev pub total_of : ℕ → List Piece → ℕ
total_of size list = sum_by (piece_len size) list

-- where in the file the byte at this place of the reply stands
abbrev pub spot : ℕ → List Piece → ℕ → ℕ
spot size [] j = j
spot size (piece ∷ list) j = if nat_lt j (piece_len size piece) then piece.off + j else spot size list (j - piece_len size piece)

-- the bytes of the pieces, one behind the other
abbrev pub bytes_of : List ℕ → List Piece → List ℕ
bytes_of file list = flat_map (λ piece. slice_of file piece.off piece.len) list
