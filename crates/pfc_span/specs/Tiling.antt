-- Parts that tile the pieces of a request.
use Rattle.std.specs.Prelude.{◌≡◌, ◌==◌, ℕ, ◌+◌, ◌*◌, ◌<◌, ◌≤◌, List, length, take, map, filter, Some, slice_get, slice_index_or, sum_by, All, AllPairs}
use Rattle.std.specs.List.{flat_map}
use Rattle.pfc_base.specs.Block.{slice_of, block_of, IsPartOf}
use Rattle.pfc_base.specs.declared.block.Part.{Part}
use Rattle.pfc_base.specs.declared.block.Piece.{Piece}
use Rattle.pfc_span.specs.Pieces.{piece_len, total_of, spot}

-- the bytes of a part: a slice of its block
abbrev pub bytes_of_part : List ℕ → ℕ → Part → List ℕ
bytes_of_part file k part = slice_of (block_of file k part.block) part.from part.len

abbrev pub part_len : Part → ℕ
part_len part = part.len

-- each part starts where those before it end, from a place of the file on
abbrev pub AreInRow : ℕ → ℕ → List Part → Type 0
AreInRow k off parts = (i : ℕ) (d : Part) → i < length parts → (slice_index_or parts i d).block * k + (slice_index_or parts i d).from ≡ off + sum_by part_len (take i parts)

-- each part lies inside a block of a file of this size, they stand in a row from the piece's offset on and have its
-- length, and whatever the file holds, the parts' bytes in order are the piece's
pub record Tiles (size k : ℕ) (piece : Piece) (parts : List Part) : Type 0 where
  pub inside : All (IsPartOf size k) parts
  pub row : AreInRow k piece.off parts
  pub whole : sum_by part_len parts ≡ piece_len size piece
  pub bytes : (file : List ℕ) → length file ≡ size → flat_map (bytes_of_part file k) parts ≡ slice_of file piece.off piece.len

-- each byte of the parts, one behind the other, stands in the file at the spot of its place in the reply
abbrev pub AreAtSpots : ℕ → ℕ → List Piece → List Part → Type 0
AreAtSpots size k pieces parts = (i : ℕ) (d : Part) (x : ℕ) → i < length parts → x < (slice_index_or parts i d).len →
    (slice_index_or parts i d).block * k + (slice_index_or parts i d).from + x ≡ spot size pieces (sum_by part_len (take i parts) + x)

-- read one behind the other, the parts give the reply to these pieces, each from inside a block
pub record TileInTurn (size k : ℕ) (pieces : List Piece) (parts : List Part) : Type 0 where
  pub inside : All (IsPartOf size k) parts
  pub spots : AreAtSpots size k pieces parts
  pub whole : sum_by part_len parts ≡ total_of size pieces

-- the parts beside the place of one piece
abbrev pub parts_of : ℕ → List (ℕ × Part) → List Part
parts_of place placed = map (λ x. x.1) (filter (λ x. x.0 == place) placed)

-- parts stand in the order of their pieces, and those of each piece tile it
pub record TileEach (size k : ℕ) (pieces : List Piece) (placed : List (ℕ × Part)) : Type 0 where
  pub places : All (λ x. x.0 < length pieces) placed
  pub in_order : AllPairs (λ x later. x.0 ≤ later.0) placed
  pub tile : (i : ℕ) (piece : Piece) → slice_get pieces i ≡ Some piece → Tiles size k piece (parts_of i placed)
