-- Slices and blocks of a list of bytes.
use Rattle.std.specs.Prelude.{ℕ, ◌<◌, ◌≤◌, List, take, drop, ◌*◌, ◌+◌, ◌-◌, ◌/◌, min}
use Rattle.pfc_base.specs.declared.block.Part.{Part}

-- the bytes from a place, at most so many, none past the end
abbrev pub slice_of : List ℕ → ℕ → ℕ → List ℕ
slice_of bytes off len = take len (drop off bytes)

-- block i of these bytes
abbrev pub block_of : List ℕ → ℕ → ℕ → List ℕ
block_of bytes k i = slice_of bytes (i * k) k

-- how many blocks of k bytes there are: the quotient rounded up
abbrev pub count_of : ℕ → ℕ → ℕ
count_of size k = (size + (k - 1)) / k

-- the length of block i: k, but for a shorter last block
abbrev pub block_len_of : ℕ → ℕ → ℕ → ℕ
block_len_of size k i = min k (size - i * k)

-- a piece inside one block of a file of this size
pub record IsPartOf (size k : ℕ) (part : Part) : Type 0 where
  pub some : 0 < part.len
  pub block : part.block < count_of size k
  pub within : part.from + part.len ≤ block_len_of size k part.block
