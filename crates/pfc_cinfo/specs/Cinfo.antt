use Rattle.std.specs.Prelude.{◌≡◌, ℕ, suc, ◌≤◌, ◌+◌, Bool, List, [], ◌∷◌, if◌then◌else◌}
use Rattle.pfc_base.specs.Block.{count_of, block_len_of}
use Rattle.pfc_base.specs.Cinfo.{Cinfo, IsBlockSize}

-- a file of this size has so many blocks of k bytes, and both are within bounds
pub record IsTiled (k size count : ℕ) : Type 0 where
  pub block : IsBlockSize k
  pub whole : count ≡ count_of size k
  pub most : count ≤ 16777216

-- how many bytes these blocks have of a file of this size, where the list begins at block i
abbrev pub bytes_from : ℕ → ℕ → ℕ → List Bool → ℕ
bytes_from k size i [] = 0
bytes_from k size i (held ∷ set) = (if held then block_len_of size k i else 0) + bytes_from k size (suc i) set

-- how many bytes the claimed blocks have
abbrev pub claimed_bytes : Cinfo → ℕ
claimed_bytes c = bytes_from c.block c.size 0 c.claims
