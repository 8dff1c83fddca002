-- The right to one read straight from the origin.
use Rattle.std.specs.Prelude.{ℕ, ◌<◌, ◌≤◌, List}
use Rattle.pfc_base.specs.declared.block.Part.{Part}
use Rattle.pfc_base.specs.Block.{IsPartOf}
use Rattle.pfc_core.specs.Marks.{Mark}

-- whose it is, the file with its block size, and the part of it
pub record LeaveView : Type 0 where
  pub client : ℕ
  pub path : List ℕ
  pub size : ℕ
  pub block_size : ℕ
  pub part : Part

-- for the client and the file of a pin
abbrev pub leave_of : Mark → Part → LeaveView
leave_of pin part = record { client = pin.client; path = pin.path; size = pin.size; block_size = pin.block_size; part = part }

-- the part lies in the file, whose blocks are small enough
pub record IsInFile (size k : ℕ) (part : Part) : Type 0 where
  pub some : 0 < k
  pub most : k ≤ 16777216
  pub part_of : IsPartOf size k part
