-- What contracts see of a block.
use Rattle.std.specs.Prelude.{ℕ, List}
use Rattle.pfc_world.specs.declared.origin.World.{Ghosts}
use Rattle.pfc_world.specs.declared.known.Block.{Block}
use Rattle.pfc_core.specs.Marks.{Mark}

-- which block of which file
pub record BlockView : Type 0 where
  pub path : List ℕ
  pub size : ℕ
  pub block_size : ℕ
  pub block : ℕ

abbrev pub block_view : {W : Type 0} {g : Ghosts W} → Block W g → BlockView
block_view b = record { path = b.known.path; size = b.known.size; block_size = b.block_size; block = b.number }

-- the block that a token is about
abbrev pub block_at : Mark → BlockView
block_at m = record { path = m.path; size = m.size; block_size = m.block_size; block = m.block }
