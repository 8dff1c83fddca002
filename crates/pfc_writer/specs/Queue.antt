-- What contracts see of a write queue.
use Rattle.std.specs.Prelude.{ℕ, List}
use Rattle.pfc_core.specs.Marks.{Mark}

-- the jobs, first in first out, and how many there may be
pub record QueueView : Type 0 where
  pub jobs : List Mark
  pub capacity : ℕ
