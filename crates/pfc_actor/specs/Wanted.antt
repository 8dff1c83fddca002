-- What contracts see of a file that a client wants to open.
use Rattle.std.specs.Prelude.{ℕ, List}

-- the descriptor, the path, and the size that the origin told
pub record WantedView : Type 0 where
  pub number : ℕ
  pub path : List ℕ
  pub size : ℕ
