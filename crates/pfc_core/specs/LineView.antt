-- What contracts see of a line to the origin.
use Rattle.std.specs.Prelude.{ℕ}

-- the client's number, and what calls it made and how many failed
pub record LineView : Type 0 where
  pub number : ℕ
  pub calls : ℕ
  pub faults : ℕ
