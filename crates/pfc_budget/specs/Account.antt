-- What a contract sees of a seat.
use Rattle.std.specs.Prelude.{◌≡◌, ℕ, ◌+◌, ◌-◌, ◌*◌, ◌≤◌}
use Rattle.atomic_table.specs.Seated.{TableId}

-- which budget it is of, and how many seats may still be split from it
pub record Account : Type 0 where
  pub budget : TableId
  pub limit : ℕ
  pub held : ℕ
  pub room : ℕ

-- what one of its steps may find in the budget's word: all that it holds itself, no more than the limit and one claim
-- for each other seat, and exactly what it holds where there is no other seat
pub record MayFind (seat : Account) (found : ℕ) : Type 0 where
  pub own : seat.held ≤ found
  pub most : found ≤ seat.limit + 16777216 * (65536 - seat.room)
  pub alone : seat.room ≡ 65536 → found ≡ seat.held
