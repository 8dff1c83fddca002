-- Lists of tokens that are out, weighed.
use Rattle.std.specs.Prelude.{◌≡◌, ℕ, ◌+◌, Bool, ◌==◌, ◌&&◌, List, sum_by}
use Rattle.pfc_core.specs.declared.held.Held.{Held}

-- the tokens of one kind, and for how many more there is room
pub record TokensView : Type 0 where
  pub list : List Held
  pub room : ℕ

-- whether it is this one, whole
abbrev pub is_held : Held → Held → Bool
is_held p q = q.number == p.number && q.client == p.client && q.block == p.block && q.flight == p.flight && q.owner == p.owner

-- new is old with one p more, in any order
pub record Puts (old : List Held) (p : Held) (new : List Held) : Type 0 where
  pub each : (w : Held → ℕ) → sum_by w new ≡ sum_by w old + w p

-- new is old without one p, in any order
pub record Takes (p : Held) (old new : List Held) : Type 0 where
  pub each : (w : Held → ℕ) → sum_by w new + w p ≡ sum_by w old
