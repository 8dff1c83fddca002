-- The descriptors of a client: what is open at each, or nothing.
use Rattle.std.specs.Prelude.{ℕ, Bool, ◌&&◌, nat_lt, List, Option, None, is_none, slice_index_or}

-- what is open at a number; nothing is at one that is no descriptor
abbrev pub place_at : {T : Type 0} → List (Option T) → ℕ → Option T
place_at places number = slice_index_or places number None

-- a descriptor with nothing open
abbrev pub is_free : {T : Type 0} → List (Option T) → ℕ → Bool
is_free places number = nat_lt number 16 && is_none (place_at places number)
