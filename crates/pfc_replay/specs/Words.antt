-- The words of the call.
use Rattle.std.specs.Prelude.{ℕ, ◌^◌, Bool, nat_le, ◌&&◌, List, [], ◌∷◌, Option, Some, None, option_map, if◌then◌else◌}
use Rattle.pfc_base.specs.Number.{size_of_text}

-- what the words name: the sources of the configuration and of the schedule, and the capacity in bytes
pub record Call : Type 0 where
  pub config : List ℕ
  pub capacity : ℕ
  pub schedule : List ℕ

-- a capacity is from 1000 to 2 ^ 62 bytes
abbrev pub is_capacity : ℕ → Bool
is_capacity n = nat_le 1000 n && nat_le n (2 ^ 62)

abbrev pub as_capacity : Option ℕ → Option ℕ
as_capacity None = None
as_capacity (Some n) = if is_capacity n then Some n else None

-- the capacity that a word spells: a size in that range
unfoldable pub capacity_of : List ℕ → Option ℕ
capacity_of word = as_capacity (size_of_text word)

-- what the words `<config> <origin> <cache> <capacity> <schedule>` name
abbrev pub call_of : List (List ℕ) → Option Call
call_of (config ∷ origin ∷ cache ∷ capacity ∷ schedule ∷ []) = option_map (λ n. record { config = config; capacity = n; schedule = schedule }) (capacity_of capacity)
call_of (config ∷ origin ∷ cache ∷ capacity ∷ schedule ∷ other ∷ more) = None
call_of (config ∷ origin ∷ cache ∷ capacity ∷ []) = None
call_of (config ∷ origin ∷ cache ∷ []) = None
call_of (config ∷ origin ∷ []) = None
call_of (config ∷ []) = None
call_of [] = None
