-- Which calls fail: those whose number, from 0, a list names.
use Rattle.std.specs.Prelude.{◌≡◌, ℕ, ◌==◌, List, Bool, Result, is_err, map, filter, if◌then◌else◌}
use Rattle.std.specs.List.{list_any}
use Rattle.pfc_world.specs.Counts.{add_count}
use Rattle.pfc_memory.specs.declared.calls.Calls.{Calls}

-- the list names this call
abbrev pub is_named : List ℕ → ℕ → Bool
is_named fails call = list_any (λ n. n == call) fails

-- the calls that are named for the link of this number
abbrev pub calls_of : List (ℕ × ℕ) → ℕ → List ℕ
calls_of fails number = map (λ fail. fail.1) (filter (λ fail. fail.0 == number) fails)

-- one more call was made; it failed, and counts as a fault, exactly where the list names it
pub record CountsCall {T E : Type 0} (old new : Calls) (result : Result T E) : Type 0 where
  pub fails : new.fails ≡ old.fails
  pub made : new.made ≡ add_count old.made 1
  pub faults : new.faults ≡ (if is_named old.fails.items old.made then add_count old.faults 1 else old.faults)
  pub named : is_err result ≡ is_named old.fails.items old.made
