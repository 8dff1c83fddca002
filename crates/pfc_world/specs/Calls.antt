-- How many calls a fetch made.
use Rattle.std.specs.Prelude.{◌≡◌, ℕ, Result, Ok, Err}
use Rattle.pfc_world.specs.Counts.{add_count}
use Rattle.pfc_world.specs.declared.refusal.Refusal.{Refusal}
use Rattle.pfc_world.specs.declared.refusal.Refusal.TheVariants.{Fault, Memory}

-- one call, but none for want of memory
abbrev pub FetchCalls : {T : Type 0} → ℕ → ℕ → Result T Refusal → Type 0
FetchCalls before after (Ok x) = after ≡ add_count before 1
FetchCalls before after (Err Fault) = after ≡ add_count before 1
FetchCalls before after (Err Memory) = after ≡ before
