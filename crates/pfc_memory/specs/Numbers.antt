-- The numbers of device calls, and what becomes of each call.
use Rattle.std.specs.Prelude.{ℕ, Bool, false, ◌||◌, List, Option, Some, None, nat_le, nat_lt, if◌then◌else◌}
use Rattle.std.specs.Arc.{arc_value}
use Rattle.pfc_memory.specs.Calls.{is_named}
use Rattle.pfc_memory.specs.declared.numbers.Numbers.{Numbers}
use Rattle.pfc_memory.specs.declared.numbers.Turn.{Turn}
use Rattle.pfc_memory.specs.declared.numbers.Turn.TheVariants.{Passes, Fails, Burnt}

-- the numbers of the calls that fail
abbrev pub fails_of : Numbers → List ℕ
fails_of numbers = (arc_value numbers.plan).fails.items

-- the number from which on all calls fail
abbrev pub fuse_of : Numbers → Option ℕ
fuse_of numbers = (arc_value numbers.plan).fuse

-- the number is the fuse's or past it
abbrev pub reaches : Option ℕ → ℕ → Bool
reaches None number = false
reaches (Some fuse) number = nat_le fuse number

-- the number is past the fuse
abbrev pub passes_by : Option ℕ → ℕ → Bool
passes_by None number = false
passes_by (Some fuse) number = nat_lt fuse number

-- what becomes of a call with this number on a device that has met the fuse or not
abbrev pub turn_of : Bool → Numbers → ℕ → Turn
turn_of burnt numbers number = if burnt || passes_by (fuse_of numbers) number then Burnt else if reaches (fuse_of numbers) number || is_named (fails_of numbers) number then Fails else Passes
