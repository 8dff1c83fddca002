-- Which files aren't cached, by their paths and sizes.
use Rattle.std.specs.Prelude.{ℕ, Bool, ◌==◌, ◌||◌, nat_lt, if◌then◌else◌, List, codes, Option, Some, None}
use Rattle.std.specs.List.{ends_with}
use Rattle.pfc_log.specs.declared.entry.Uncached.{Uncached}
use Rattle.pfc_log.specs.declared.entry.Uncached.TheVariants.{Suffix, Blocks}

-- the path of a cinfo file or of its temporary
abbrev pub is_companion : List ℕ → Bool
is_companion path = ends_with ◌==◌ path (codes ".cinfo") || ends_with ◌==◌ path (codes ".cinfo.tmp")

-- why a file of this path with so many blocks isn't cached, if it isn't
abbrev pub cause_of : List ℕ → ℕ → Option Uncached
cause_of path blocks = if is_companion path then Some Suffix else if nat_lt 16777216 blocks then Some Blocks else None
