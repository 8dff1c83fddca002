-- The files as a list of paths with their entries.
use Rattle.std.specs.Prelude.{ℕ, ◌==◌, Bool, Option, List}
use Rattle.std.specs.Cmp.Lexicographic.{pointwise}
use Rattle.std.specs.Map.{lookup}
use Rattle.pfc_catalog.specs.declared.entry.Entry.{Entry}

abbrev pub same_path : List ℕ → List ℕ → Bool
same_path = pointwise ◌==◌

-- what is known of the file at this path
abbrev pub entry_at : List ℕ → List (List ℕ × Entry) → Option Entry
entry_at path files = lookup (same_path path) files
