-- Texts in memory.
use Rattle.std.specs.Prelude.{ℕ, List, map, String, Vec, string_bytes}
use Rattle.pfc_world.specs.Texts.{Texts}

-- what names and bytes say
abbrev pub texts_of : {A B : Type 0} → List (String A × Vec ℕ B) → Texts
texts_of files = map (λ file. (string_bytes file.0, file.1.items)) files
