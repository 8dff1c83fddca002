-- The catalog as its callers see it.
use Rattle.std.specs.Prelude.{ℕ, List}
use Rattle.pfc_catalog.specs.declared.entry.Entry.{Entry}

-- its files by path, in the order in which they came, and the next instance number
pub record CatalogView : Type 0 where
  pub entries : List (List ℕ × Entry)
  pub next : ℕ
