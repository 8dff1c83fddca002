-- How the catalog is kept: beside the files the whole usage, a table of who holds which shell, and notes of the candidates.
use Rattle.std.specs.Prelude.{◌≡◌, ℕ, ◌<◌, ◌^◌, List, Option, Some, sum_by, length, slice_get}
use Rattle.pfc_catalog.specs.declared.entry.Entry.{Entry}
use Rattle.pfc_catalog.specs.declared.catalog.Catalog.TheInside.{Inside}
use Rattle.pfc_catalog.specs.Entry.{shell_of}
use Rattle.pfc_catalog.specs.Catalog.{usage_in}
use Rattle.pfc_catalog.specs.Order.{IsNoted}
use Rattle.pfc_catalog.specs.View.{CatalogView}

abbrev pub catalog_of : Inside → CatalogView
catalog_of c = record { entries = c.files; next = c.next }

-- a file in the table is the one that holds that shell
abbrev pub HeldBy : List (List ℕ × Entry) → ℕ → ℕ → Type 0
HeldBy files s i = (f : List ℕ × Entry) × (slice_get files i ≡ Some f) × (shell_of f.1.state ≡ Some s)

-- the table has the place of each file that holds a shell, and no other
pub record IsTable (files : List (List ℕ × Entry)) (shells : List (Option ℕ)) : Type 0 where
  pub long : length shells ≡ 256
  pub held : (s i : ℕ) → slice_get shells s ≡ Some (Some i) → HeldBy files s i
  pub holds : (i s : ℕ) (f : List ℕ × Entry) → slice_get files i ≡ Some f → shell_of f.1.state ≡ Some s → slice_get shells s ≡ Some (Some i)

-- the sum of the usages, each of which fits
pub record IsTotal (files : List (List ℕ × Entry)) (total : ℕ) : Type 0 where
  pub sum : total ≡ sum_by usage_in files
  pub fits : (i : ℕ) (f : List ℕ × Entry) → slice_get files i ≡ Some f → f.1.usage < 2 ^ 64

pub record IsKept (c : Inside) : Type 0 where
  pub table : IsTable c.files c.shells
  pub total : IsTotal c.files c.total
  pub order : IsNoted c.files c.order
  pub next : c.next < 2 ^ 64
