-- What contracts see of a log.
use Rattle.std.specs.Prelude.{ℕ, List}
use Rattle.pfc_log.specs.declared.entry.Entry.{Entry}
use Rattle.pfc_log.specs.declared.start.Start.{Start}

-- how it starts, its entries in order, and how many more it surely has room for
pub record LogView : Type 0 where
  pub first : Start
  pub entries : List Entry
  pub room : ℕ
