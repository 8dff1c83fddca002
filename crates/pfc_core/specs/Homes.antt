-- The file that a core's shelf is of.
use Rattle.std.specs.Prelude.{ℕ}
use Rattle.pfc_core.specs.Slots.{ShelfView}
use Rattle.pfc_core.specs.Out.{Home}

abbrev pub home_of : ℕ → ShelfView → Home
home_of instance s = record { instance = instance; path = s.path; size = s.size; block_size = s.block_size }
