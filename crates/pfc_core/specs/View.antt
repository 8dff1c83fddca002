-- What contracts see of a core.
use Rattle.std.specs.Prelude.{ℕ, Bool, Option, Some, None, List, [], ◌∷◌, ◌++◌}
use Rattle.pfc_log.specs.declared.entry.Entry.{Entry}
use Rattle.pfc_log.specs.declared.start.Start.{Start}
use Rattle.pfc_log.specs.declared.start.Start.TheVariants.{Stored}
use Rattle.pfc_log.specs.declared.start.Start.TheVariants as start
use Rattle.pfc_log.specs.declared.entry.Uncached.{Uncached}
use Rattle.pfc_core.specs.Marks.{Mark}
use Rattle.pfc_core.specs.Out.{Home}
use Rattle.pfc_core.specs.Access.{AccessView}

-- its number, its file with the block size, its log, the marks of all tokens that are out, the blocks that can be read from
-- disk, those of them that no crash can take, those that the cinfo claims, and the accesses
pub record CoreView : Type 0 where
  pub instance : ℕ
  pub path : List ℕ
  pub size : ℕ
  pub block_size : ℕ
  pub first : Start
  pub entries : List Entry
  pub out : List Mark
  pub stored : List Bool
  pub durable : List Bool
  pub claimed : List Bool
  pub access : AccessView

abbrev pub home_in : CoreView → Home
home_in v = record { instance = v.instance; path = v.path; size = v.size; block_size = v.block_size }

-- why the file isn't cached, if it isn't
abbrev pub why_of : Start → Option Uncached
why_of (Stored set) = None
why_of (start.Uncached why) = Some why

-- with one more entry, and these tokens out
abbrev pub entered : CoreView → Entry → List Mark → CoreView
entered v e out = record v { entries = v.entries ++ e ∷ []; out = out }
