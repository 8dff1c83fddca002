-- What contracts see of a read.
use Rattle.std.specs.Prelude.{ℕ, ◌+◌, List, Option, Some, None, sum_by}
use Rattle.pfc_base.specs.declared.block.Part.{Part}
use Rattle.pfc_log.specs.declared.entry.Fell.{Fell}
use Rattle.pfc_span.specs.declared.pieces.Pieces.{Pieces}
use Rattle.pfc_core.specs.Marks.{Mark}

-- the action that was given last, where it isn't supplied yet
pub data Given : Type 0 where
  Nothing : Given
  ToRun : Given
  ToFill : (part : Part) → Given
  ToLook : (part : Part) → Given
  ToRead : (part : Part) → Given
  ToEnd : Given

-- What is read, and the reading, which names the client and the file. The tickets that weren't given yet, and the pins but
-- for one that is given out. How many pins weren't looked at with success yet, the tokens for blocks on disk that weren't
-- given yet, and how many direct reads are to be given. How many parts were in memory or on disk when they were asked for,
-- how many wait for a flight, and for how many a leave came. How many flights of its own failed, and what came first of all
-- that keeps it from data.
pub record OpView : Type 0 where
  pub pieces : Pieces
  pub reading : Mark
  pub tickets : List Mark
  pub pins : List Mark
  pub looks : ℕ
  pub disks : List Mark
  pub leaves : ℕ
  pub hits : ℕ
  pub waits : ℕ
  pub directs : ℕ
  pub failed : ℕ
  pub met : Option Fell
  pub given : Given

-- what the read holds of its core, weighed
abbrev pub held : (Mark → ℕ) → OpView → ℕ
held w op = w op.reading + sum_by w op.tickets + sum_by w op.pins + sum_by w op.disks

-- the first that came
abbrev pub first_met : Option Fell → Fell → Option Fell
first_met None why = Some why
first_met (Some first) why = Some first
