-- The accesses to a core's file.
use Rattle.std.specs.Prelude.{ℕ, ◌+◌, ◌==◌, Bool, if◌then◌else◌, List, Option, Some, None, count_by}
use Rattle.pfc_base.specs.Cinfo.{Head}
use Rattle.pfc_log.specs.declared.entry.Served.{Served}
use Rattle.pfc_access.specs.Records.{capped, attached, detached}
use Rattle.pfc_core.specs.Marks.{Mark, StayKind, kind_code}

-- what the next cinfo says of accesses, and of the access that lasts its reads and their bytes
pub record AccessView : Type 0 where
  pub head : Head
  pub ios : ℕ
  pub served : Served

-- none was begun since the cinfo said this
abbrev pub as_found : Head → AccessView
as_found head = record { head = head; ios = 0; served = record { hit = 0; missed = 0; bypassed = 0 } }

abbrev pub begun : ℕ → AccessView → AccessView
begun now a = as_found (attached now a.head)

abbrev pub bytes_of : Served → Served → Served
bytes_of s t = record { hit = capped 64 (s.hit + t.hit); missed = capped 64 (s.missed + t.missed); bypassed = capped 64 (s.bypassed + t.bypassed) }

-- a read ended, with these bytes where it brought data
abbrev pub with_read : Option Served → AccessView → AccessView
with_read None a = a
with_read (Some served) a = record a { ios = capped 32 (a.ios + 1); served = bytes_of a.served served }

abbrev pub ended : ℕ → AccessView → AccessView
ended now a = record a { head = detached now a.served a.ios a.head }

abbrev pub is_stay : Mark → Bool
is_stay m = kind_code m.kind == kind_code StayKind

-- how many have the file open
abbrev pub stays_out : List Mark → ℕ
stays_out out = count_by is_stay out

-- the first who comes begins an access
abbrev pub come_in : ℕ → List Mark → AccessView → AccessView
come_in now out a = if 0 == stays_out out then begun now a else a

-- the last who goes, so that these stay out, ends it
abbrev pub go_out : ℕ → List Mark → AccessView → AccessView
go_out now out a = if 0 == stays_out out then ended now a else a
