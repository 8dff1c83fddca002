-- The texts of entries and logs. Words and numbers stand apart by one blank, and each entry is a line.
use Rattle.std.specs.Prelude.{ℕ, List, [], ◌∷◌, ◌++◌, codes}
use Rattle.std.specs.Fmt.{decimal}
use Rattle.pfc_log.specs.declared.entry.Entry.{Entry}
use Rattle.pfc_log.specs.declared.entry.Entry.TheVariants.{Opened, Closed, Begin, Join, Hit, Direct, Landed, Failed, Dropped, Wrote, Left, Synced, Claimed, Frozen, WrittenOff, Served}
use Rattle.pfc_log.specs.declared.entry.Spot.{Spot}
use Rattle.pfc_log.specs.declared.entry.Spot.TheVariants.{Ram, Disk}
use Rattle.pfc_log.specs.declared.entry.Fell.{Fell}
use Rattle.pfc_log.specs.declared.entry.Fell.TheVariants as fell
use Rattle.pfc_log.specs.declared.entry.DropCause.{DropCause}
use Rattle.pfc_log.specs.declared.entry.DropCause.TheVariants as cause
use Rattle.pfc_log.specs.declared.entry.Way.{Way}
use Rattle.pfc_log.specs.declared.entry.Way.TheVariants as way
use Rattle.pfc_log.specs.declared.entry.Uncached.{Uncached}
use Rattle.pfc_log.specs.declared.entry.Uncached.TheVariants.{Suffix, Blocks, Volume, Shell, Strayed}
use Rattle.pfc_log.specs.declared.start.Start.{Start}
use Rattle.pfc_log.specs.declared.start.Start.TheVariants as start
use Rattle.pfc_log.specs.Runs.{runs_of, runs_text}

-- a blank before each number
abbrev pub numbers_text : List ℕ → List ℕ
numbers_text [] = []
numbers_text (n ∷ ns) = 32 ∷ decimal n ++ numbers_text ns

abbrev pub uncached_text : Uncached → List ℕ
uncached_text Suffix = codes " uncached suffix"
uncached_text Blocks = codes " uncached blocks"
uncached_text Volume = codes " uncached volume"
uncached_text Shell = codes " uncached shell"
uncached_text (Strayed who) = codes " uncached strayed"

abbrev pub spot_text : Spot → List ℕ
spot_text Ram = codes " memory"
spot_text Disk = codes " disk"

abbrev pub fell_text : Fell → List ℕ
fell_text fell.Fault = codes " fault"
fell_text fell.Memory = codes " memory"

abbrev pub cause_text : DropCause → List ℕ
cause_text (cause.Full capacity) = codes " full" ++ numbers_text (capacity ∷ [])
cause_text cause.Frozen = codes " frozen"
cause_text cause.There = codes " there"

abbrev pub way_text : Way → List ℕ
way_text (way.Full found want limit) = codes " full" ++ numbers_text (found ∷ want ∷ limit ∷ [])
way_text (way.Lost ticket) = codes " lost" ++ numbers_text (ticket ∷ [])
way_text way.Device = codes " device"
way_text (way.Uncached why) = uncached_text why

-- the text of one entry
abbrev pub entry_text_of : Entry → List ℕ
entry_text_of (Opened client) = codes "opened" ++ numbers_text (client ∷ [])
entry_text_of (Closed client) = codes "closed" ++ numbers_text (client ∷ [])
entry_text_of (Begin ticket block client) = codes "begin" ++ numbers_text (ticket ∷ block ∷ client ∷ [])
entry_text_of (Join ticket block client) = codes "join" ++ numbers_text (ticket ∷ block ∷ client ∷ [])
entry_text_of (Hit block spot client) = codes "hit" ++ numbers_text (block ∷ []) ++ spot_text spot ++ numbers_text (client ∷ [])
entry_text_of (Direct block client why) = codes "direct" ++ numbers_text (block ∷ client ∷ []) ++ way_text why
entry_text_of (Landed ticket) = codes "landed" ++ numbers_text (ticket ∷ [])
entry_text_of (Failed ticket why) = codes "failed" ++ numbers_text (ticket ∷ []) ++ fell_text why
entry_text_of (Dropped block why) = codes "dropped" ++ numbers_text (block ∷ []) ++ cause_text why
entry_text_of (Wrote block) = codes "wrote" ++ numbers_text (block ∷ [])
entry_text_of (Left block) = codes "left" ++ numbers_text (block ∷ [])
entry_text_of Synced = codes "synced"
entry_text_of (Claimed at count) = codes "claimed" ++ numbers_text (at ∷ count ∷ [])
entry_text_of Frozen = codes "frozen"
entry_text_of WrittenOff = codes "written_off"
entry_text_of (Served client served) = codes "served" ++ numbers_text (client ∷ served.hit ∷ served.missed ∷ served.bypassed ∷ [])

-- each entry is a line
abbrev pub lines_text : List Entry → List ℕ
lines_text [] = []
lines_text (e ∷ es) = entry_text_of e ++ 10 ∷ lines_text es

-- how a log starts: with the runs of the blocks that its cinfo claimed, or uncached for a cause
abbrev pub start_text : Start → List ℕ
start_text (start.Stored set) = codes " stored " ++ runs_text (runs_of set)
start_text (start.Uncached why) = uncached_text why

-- the section of one log: a line for its file and its start, and a line for each entry
abbrev pub log_text : List ℕ → Start → List Entry → List ℕ
log_text path first es = codes "log " ++ path ++ start_text first ++ 10 ∷ lines_text es
