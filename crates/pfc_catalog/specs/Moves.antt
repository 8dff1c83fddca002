-- Which call changes a file how.
use Rattle.std.specs.Prelude.{Option}
use Rattle.pfc_catalog.specs.declared.entry.Entry.{Entry}
use Rattle.pfc_catalog.specs.declared.entry.Move.{Move}
use Rattle.pfc_catalog.specs.declared.entry.Move.TheVariants.{Opened, Abandon, Close, Away, Home, Grew, Gone, Kept}
use Rattle.pfc_catalog.specs.Entry.{opened, abandoned, closed, sent, homed, grown, gone, kept}

-- what a file is after the call, if it was in a state for it
abbrev pub moved : Move → Entry → Option Entry
moved (Opened usage) e = opened usage e
moved Abandon e = abandoned e
moved Close e = closed e
moved Away e = sent e
moved (Home found) e = homed found e
moved (Grew bytes) e = grown bytes e
moved Gone e = gone e
moved Kept e = kept e
