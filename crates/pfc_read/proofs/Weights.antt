-- Parts that are still to be read, in another place.
use Rattle.std.proofs.Common.{◌≡◌, ◌+◌, ◌≤◌, ℕ, List, length, sym, ◌∙◌, arith, Option, Bool}
use Rattle.pfc_log.specs.declared.entry.Fell.{Fell}
use Rattle.pfc_log.specs.declared.entry.Served.{Served}
use Rattle.pfc_world.specs.Files.{Files}
use Rattle.pfc_span.specs.declared.pieces.Pieces.{Pieces}
use Rattle.pfc_core.specs.Marks.{Mark}
use Rattle.pfc_read.specs.declared.segment.Source.TheVariants as source
use Rattle.pfc_read.specs.declared.segment.Segment.{Segment}
use Rattle.pfc_read.specs.declared.segment.Hand.{Hand}
use Rattle.pfc_read.specs.declared.segment.Counts.{Counts}
use Rattle.pfc_read.specs.Segments.{len_in, covers, len_from, Waiting}
use Rattle.pfc_read.specs.Kept.{weight_in, is_run, is_open, AreCounted, IsSound}

-- the same parts, in whichever place each is
pub record SameParts {W : Type 0} (before after : Waiting W) (h hand : Hand) : Type 0 where
  pub each : (f : Segment → ℕ) → weight_in f after hand ≡ weight_in f before h

pub counted-same : {W : Type 0} (k total : ℕ) (tickets rest : List Mark) (before after : Waiting W) (h hand : Hand) (counts : Counts) (served : Served) (met : Option Fell) → SameParts before after h hand →
    counts.failed + length rest + is_run hand ≤ counts.waits → counts.directs + length after.pendings + length after.disks + is_open hand ≤ total → AreCounted k total tickets before h counts served met →
    AreCounted k total rest after hand counts served met
counted-same k total tickets rest before after h hand counts served met same flights directs was =
    let len = same.each len_in in
    let cache = same.each (len_from source.Cache) in
    let flight = same.each (len_from source.Flight) in
    let origin = same.each (len_from source.Origin) in
    record {
      within = let w = was.within in omega (arith, w, len);
      whole = λ none. let w = was.whole none in omega (arith, w, len);
      hit = let w = was.hit in omega (arith, w, cache);
      missed = let w = was.missed in omega (arith, w, flight);
      bypassed = let w = was.bypassed in omega (arith, w, origin);
      parts = was.parts;
      flights = flights;
      directs = directs;
    }

pub sound-same : {W : Type 0} (told : Bool) (files : Files) (reading : Mark) (pieces : Pieces) (bytes : List ℕ) (before after : Waiting W) (h hand : Hand) (met : Option Fell) → SameParts before after h hand → IsSound told files reading pieces bytes before h met →
    IsSound told files reading pieces bytes after hand met
sound-same told files reading pieces bytes before after h hand met same was = record {
  short = was.short;
  least = was.least;
  most = was.most;
  sized = was.sized;
  long = was.long;
  agrees = λ t none file at j low zero. was.agrees t none file at j low (sym (same.each (covers j)) ∙ zero);
}
