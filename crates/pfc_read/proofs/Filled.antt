-- What becomes of the part that is given out.
use Rattle.std.proofs.Common.{◌≡◌, ◌+◌, ◌*◌, ◌≤◌, ℕ, Bool, List, length, refl, ap, ◌∙◌, arith, Option, Some, None}
use Rattle.pfc_log.specs.declared.entry.Fell.{Fell}
use Rattle.pfc_log.specs.declared.entry.Fell.TheVariants.{Fault, Memory}
use Rattle.pfc_log.specs.declared.entry.Served.{Served}
use Rattle.pfc_world.specs.Files.{Files, Holds}
use Rattle.pfc_span.specs.declared.pieces.Pieces.{Pieces}
use Rattle.pfc_span.specs.Pieces.{pieces_in, spot}
use Rattle.pfc_core.specs.Marks.{Mark}
use Rattle.pfc_read.specs.declared.segment.Source.{Source}
use Rattle.pfc_read.specs.declared.segment.Source.TheVariants as source
use Rattle.pfc_read.specs.declared.segment.Segment.{Segment}
use Rattle.pfc_read.specs.declared.segment.Hand.{Hand}
use Rattle.pfc_read.specs.declared.segment.Hand.TheVariants as hand
use Rattle.pfc_read.specs.declared.segment.Counts.{Counts}
use Rattle.pfc_read.specs.OpView.{first_met}
use Rattle.pfc_read.specs.Segments.{IsPlaced, len_in, len_by, len_from, covers, Waiting, weigh, in_hand, with_part, owed_segment}
use Rattle.pfc_read.specs.Kept.{weight_in, is_run, is_open, served_sum, AreCounted, IsSound}
use Rattle.pfc_read.proofs.Written.{IsWritten, agrees-written, agrees-filled, slice-held}

-- the part that is given out is this one
pub record IsGiven (h : Hand) (s : Segment) : Type 0 where
  pub each : (f : Segment → ℕ) → in_hand f h ≡ f s
  pub run : is_run h ≡ 0

sum-with : (served : Served) (src : Source) (n : ℕ) → served_sum (with_part served src n) ≡ served_sum served + n
sum-with served source.Cache n = omega arith
sum-with served source.Flight n = omega arith
sum-with served source.Origin n = omega arith

hit-with : (served : Served) (src : Source) (n : ℕ) → (with_part served src n).hit ≡ served.hit + len_by source.Cache src n
hit-with served source.Cache n = refl
hit-with served source.Flight n = omega arith
hit-with served source.Origin n = omega arith

missed-with : (served : Served) (src : Source) (n : ℕ) → (with_part served src n).missed ≡ served.missed + len_by source.Flight src n
missed-with served source.Cache n = omega arith
missed-with served source.Flight n = refl
missed-with served source.Origin n = omega arith

bypassed-with : (served : Served) (src : Source) (n : ℕ) → (with_part served src n).bypassed ≡ served.bypassed + len_by source.Origin src n
bypassed-with served source.Cache n = omega arith
bypassed-with served source.Flight n = omega arith
bypassed-with served source.Origin n = refl

pub counted-filled : {W : Type 0} (k total : ℕ) (tickets : List Mark) (w : Waiting W) (h : Hand) (counts : Counts) (served now : Served) (met : Option Fell) (s : Segment) → IsGiven h s → now ≡ with_part served s.source s.part.len →
    AreCounted k total tickets w h counts served met → AreCounted k total tickets w hand.Nothing counts now met
counted-filled {W = W} k total tickets w h counts served now met s is e was =
    let n : ℕ = s.part.len in
    let sum : served_sum now ≡ served_sum served + n = ap served_sum e ∙ sum-with served s.source n in
    let hit : now.hit ≡ served.hit + len_from source.Cache s = ap (λ (v : Served). v.hit) e ∙ hit-with served s.source n in
    let missed : now.missed ≡ served.missed + len_from source.Flight s = ap (λ (v : Served). v.missed) e ∙ missed-with served s.source n in
    let bypassed : now.bypassed ≡ served.bypassed + len_from source.Origin s = ap (λ (v : Served). v.bypassed) e ∙ bypassed-with served s.source n in
    let len = is.each len_in in
    let cache = is.each (len_from source.Cache) in
    let flight = is.each (len_from source.Flight) in
    let origin = is.each (len_from source.Origin) in
    record {
      within = let w = was.within in omega (arith, w, len, sum);
      whole = λ none. let w = was.whole none in omega (arith, w, len, sum);
      hit = let w = was.hit in omega (arith, w, cache, hit);
      missed = let w = was.missed in omega (arith, w, flight, missed);
      bypassed = let w = was.bypassed in omega (arith, w, origin, bypassed);
      parts = was.parts;
      flights = let w = was.flights in omega (arith, w);
      directs = let w = was.directs in omega (arith, w);
    }

pub counted-lacking : {W : Type 0} (k total : ℕ) (tickets : List Mark) (w : Waiting W) (h : Hand) (counts : Counts) (served : Served) (met now : Option Fell) → (now ≡ None → ⊥) → AreCounted k total tickets w h counts served met →
    AreCounted k total tickets w hand.Nothing counts served now
counted-lacking k total tickets w h counts served met now hurt was = record {
  within = let w = was.within in omega (arith, w);
  whole = λ none. absurd (hurt none);
  hit = let w = was.hit in omega (arith, w);
  missed = let w = was.missed in omega (arith, w);
  bypassed = let w = was.bypassed in omega (arith, w);
  parts = was.parts;
  flights = let w = was.flights in omega (arith, w);
  directs = let w = was.directs in omega (arith, w);
}

part-most : (size k : ℕ) (spot_at : ℕ → ℕ) (total : ℕ) (s : Segment) → IsPlaced size k spot_at total s → s.part.len ≤ k
part-most size k spot_at total s is = let w = is.part_of.within in omega (arith, w)

-- the part that is given out waits for a direct read, in whichever list
pub record IsPutOff {W : Type 0} (before after : Waiting W) (s : Segment) : Type 0 where
  pub each : (f : Segment → ℕ) → weigh f after ≡ weigh f before + f (owed_segment s)
  pub pendings : length after.pendings ≡ length before.pendings
  pub disks : length after.disks ≡ length before.disks

pub counted-owed : {W : Type 0} (size k : ℕ) (spot_at : ℕ → ℕ) (total : ℕ) (tickets : List Mark) (before after : Waiting W) (h : Hand) (counts : Counts) (served : Served) (met : Option Fell) (s : Segment) → IsPlaced size k spot_at total s → IsGiven h s → is_open h ≡ 1 →
    IsPutOff before after s → AreCounted k total tickets before h counts served met → AreCounted k total tickets after hand.Nothing (record counts { directs = counts.directs + 1 }) served met
counted-owed {W = W} size k spot_at total tickets before after h counts served met s placed is opened put was =
    let n : ℕ = s.part.len in
    let most = part-most size k spot_at total s placed in
    let len = is.each len_in in
    let cache = is.each (len_from source.Cache) in
    let flight = is.each (len_from source.Flight) in
    let origin = is.each (len_from source.Origin) in
    let len' : weigh len_in after ≡ weigh len_in before + n = put.each len_in in
    let cache' : weigh (len_from source.Cache) after ≡ weigh (len_from source.Cache) before + 0 = put.each (len_from source.Cache) in
    let flight' : weigh (len_from source.Flight) after ≡ weigh (len_from source.Flight) before + 0 = put.each (len_from source.Flight) in
    let origin' : weigh (len_from source.Origin) after ≡ weigh (len_from source.Origin) before + n = put.each (len_from source.Origin) in
    let more : k * (counts.directs + 1) ≡ k * counts.directs + k = omega arith in
    let run = is.run in
    let pendings = put.pendings in
    let disks = put.disks in
    record {
      within = let w = was.within in omega (arith, w, len, len');
      whole = λ none. let w = was.whole none in omega (arith, w, len, len');
      hit = let w = was.hit in omega (arith, w, cache');
      missed = let w = was.missed in omega (arith, w, flight');
      bypassed = let w = was.bypassed in omega (arith, w, origin', more, most);
      parts = was.parts;
      flights = let w = was.flights in omega (arith, w, run);
      directs = let w = was.directs in omega (arith, w, opened, pendings, disks);
    }

pub sound-written : {W : Type 0} (told : Bool) (files : Files) (reading : Mark) (pieces : Pieces) (bytes new into : List ℕ) (before after : Waiting W) (h hand : Hand) (met : Option Fell) (s : Segment) → IsWritten bytes s.at into new → length into ≡ s.part.len →
    ((j : ℕ) → covers j s ≤ weight_in (covers j) after hand) → ((j : ℕ) → weight_in (covers j) after hand ≡ weight_in (covers j) before h) → IsSound told files reading pieces bytes before h met → IsSound told files reading pieces new after hand met
sound-written {W = W} told files reading pieces bytes new into before after h hand met s w long own same was = record {
  short = was.short;
  least = was.least;
  most = was.most;
  sized = was.sized;
  long = w.long ∙ was.long;
  agrees = λ t none file at. agrees-written file (spot reading.size (pieces_in pieces)) bytes new into s (λ j. weight_in (covers j) before h) (λ j. weight_in (covers j) after hand) w long own same (was.agrees t none file at);
}

pub sound-filled : {W : Type 0} (told : Bool) (files : Files) (reading : Mark) (pieces : Pieces) (total : ℕ) (bytes new into : List ℕ) (w : Waiting W) (h : Hand) (met : Option Fell) (s : Segment) → IsGiven h s →
    IsPlaced reading.size reading.block_size (spot reading.size (pieces_in pieces)) total s → IsWritten bytes s.at into new → length into ≡ s.part.len → Holds told files reading.path (s.part.block * reading.block_size + s.part.from) into →
    IsSound told files reading pieces bytes w h met → IsSound told files reading pieces new w hand.Nothing met
sound-filled {W = W} told files reading pieces total bytes new into w h met s is placed wrote long holds was = record {
  short = was.short;
  least = was.least;
  most = was.most;
  sized = was.sized;
  long = wrote.long ∙ was.long;
  agrees = λ t none file at.
      let from : ℕ = s.part.block * reading.block_size + s.part.from in
      agrees-filled file (spot reading.size (pieces_in pieces)) bytes new into s from (λ j. weight_in (covers j) w h) (λ j. weight_in (covers j) w hand.Nothing) wrote long
      (slice-held told files reading.path from into file holds t at) placed.place (λ j. let e = is.each (covers j) in omega (arith, e)) (was.agrees t none file at);
}

pub sound-lacking : {W : Type 0} (told : Bool) (files : Files) (reading : Mark) (pieces : Pieces) (bytes new into : List ℕ) (at : ℕ) (w : Waiting W) (h : Hand) (met now : Option Fell) →
    IsWritten bytes at into new → (now ≡ None → ⊥) → IsSound told files reading pieces bytes w h met → IsSound told files reading pieces new w hand.Nothing now
sound-lacking told files reading pieces bytes new into at w h met now wrote hurt was = record {
  short = was.short;
  least = was.least;
  most = was.most;
  sized = was.sized;
  long = wrote.long ∙ was.long;
  agrees = λ t none. absurd (hurt none);
}

pub met-some : (met : Option Fell) (why : Fell) → first_met met why ≡ None → ⊥
met-some None why e = cc
met-some (Some first) why e = cc

pub met-memory : (met : Option Fell) → first_met met Memory ≡ Some Fault → met ≡ Some Fault
met-memory None e = let m : Some Memory ≡ Some Fault = e in cc
met-memory (Some first) e = e
