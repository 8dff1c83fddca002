-- What one decision changes.
use Rattle.std.proofs.Common.{◌≡◌, ◌==◌, ◌+◌, ◌*◌, ◌≤◌, ℕ, false, List, [], ◌∷◌, ◌++◌, length, map, refl, sym, ap, ◌∙◌, arith, eq-eqb, add-zero}
use Rattle.std.specs.Prelude.{sum_by, All}
use Rattle.std.proofs.lemmas.List.Elements.{All-nil, All-cons}
use Rattle.pfc_base.specs.declared.block.Part.{Part}
use Rattle.pfc_log.specs.declared.entry.Entry.{Entry}
use Rattle.pfc_log.specs.declared.entry.Entry.TheVariants as e
use Rattle.pfc_log.specs.declared.entry.Spot.{Spot}
use Rattle.pfc_log.specs.declared.entry.Spot.TheVariants.{Ram, Disk}
use Rattle.pfc_log.specs.declared.entry.Way.{Way}
use Rattle.pfc_log.specs.declared.entry.Way.TheVariants as way
use Rattle.pfc_log.specs.Tallies.{tally}
use Rattle.pfc_log.proofs.Tallied.{tally_more, tally_same}
use Rattle.pfc_core.specs.declared.token.Decision.{Decision}
use Rattle.pfc_core.specs.declared.token.Decision.TheVariants as d
use Rattle.pfc_core.specs.Calls.{Decides, IsOf}
use Rattle.pfc_core.specs.Leave.{LeaveView}
use Rattle.pfc_core.specs.Marks.{Kind, TicketKind, PinKind, DiskKind, Mark}
use Rattle.pfc_core.specs.View.{CoreView, entered}
use Rattle.pfc_read.specs.declared.segment.Source.{Source}
use Rattle.pfc_read.specs.declared.segment.Source.TheVariants as source
use Rattle.pfc_read.specs.declared.segment.Segment.{Segment}
use Rattle.pfc_read.specs.declared.segment.Found.{Found}
use Rattle.pfc_read.specs.declared.segment.Owed.{Owed}
use Rattle.pfc_read.specs.declared.segment.Pending.{Pending}
use Rattle.pfc_read.specs.Segments.{IsPlaced, len_by, Waiting, weigh, pin_in, disk_in}
use Rattle.pfc_read.specs.Draft.{segment_at, tickets_of, pendings_of, disks_of, owed_of, hits_of, waits_of, directs_of, IsAsked, IsStored, IsSent, AreAll}
use Rattle.pfc_read.specs.Plans.{with_asked}

-- how what a decision gives for a part waits to be read
abbrev pub waiting_by : {W : Type 0} → Decision W → Part → ℕ → Waiting W
waiting_by x part at = record { pendings = pendings_of x part at; disks = disks_of x part at; owed = owed_of x part at }

abbrev pub source_of : {W : Type 0} → Decision W → Source
source_of (d.Direct leave) = source.Origin
source_of (d.Resident pin) = source.Cache
source_of (d.Joined pin) = source.Flight
source_of (d.Stored disk) = source.Cache
source_of (d.Fetch ticket pin) = source.Flight

-- one decision more, by what it gave
pub record IsDecided {W : Type 0} (old : CoreView) (n : ℕ) (part : Part) (at : ℕ) (x : Decision W) (new : CoreView) : Type 0 where
  pub few : length (tickets_of x) ≤ waits_of x
  pub number : length (pendings_of x part at) + length (disks_of x part at) + length (owed_of x part at) ≡ 1
  pub one : hits_of x + waits_of x + directs_of x ≡ 1
  pub leaves_is : length (owed_of x part at) ≡ directs_of x
  pub weighs : (f : Segment → ℕ) → weigh f (waiting_by x part at) ≡ f (segment_at part at (source_of x))
  pub gains : (w : Mark → ℕ) → sum_by w new.out ≡ sum_by w old.out + sum_by w (tickets_of x) + sum_by w (map pin_in (pendings_of x part at)) + sum_by w (map disk_in (disks_of x part at))
  pub rest : new ≡ record old { entries = new.entries; out = new.out }
  pub mine : tally n new.entries ≡ with_asked (tally n old.entries) (hits_of x) (waits_of x) (directs_of x)
  pub others : (m : ℕ) → (n == m) ≡ false → tally m new.entries ≡ tally m old.entries

rest-entered : (old new : CoreView) (x : Entry) → new ≡ entered old x new.out → new ≡ record old { entries = new.entries; out = new.out }
rest-entered old new x is = is ∙ (λ i. record old { entries = sym (ap (λ (v : CoreView). v.entries) is) i; out = new.out })

rest-same : (old new : CoreView) (x : Entry) → new ≡ entered old x old.out → new ≡ record old { entries = new.entries; out = new.out }
rest-same old new x is = is ∙ (λ i. record old { entries = sym (ap (λ (v : CoreView). v.entries) is) i; out = sym (ap (λ (v : CoreView). v.out) is) i })

mine-hit : (n b : ℕ) (spot : Spot) (es : List Entry) → tally n (es ++ e.Hit b spot n ∷ []) ≡ with_asked (tally n es) 1 0 0
mine-hit n b spot es = tally_more n es (e.Hit b spot n) ∙ rw (eq-eqb n n refl) (simp add-zero)

mine-join : (n t b : ℕ) (es : List Entry) → tally n (es ++ e.Join t b n ∷ []) ≡ with_asked (tally n es) 0 1 0
mine-join n t b es = tally_more n es (e.Join t b n) ∙ rw (eq-eqb n n refl) (simp add-zero)

mine-begin : (n t b : ℕ) (es : List Entry) → tally n (es ++ e.Begin t b n ∷ []) ≡ with_asked (tally n es) 0 1 0
mine-begin n t b es = tally_more n es (e.Begin t b n) ∙ rw (eq-eqb n n refl) (simp add-zero)

mine-direct : (n b : ℕ) (why : Way) (es : List Entry) → tally n (es ++ e.Direct b n why ∷ []) ≡ with_asked (tally n es) 0 0 1
mine-direct n b why es = tally_more n es (e.Direct b n why) ∙ rw (eq-eqb n n refl) (simp add-zero)

entries-of : (old new : CoreView) (x : Entry) (out : List Mark) → new ≡ entered old x out → new.entries ≡ old.entries ++ x ∷ []
entries-of old new x out is = ap (λ (v : CoreView). v.entries) is

pub decided : {W : Type 0} (old : CoreView) (n : ℕ) (part : Part) (at : ℕ) (x : Decision W) (new : CoreView) → Decides old n part x new → IsDecided old n part at x new
decided old n part at (d.Direct leave) new h =
    let x : Entry = e.Direct part.block n (way.Uncached h.why) in
    record {
      few = omega arith;
      number = refl;
      one = refl;
      leaves_is = refl;
      weighs = λ f. omega arith;
      gains = λ w. let g : sum_by w new.out ≡ sum_by w old.out = ap (λ (v : CoreView). sum_by w v.out) h.enters in omega (arith, g);
      rest = rest-same old new x h.enters;
      mine = ap (tally n) (entries-of old new x old.out h.enters) ∙ mine-direct n part.block (way.Uncached h.why) old.entries;
      others = λ m ne. ap (tally m) (entries-of old new x old.out h.enters) ∙ tally_same m old.entries x ne;
    }
decided old n part at (d.Resident pin) new h =
    let x : Entry = e.Hit part.block Ram n in
    record {
      few = omega arith;
      number = refl;
      one = refl;
      leaves_is = refl;
      weighs = λ f. omega arith;
      gains = λ w. let g = h.2.gains w in omega (arith, g);
      rest = rest-entered old new x h.2.enters;
      mine = ap (tally n) (entries-of old new x new.out h.2.enters) ∙ mine-hit n part.block Ram old.entries;
      others = λ m ne. ap (tally m) (entries-of old new x new.out h.2.enters) ∙ tally_same m old.entries x ne;
    }
decided old n part at (d.Joined pin) new h =
    let x : Entry = e.Join pin.flight part.block n in
    record {
      few = omega arith;
      number = refl;
      one = refl;
      leaves_is = refl;
      weighs = λ f. omega arith;
      gains = λ w. let g = h.2.gains w in omega (arith, g);
      rest = rest-entered old new x h.2.enters;
      mine = ap (tally n) (entries-of old new x new.out h.2.enters) ∙ mine-join n pin.flight part.block old.entries;
      others = λ m ne. ap (tally m) (entries-of old new x new.out h.2.enters) ∙ tally_same m old.entries x ne;
    }
decided old n part at (d.Stored disk) new h =
    let x : Entry = e.Hit part.block Disk n in
    record {
      few = omega arith;
      number = refl;
      one = refl;
      leaves_is = refl;
      weighs = λ f. omega arith;
      gains = λ w. let g = h.gains w in omega (arith, g);
      rest = rest-entered old new x h.enters;
      mine = ap (tally n) (entries-of old new x new.out h.enters) ∙ mine-hit n part.block Disk old.entries;
      others = λ m ne. ap (tally m) (entries-of old new x new.out h.enters) ∙ tally_same m old.entries x ne;
    }
decided old n part at (d.Fetch ticket pin) new h =
    let x : Entry = e.Begin ticket.number part.block n in
    record {
      few = omega arith;
      number = refl;
      one = refl;
      leaves_is = refl;
      weighs = λ f. omega arith;
      gains = λ w. let g = h.gains w in omega (arith, g);
      rest = rest-entered old new x h.enters;
      mine = ap (tally n) (entries-of old new x new.out h.enters) ∙ mine-begin n ticket.number part.block old.entries;
      others = λ m ne. ap (tally m) (entries-of old new x new.out h.enters) ∙ tally_same m old.entries x ne;
    }

of-again : (old mid : CoreView) (kind : Kind) (n : ℕ) (m : Mark) → mid ≡ record old { entries = mid.entries; out = mid.out } → IsOf mid kind n m → IsOf old kind n m
of-again old mid kind n m was is = record {
  kind_is = is.kind_is;
  instance_is = is.instance_is ∙ ap (λ (v : CoreView). v.instance) was;
  path_is = is.path_is ∙ ap (λ (v : CoreView). v.path) was;
  size_is = is.size_is ∙ ap (λ (v : CoreView). v.size) was;
  block_size_is = is.block_size_is ∙ ap (λ (v : CoreView). v.block_size) was;
  client_is = is.client_is;
}

pub tickets-again : {W : Type 0} (old mid : CoreView) (n : ℕ) (part : Part) (x : Decision W) (new : CoreView) → mid ≡ record old { entries = mid.entries; out = mid.out } → Decides mid n part x new → All (IsOf old TicketKind n) (tickets_of x)
tickets-again old mid n part (d.Direct leave) new home h = All-nil (IsOf old TicketKind n)
tickets-again old mid n part (d.Resident pin) new home h = All-nil (IsOf old TicketKind n)
tickets-again old mid n part (d.Joined pin) new home h = All-nil (IsOf old TicketKind n)
tickets-again old mid n part (d.Stored disk) new home h = All-nil (IsOf old TicketKind n)
tickets-again old mid n part (d.Fetch ticket pin) new home h = All-cons (IsOf old TicketKind n) ticket [] (of-again old mid TicketKind n ticket home h.fetches) (All-nil (IsOf old TicketKind n))

abbrev IsPlacedAt : CoreView → (ℕ → ℕ) → ℕ → Part → ℕ → Type 0
IsPlacedAt v spot_at total part at = (from : Source) → IsPlaced v.size v.block_size spot_at total (segment_at part at from)

pin-again : {W : Type 0} (old mid : CoreView) (n : ℕ) (spot_at : ℕ → ℕ) (total : ℕ) (part : Part) (at : ℕ) (pin : Mark) (from : Source) → mid ≡ record old { entries = mid.entries; out = mid.out } → IsPlacedAt old spot_at total part at → IsOf mid PinKind n pin → pin.block ≡ part.block →
    AreAll {W = W} old n spot_at total (record { pendings = record { pin = pin; segment = segment_at part at from } ∷ []; disks = []; owed = [] })
pin-again {W = W} old mid n spot_at total part at pin from home placed is block =
    let p : Pending W = record { pin = pin; segment = segment_at part at from } in
    record {
      pendings = All-cons (IsAsked old n spot_at total) p [] (record { pin_of = of-again old mid PinKind n pin home is; block_is = block; placed = placed from }) (All-nil (IsAsked old n spot_at total));
      disks = All-nil (IsStored old n spot_at total);
      owed = All-nil (IsSent old n spot_at total);
    }

pub all-again : {W : Type 0} (old mid : CoreView) (n : ℕ) (spot_at : ℕ → ℕ) (total : ℕ) (part : Part) (at : ℕ) (x : Decision W) (new : CoreView) → mid ≡ record old { entries = mid.entries; out = mid.out } → IsPlacedAt old spot_at total part at → Decides mid n part x new →
    AreAll old n spot_at total (waiting_by x part at)
all-again {W = W} old mid n spot_at total part at (d.Direct leave) new home placed h =
    let o : Owed W = record { leave = leave; segment = segment_at part at source.Origin } in
    let P : CoreView → LeaveView = λ v. record { client = n; path = v.path; size = v.size; block_size = v.block_size; part = part } in
    record {
      pendings = All-nil (IsAsked old n spot_at total);
      disks = All-nil (IsStored old n spot_at total);
      owed = All-cons (IsSent old n spot_at total) o [] (record { leave_is = h.leave_is ∙ ap P home; source_is = refl; placed = placed source.Origin }) (All-nil (IsSent old n spot_at total));
    }
all-again old mid n spot_at total part at (d.Resident pin) new home placed h = pin-again old mid n spot_at total part at pin source.Cache home placed h.2.pins h.2.block_is
all-again old mid n spot_at total part at (d.Joined pin) new home placed h = pin-again old mid n spot_at total part at pin source.Flight home placed h.2.pins h.2.block_is
all-again {W = W} old mid n spot_at total part at (d.Stored disk) new home placed h =
    let x : Found W = record { disk = disk; segment = segment_at part at source.Cache } in
    record {
      pendings = All-nil (IsAsked old n spot_at total);
      disks = All-cons (IsStored old n spot_at total) x [] (record { disk_of = of-again old mid DiskKind n disk home h.found; block_is = h.block_is; placed = placed source.Cache }) (All-nil (IsStored old n spot_at total));
      owed = All-nil (IsSent old n spot_at total);
    }
all-again old mid n spot_at total part at (d.Fetch ticket pin) new home placed h = pin-again old mid n spot_at total part at pin source.Flight home placed h.pins h.pin_block

-- the same decision of no world
pub plain : {W : Type 0} → Decision W → Decision (Unit {0})
plain (d.Direct leave) = d.Direct leave
plain (d.Resident pin) = d.Resident pin
plain (d.Joined pin) = d.Joined pin
plain (d.Stored disk) = d.Stored disk
plain (d.Fetch ticket pin) = d.Fetch ticket pin

pub decides-plain : {W : Type 0} (old : CoreView) (n : ℕ) (part : Part) (x : Decision W) (new : CoreView) → Decides old n part x new → Decides old n part (plain x) new
unfolding plain
decides-plain old n part (d.Direct leave) new h = h
decides-plain old n part (d.Resident pin) new h = h
decides-plain old n part (d.Joined pin) new h = h
decides-plain old n part (d.Stored disk) new h = h
decides-plain old n part (d.Fetch ticket pin) new h = h

pub cache_len : {W : Type 0} (k len : ℕ) (x : Decision W) → len ≤ k → len_by source.Cache (source_of x) len ≤ k * hits_of x
cache_len k len (d.Direct leave) h = omega arith
cache_len k len (d.Resident pin) h = omega (arith, h)
cache_len k len (d.Joined pin) h = omega arith
cache_len k len (d.Stored disk) h = omega (arith, h)
cache_len k len (d.Fetch ticket pin) h = omega arith

pub flight_len : {W : Type 0} (k len : ℕ) (x : Decision W) → len ≤ k → len_by source.Flight (source_of x) len ≤ k * waits_of x
flight_len k len (d.Direct leave) h = omega arith
flight_len k len (d.Resident pin) h = omega arith
flight_len k len (d.Joined pin) h = omega (arith, h)
flight_len k len (d.Stored disk) h = omega arith
flight_len k len (d.Fetch ticket pin) h = omega (arith, h)

pub origin_len : {W : Type 0} (k len : ℕ) (x : Decision W) → len ≤ k → len_by source.Origin (source_of x) len ≤ k * directs_of x
origin_len k len (d.Direct leave) h = omega (arith, h)
origin_len k len (d.Resident pin) h = omega arith
origin_len k len (d.Joined pin) h = omega arith
origin_len k len (d.Stored disk) h = omega arith
origin_len k len (d.Fetch ticket pin) h = omega arith
