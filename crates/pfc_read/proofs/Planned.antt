-- What a plan begins with.
use Rattle.std.proofs.Common.{◌≡◌, ◌+◌, ◌*◌, ◌<◌, ◌≤◌, ◌⊎◌, ℕ, Bool, List, [], ◌∷◌, ◌++◌, length, take, drop, map, length-append, length-drop, sym, ap, ◌∙◌, arith, subst, Option, Some, None, inl, inr}
use Rattle.std.specs.Prelude.{sum_by, All}
use Rattle.std.proofs.lemmas.List.{nil_from_length, length-map}
use Rattle.std.proofs.lemmas.List.Elements.{All-nil, All-head, All-tail, All-weaker}
use Rattle.std.proofs.lemmas.List.Sums.{sum_by-append, sum_by-take-le, sum_by-cons}
use Rattle.std.proofs.Math.Seq.{take-length}
use Rattle.pfc_base.specs.Block.{IsPartOf}
use Rattle.pfc_base.specs.declared.block.Part.{Part}
use Rattle.pfc_log.specs.declared.entry.Fell.{Fell}
use Rattle.pfc_log.specs.declared.entry.Fell.TheVariants.{Fault, Memory}
use Rattle.pfc_world.specs.Files.{Files, HasSize}
use Rattle.pfc_span.specs.declared.pieces.Pieces.{Pieces}
use Rattle.pfc_span.specs.Pieces.{pieces_in, asked_of, total_of, spot}
use Rattle.pfc_span.specs.Tiling.{part_len, TileInTurn}
use Rattle.pfc_core.specs.Calls.{Begins, IsOf}
use Rattle.pfc_core.specs.Leave.{LeaveView}
use Rattle.pfc_core.specs.Marks.{Kind, TicketKind, PinKind, DiskKind, Mark}
use Rattle.pfc_core.specs.View.{CoreView}
use Rattle.pfc_read.specs.declared.segment.Segment.{Segment}
use Rattle.pfc_read.specs.declared.segment.Hand.TheVariants as hand
use Rattle.pfc_read.specs.declared.segment.Found.{Found}
use Rattle.pfc_read.specs.declared.segment.Owed.{Owed}
use Rattle.pfc_read.specs.declared.segment.Pending.{Pending}
use Rattle.pfc_read.specs.declared.draft.Draft.{Draft}
use Rattle.pfc_read.specs.Segments.{IsPlaced, Waiting, pin_in, disk_in}
use Rattle.pfc_read.specs.Draft.{IsAsked, IsStored, IsSent, waiting_in, StandAt, AreAsked}
use Rattle.pfc_read.specs.Steps.{IsTokenOf}
use Rattle.pfc_read.specs.Kept.{AreOwn, AreCounted, IsSound, IsStaged, IsFit, IsFound, IsOwed}

-- no part is empty
number-le-lens : (size k : ℕ) (parts : List Part) → All (IsPartOf size k) parts → length parts ≤ sum_by part_len parts
number-le-lens size k [] all = omega arith
number-le-lens size k (p ∷ ps) all =
    let h = All-head (IsPartOf size k) p ps all in
    let r = number-le-lens size k ps (All-tail (IsPartOf size k) p ps all) in
    let s = sum_by-cons part_len p ps in
    let o = h.some in
    omega (arith, r, s, o)

-- what a begun reading says of the core
record IsHome (r : Mark) (n : ℕ) (v : CoreView) : Type 0 where
  pub instance_is : r.instance ≡ v.instance
  pub path_is : r.path ≡ v.path
  pub size_is : r.size ≡ v.size
  pub block_size_is : r.block_size ≡ v.block_size
  pub client_is : r.client ≡ n

home-of : (old mid : CoreView) (n : ℕ) (r : Mark) → Begins old n r mid → IsHome r n mid
home-of old mid n r is = record {
  instance_is = is.reads.instance_is ∙ sym (ap (λ (v : CoreView). v.instance) is.rest);
  path_is = is.reads.path_is ∙ sym (ap (λ (v : CoreView). v.path) is.rest);
  size_is = is.reads.size_is ∙ sym (ap (λ (v : CoreView). v.size) is.rest);
  block_size_is = is.reads.block_size_is ∙ sym (ap (λ (v : CoreView). v.block_size) is.rest);
  client_is = is.reads.client_is;
}

token-of : (v : CoreView) (n : ℕ) (r : Mark) (kind : Kind) (m : Mark) → IsHome r n v → IsOf v kind n m → IsTokenOf r kind m
token-of v n r kind m home is = record {
  kind_is = is.kind_is;
  instance_is = is.instance_is ∙ sym home.instance_is;
  path_is = is.path_is ∙ sym home.path_is;
  size_is = is.size_is ∙ sym home.size_is;
  block_size_is = is.block_size_is ∙ sym home.block_size_is;
  client_is = is.client_is ∙ sym home.client_is;
}

placed-of : (v : CoreView) (n : ℕ) (spot_at : ℕ → ℕ) (total : ℕ) (r : Mark) (s : Segment) → IsHome r n v → IsPlaced v.size v.block_size spot_at total s → IsPlaced r.size r.block_size spot_at total s
placed-of v n spot_at total r s home is = record {
  part_of = subst (λ z. IsPartOf z r.block_size s.part) (sym home.size_is) (subst (λ k. IsPartOf v.size k s.part) (sym home.block_size_is) is.part_of);
  place = λ x h. ap (λ k. s.part.block * k + s.part.from + x) home.block_size_is ∙ is.place x h;
  within = is.within;
}

fit-of : {W : Type 0} (v : CoreView) (n : ℕ) (spot_at : ℕ → ℕ) (total : ℕ) (r : Mark) (p : Pending W) → IsHome r n v → IsAsked v n spot_at total p → IsFit r spot_at total p
fit-of v n spot_at total r p home is = record { pin_for = record { token = token-of v n r PinKind p.pin home is.pin_of; block_is = is.block_is }; placed = placed-of v n spot_at total r p.segment home is.placed }

found-of : {W : Type 0} (v : CoreView) (n : ℕ) (spot_at : ℕ → ℕ) (total : ℕ) (r : Mark) (x : Found W) → IsHome r n v → IsStored v n spot_at total x → IsFound r spot_at total x
found-of v n spot_at total r x home is = record { disk_for = record { token = token-of v n r DiskKind x.disk home is.disk_of; block_is = is.block_is }; placed = placed-of v n spot_at total r x.segment home is.placed }

owed-of : {W : Type 0} (v : CoreView) (n : ℕ) (spot_at : ℕ → ℕ) (total : ℕ) (r : Mark) (o : Owed W) → IsHome r n v → IsSent v n spot_at total o → IsOwed r spot_at total o
owed-of v n spot_at total r o home is = record {
  leave_of = record {
    client_is = ap (λ (l : LeaveView). l.client) is.leave_is ∙ sym home.client_is;
    path_is = ap (λ (l : LeaveView). l.path) is.leave_is ∙ sym home.path_is;
    size_is = ap (λ (l : LeaveView). l.size) is.leave_is ∙ sym home.size_is;
    block_size_is = ap (λ (l : LeaveView). l.block_size) is.leave_is ∙ sym home.block_size_is;
  };
  part_is = ap (λ (l : LeaveView). l.part) is.leave_is;
  placed = placed-of v n spot_at total r o.segment home is.placed;
  source_is = is.source_is;
}

-- a plan, before its read is made
pub record IsPlanned {W : Type 0} (told : Bool) (files : Files) (old mid : CoreView) (n : ℕ) (pieces : Pieces) (r : Mark) (parts : List Part) (len number : ℕ) (draft : Draft W) (met : Option Fell) (new : CoreView) : Type 0 where
  pub short : asked_of (pieces_in pieces) ≤ 16777216
  pub least : 4096 ≤ old.block_size
  pub most : old.block_size ≤ 16777216
  pub sized : HasSize told files old.path old.size
  pub begins : Begins old n r mid
  pub tiles : TileInTurn old.size old.block_size (pieces_in pieces) parts
  pub long : len ≡ total_of old.size (pieces_in pieces)
  pub within : number ≤ length parts
  pub asked : AreAsked mid n parts number draft new
  pub all : met ≡ None → number ≡ length parts
  pub met_is : (met ≡ None) ⊎ (met ≡ Some Memory)

pub planned-own : {W : Type 0} (told : Bool) (files : Files) (old mid : CoreView) (n : ℕ) (pieces : Pieces) (r : Mark) (parts : List Part) (len number : ℕ) (draft : Draft W) (met : Option Fell) (new : CoreView) →
    IsPlanned told files old mid n pieces r parts len number draft met new → AreOwn r (spot r.size (pieces_in pieces)) len draft.tickets.items [] (waiting_in draft) hand.Nothing
planned-own {W = W} told files old mid n pieces r parts len number draft met new is =
    let home = home-of old mid n r is.begins in
    let spot_at : ℕ → ℕ = spot r.size (pieces_in pieces) in
    let all : ℕ = sum_by part_len parts in
    let total : all ≡ len = is.tiles.whole ∙ sym is.long in
    let here : StandAt mid.block_size (spot mid.size (pieces_in pieces)) parts = subst (λ (v : CoreView). StandAt v.block_size (spot v.size (pieces_in pieces)) parts) (sym is.begins.rest) is.tiles.spots in
    let stand : StandAt mid.block_size spot_at parts = subst (λ z. StandAt mid.block_size (spot z (pieces_in pieces)) parts) (sym home.size_is) here in
    let are = is.asked.waiting_are spot_at stand in
    record {
      tickets_are = All-weaker (IsOf mid TicketKind n) (IsTokenOf r TicketKind) (λ m h. token-of mid n r TicketKind m home h) draft.tickets.items is.asked.tickets_are;
      pins_are = All-nil (IsTokenOf r PinKind);
      pendings_are = All-weaker (IsAsked mid n spot_at all) (IsFit r spot_at len) (λ p h. subst (λ t. IsFit r spot_at t p) total (fit-of mid n spot_at all r p home h)) draft.pendings.items are.pendings;
      disks_are = All-weaker (IsStored mid n spot_at all) (IsFound r spot_at len) (λ p h. subst (λ t. IsFound r spot_at t p) total (found-of mid n spot_at all r p home h)) draft.disks.items are.disks;
      owed_are = All-weaker (IsSent mid n spot_at all) (IsOwed r spot_at len) (λ p h. subst (λ t. IsOwed r spot_at t p) total (owed-of mid n spot_at all r p home h)) draft.owed.items are.owed;
      hand_is = tt;
    }

pub planned-counted : {W : Type 0} (told : Bool) (files : Files) (old mid : CoreView) (n : ℕ) (pieces : Pieces) (r : Mark) (parts : List Part) (len number : ℕ) (draft : Draft W) (met : Option Fell) (new : CoreView) →
    IsPlanned told files old mid n pieces r parts len number draft met new → AreCounted r.block_size len draft.tickets.items (waiting_in draft) hand.Nothing draft.counts (record { hit = 0; missed = 0; bypassed = 0 }) met
planned-counted {W = W} told files old mid n pieces r parts len number draft met new is =
    let home = home-of old mid n r is.begins in
    let total : sum_by part_len parts ≡ len = is.tiles.whole ∙ sym is.long in
    let front = sum_by-take-le part_len parts number in
    let k_is : r.block_size ≡ mid.block_size = home.block_size_is in
    let few = number-le-lens old.size old.block_size parts is.tiles.inside in
    let lens = is.asked.lens in
    record {
      within = omega (arith, lens, front, total);
      whole = λ none. let all : sum_by part_len (take number parts) ≡ sum_by part_len parts = ap (sum_by part_len) (ap (λ m. take m parts) (is.all none) ∙ take-length parts) in omega (arith, lens, all, total);
      hit = let m = is.asked.cache_lens in let k = ap (λ x. x * draft.counts.hits) k_is in omega (arith, m, k);
      missed = let m = is.asked.flight_lens in let k = ap (λ x. x * draft.counts.waits) k_is in omega (arith, m, k);
      bypassed = let m = is.asked.origin_lens in let k = ap (λ x. x * draft.counts.directs) k_is in omega (arith, m, k);
      parts = let c = is.asked.counts in let w = is.within in omega (arith, c, w, few, total);
      flights = let f = is.asked.few in let z = is.asked.failed_is in omega (arith, f, z);
      directs = let m = is.asked.number_is in let o = is.asked.leaves_is in let w = is.within in omega (arith, m, o, w, few, total);
    }

pub planned-sound : {W : Type 0} (told : Bool) (files : Files) (old mid : CoreView) (n : ℕ) (pieces : Pieces) (r : Mark) (parts : List Part) (bytes : List ℕ) (number : ℕ) (draft : Draft W) (met : Option Fell) (new : CoreView) →
    IsPlanned told files old mid n pieces r parts (length bytes) number draft met new → IsSound told files r pieces bytes (waiting_in draft) hand.Nothing met
planned-sound {W = W} told files old mid n pieces r parts bytes number draft met new is =
    let reads = is.begins.reads in
    let k_is : r.block_size ≡ old.block_size = reads.block_size_is in
    let total : sum_by part_len parts ≡ length bytes = is.tiles.whole ∙ sym is.long in
    record {
      short = is.short;
      least = let l = is.least in omega (arith, l, k_is);
      most = let m = is.most in omega (arith, m, k_is);
      sized = subst (λ p. HasSize told files p r.size) (sym reads.path_is) (subst (λ s. HasSize told files old.path s) (sym reads.size_is) is.sized);
      long = is.long ∙ ap (λ s. total_of s (pieces_in pieces)) (sym reads.size_is);
      agrees = λ t none file at j low zero.
          let all : take number parts ≡ parts = ap (λ m. take m parts) (is.all none) ∙ take-length parts in
          let here : j < sum_by part_len (take number parts) = let s = ap (sum_by part_len) all in omega (arith, s, low, total) in
          let some = is.asked.covered j here in
          absurd (omega (arith, some, zero));
    }

pub planned-staged : {W : Type 0} (len : ℕ) (tickets : List Mark) (w : Waiting W) (failed : ℕ) (met : Option Fell) → failed ≡ 0 → (met ≡ None) ⊎ (met ≡ Some Memory) → IsStaged len tickets w hand.Nothing failed met
planned-staged len tickets w failed met none met_is = record {
  hurt = λ h. absurd (omega (arith, h, none));
  fetch = λ f. elim met_is [ inl none ↦ let e : None ≡ Some Fault = sym none ∙ f in cc | inr memory ↦ let e : Some Memory ≡ Some Fault = sym memory ∙ f in cc ];
  stands = tt;
}

pub drop-all : (n : ℕ) (parts : List Part) → n ≡ length parts → drop n parts ≡ []
drop-all n parts e = nil_from_length (drop n parts) (let l = length-drop n parts in omega (arith, l, e))

pub pins-number : {W : Type 0} (pendings : List (Pending W)) (pins : List Mark) → pins ≡ [] → length (map pin_in pendings ++ pins) ≡ length pendings
pins-number pendings pins none = let a = length-append (map pin_in pendings) pins in let m = length-map pendings pin_in in let z = ap length none in omega (arith, a, m, z)

pub disks-number : {W : Type 0} (disks : List (Found W)) → length (map disk_in disks) ≡ length disks
disks-number disks = length-map disks disk_in

pub pins-alone : {W : Type 0} (w : Mark → ℕ) (pendings : List (Pending W)) (pins : List Mark) → pins ≡ [] → sum_by w (map pin_in pendings ++ pins) ≡ sum_by w (map pin_in pendings)
pins-alone w pendings pins none =
    let a = sum_by-append w (map pin_in pendings) pins in
    let z = ap (sum_by w) none in
    omega (arith, a, z)
