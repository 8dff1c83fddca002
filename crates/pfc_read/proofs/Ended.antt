-- What a read has when it ends, and what goes back to its core.
use Rattle.std.proofs.Common.{◌≡◌, ◌==◌, ◌+◌, ◌<◌, ◌≤◌, ℕ, Bool, true, false, if◌then◌else◌, List, [], ◌∷◌, ◌++◌, length, map, reverse, refl, sym, ap, ◌∙◌, arith, subst, Option, Some, None, inl, inr, append-nil, add-zero, eq-eqb}
use Rattle.std.specs.Prelude.{sum_by, All, IsSomeAnd, option_map}
use Rattle.std.proofs.lemmas.Bool.{cases_eq}
use Rattle.std.proofs.lemmas.List.Elements.{All-head, All-tail, All-append, All-map, All-weaker}
use Rattle.std.proofs.lemmas.List.Sums.{sum_by-append, sum_by-cons}
use Rattle.pfc_log.specs.declared.entry.Entry.{Entry}
use Rattle.pfc_log.specs.declared.entry.Entry.TheVariants as e
use Rattle.pfc_log.specs.declared.entry.Served.{Served}
use Rattle.pfc_log.specs.Tallies.{tally}
use Rattle.pfc_log.proofs.Tallied.{tally_more, tally_same}
use Rattle.pfc_world.specs.Files.{Files, file_at}
use Rattle.pfc_span.specs.Pieces.{pieces_in}
use Rattle.pfc_span.proofs.Spots.{bytes-of_spots}
use Rattle.pfc_core.specs.Calls.{Unpins}
use Rattle.pfc_core.specs.Finishes.{Releases, ReleasesAll, ReleasesDisk, ReleasesDisks, served_entries, Finishes}
use Rattle.pfc_core.specs.Leaves.{leaves}
use Rattle.pfc_core.specs.Marks.{Kind, Mark, PinKind, DiskKind, sees, listed, same}
use Rattle.pfc_core.specs.Access.{with_read}
use Rattle.pfc_core.specs.View.{CoreView}
use Rattle.pfc_core.proofs.Weights.{same_self, same_instance, unseen}
use Rattle.pfc_read.specs.declared.segment.Hand.{Hand}
use Rattle.pfc_read.specs.declared.segment.Hand.TheVariants as hand
use Rattle.pfc_read.specs.declared.segment.Segment.{Segment}
use Rattle.pfc_read.specs.declared.segment.Found.{Found}
use Rattle.pfc_read.specs.declared.segment.Pending.{Pending}
use Rattle.pfc_read.specs.declared.op.ReadOp.TheInside.{Inside}
use Rattle.pfc_read.specs.OpView.{ToEnd, OpView}
use Rattle.pfc_read.specs.Segments.{covers, len_in, pin_in, disk_in, in_pending, in_found, in_owed}
use Rattle.pfc_read.specs.Steps.{IsTokenOf}
use Rattle.pfc_read.specs.Ends.{IsData, with_served, Knows, GivesBack, EndsRead}
use Rattle.pfc_read.specs.Kept.{given_of, weight_in, spots_of, waiting_of, view_of, IsKept, IsFit, IsFound}
use Rattle.pfc_read.proofs.Turned.{sum_by-map-reverse}

sees_self : (m : Mark) → sees m m ≡ 1
sees_self m = ap {B = ℕ} (λ (q : Bool). if q then 1 else 0) (same_self m)

pub gives-back : (old : CoreView) (reading : Mark) (pins disks : List Mark) (served : Option Served) (new : CoreView) → Finishes old reading pins disks served new → new ≡ record old { entries = new.entries; out = new.out; access = with_read served old.access } →
    (((m : Mark) → sees m reading + listed m pins + listed m disks ≤ listed m old.out) → (w : Mark → ℕ) → sum_by w new.out + w reading + sum_by w pins + sum_by w disks ≡ sum_by w old.out) → GivesBack old reading pins disks served new
gives-back old reading pins disks served new is rest known = record {
  known = λ some. is;
  strange = λ none. let l = is.ends.loses (sees reading) in let one = sees_self reading in absurd (omega (arith, l, one, none));
  unchanged = λ some. rest;
  spends = λ some within w. known within w;
}

-- a client's tally after the end of a read of its own
tally-served : (n : ℕ) (es : List Entry) (s : Served) → tally n (es ++ e.Served n s ∷ []) ≡ with_served (tally n es) (Some s)
tally-served n es s = tally_more n es (e.Served n s) ∙ rw (eq-eqb n n refl) (simp add-zero)

-- blocks that leave are no client's doing
tally-left : (m : ℕ) (q : Bool) (b : ℕ) (es : List Entry) → tally m (if q then es ++ e.Left b ∷ [] else es) ≡ tally m es
tally-left m true b es = tally_same m es (e.Left b) refl
tally-left m false b es = refl

tally-unpins : (m : ℕ) (old : CoreView) (pin : Mark) (new : CoreView) → Unpins old pin new → tally m new.entries ≡ tally m old.entries
tally-unpins m old pin new is = ap (λ (v : CoreView). tally m v.entries) is.enters ∙ tally-left m (leaves old.entries old.out pin.block pin.flight) pin.block old.entries

tally-release : (m : ℕ) (old : CoreView) (pin : Mark) (new : CoreView) → Releases old pin new → tally m new.entries ≡ tally m old.entries
tally-release m old pin new is = elim (cases_eq (listed pin old.out) 0) [
  | inl none ↦ ap (λ (v : CoreView). tally m v.entries) (is.strange none)
  | inr some ↦ tally-unpins m old pin new (is.known (omega (arith, some)))
]

tally-releases : (m : ℕ) (old : CoreView) (pins : List Mark) (new : CoreView) → ReleasesAll old pins new → tally m new.entries ≡ tally m old.entries
tally-releases m old [] new is = ap (λ (v : CoreView). tally m v.entries) is
tally-releases m old (pin ∷ pins) new is = tally-releases m is.0 pins new is.2 ∙ tally-release m old pin is.0 is.1

tally-release-disk : (m : ℕ) (old : CoreView) (disk : Mark) (new : CoreView) → ReleasesDisk old disk new → tally m new.entries ≡ tally m old.entries
tally-release-disk m old disk new is = elim (cases_eq (listed disk old.out) 0) [
  | inl none ↦ ap (λ (v : CoreView). tally m v.entries) (is.strange none)
  | inr some ↦ ap (λ (v : CoreView). tally m v.entries) (is.known (omega (arith, some))).rest
]

tally-releases-disks : (m : ℕ) (old : CoreView) (disks : List Mark) (new : CoreView) → ReleasesDisks old disks new → tally m new.entries ≡ tally m old.entries
tally-releases-disks m old [] new is = ap (λ (v : CoreView). tally m v.entries) is
tally-releases-disks m old (disk ∷ disks) new is = tally-releases-disks m is.0 disks new is.2 ∙ tally-release-disk m old disk is.0 is.1

-- nothing but the read's own entry changes a tally
tally-finishes : (m : ℕ) (old : CoreView) (reading : Mark) (pins disks : List Mark) (served : Option Served) (new : CoreView) → Finishes old reading pins disks served new →
    tally m new.entries ≡ tally m (old.entries ++ served_entries reading.client served)
tally-finishes m old reading pins disks served new is =
    tally-releases-disks m is.unpinned disks new is.disks_end ∙ tally-releases m is.after pins is.unpinned is.releases ∙ ap (tally m) (ap (λ (v : CoreView). v.entries) is.ends.enters)

-- the same entry for whoever it is
mine-ended : (n : ℕ) (es : List Entry) (served : Option Served) → tally n (es ++ served_entries n served) ≡ with_served (tally n es) served
mine-ended n es None = ap (tally n) (append-nil es)
mine-ended n es (Some s) = tally-served n es s

others-ended : (n m : ℕ) (es : List Entry) (served : Option Served) → (n == m) ≡ false → tally m (es ++ served_entries n served) ≡ tally m es
others-ended n m es None ne = ap (tally m) (append-nil es)
others-ended n m es (Some s) ne = tally_same m es (e.Served n s) ne

-- tokens of one core are not another's
unlisted-elsewhere : (kind : Kind) (r m : Mark) (tokens : List Mark) → All (IsTokenOf r kind) tokens → (m.instance ≡ r.instance → ⊥) → listed m tokens ≡ 0
unlisted-elsewhere kind r m [] all ne = refl
unlisted-elsewhere kind r m (p ∷ ps) all ne =
    let h = All-head (IsTokenOf r kind) p ps all in
    let here : sees m p ≡ 0 = unseen m p (λ yes. ne (same_instance m p yes ∙ h.instance_is)) in
    let rest = unlisted-elsewhere kind r m ps (All-tail (IsTokenOf r kind) p ps all) ne in
    let s = sum_by-cons (sees m) p ps in
    omega (arith, here, rest, s)

pub ends-read : (old : CoreView) (op : OpView) (pins disks : List Mark) (served : Option Served) (new : CoreView) → op.tickets ≡ [] → All (IsTokenOf op.reading PinKind) op.pins → All (IsTokenOf op.reading DiskKind) op.disks →
    ((w : Mark → ℕ) → sum_by w pins ≡ sum_by w op.pins) → ((w : Mark → ℕ) → sum_by w disks ≡ sum_by w op.disks) → GivesBack old op.reading pins disks served new → EndsRead old op served new
ends-read old op pins disks served new none pins_are disks_are same also back =
    let lists : Knows old op → 0 < listed op.reading old.out = λ knows. let h = knows.each op.reading knows.instance_is in let one = sees_self op.reading in omega (arith, h, one) in
    record {
      known = λ some.
          let is = back.known some in
          record {
            pins = pins;
            disks = disks;
            same_pins = same;
            same_disks = also;
            finishes = is;
            unchanged = back.unchanged some;
            mine = tally-finishes op.reading.client old op.reading pins disks served new is ∙ mine-ended op.reading.client old.entries served;
            others = λ m ne. tally-finishes m old op.reading pins disks served new is ∙ others-ended op.reading.client m old.entries served ne;
          };
      strange = back.strange;
      lists = lists;
      spends = λ knows w.
          let within : (m : Mark) → sees m op.reading + listed m pins + listed m disks ≤ listed m old.out = λ m. elim (cases_eq m.instance old.instance) [
            | inl at ↦ let h = knows.each m at in let s = same (sees m) in let d = also (sees m) in omega (arith, h, s, d)
            | inr apart ↦
                let ne : m.instance ≡ op.reading.instance → ⊥ = λ is. apart (is ∙ knows.instance_is) in
                let a : sees m op.reading ≡ 0 = unseen m op.reading (λ yes. ne (same_instance m op.reading yes)) in
                let b = unlisted-elsewhere PinKind op.reading m op.pins pins_are ne in
                let c = unlisted-elsewhere DiskKind op.reading m op.disks disks_are ne in
                let s = same (sees m) in
                let d = also (sees m) in
                omega (arith, a, b, c, s, d)
          ] in
          let l = back.spends (lists knows) within w in
          let s = same w in
          let d = also w in
          let t : sum_by w op.tickets ≡ 0 = ap (sum_by w) none in
          omega (arith, l, s, d, t);
    }

pub gathered : {W : Type 0} (w : Mark → ℕ) (pendings : List (Pending W)) (pins all : List Mark) → all ≡ pins ++ map pin_in (reverse pendings) → sum_by w all ≡ sum_by w (map pin_in pendings ++ pins)
gathered w pendings pins all is =
    let a : sum_by w all ≡ sum_by w pins + sum_by w (map pin_in (reverse pendings)) = ap (sum_by w) is ∙ sum_by-append w pins (map pin_in (reverse pendings)) in
    let b = sum_by-append w (map pin_in pendings) pins in
    let c = sum_by-map-reverse w pin_in pendings in
    omega (arith, a, b, c)

pub gathered-disks : {W : Type 0} (w : Mark → ℕ) (disks : List (Found W)) (unread all : List Mark) → unread ≡ [] → all ≡ unread ++ map disk_in (reverse disks) → sum_by w all ≡ sum_by w (map disk_in disks)
gathered-disks w disks unread all none is =
    let a : sum_by w all ≡ sum_by w unread + sum_by w (map disk_in (reverse disks)) = ap (sum_by w) is ∙ sum_by-append w unread (map disk_in (reverse disks)) in
    let z = ap (sum_by w) none in
    let c = sum_by-map-reverse w disk_in disks in
    omega (arith, a, z, c)

pub hand-end : (h : Hand) → given_of h ≡ ToEnd → h ≡ hand.End
hand-end hand.Nothing e = cc
hand-end hand.Ticket e = cc
hand-end (hand.Leave s) e = cc
hand-end (hand.Pin s) e = cc
hand-end (hand.Disk s) e = cc
hand-end hand.End e = refl

some-and : (o : Option (List ℕ)) (size : ℕ) (P : List ℕ → Type 0) → option_map length o ≡ Some size → ((file : List ℕ) → o ≡ Some file → P file) → IsSomeAnd o P
some-and None size P sized all = absurd (cc)
some-and (Some file) size P sized all = all file refl

size-some : (o : Option (List ℕ)) (size : ℕ) (file : List ℕ) → option_map length o ≡ Some size → o ≡ Some file → length file ≡ size
size-some o size file sized is = let s : Some (length file) ≡ Some size = ap (option_map length) (sym is) ∙ sized in cc

-- the reply of a read that ended unhurt
pub data-of : {W : Type 0} (told : Bool) (files : Files) (s : Inside W) → given_of s.hand ≡ ToEnd → s.met ≡ None → IsKept told files s → IsData told files (view_of s) s.bytes.items s.served
data-of {W = W} told files s ended unhurt kept =
    let was = subst (λ h. IsKept told files (record s { hand = h })) (hand-end s.hand ended) kept in
    let stands = was.staged.stands in
    let none : (s.pendings.items ≡ []) × (s.disks.items ≡ []) = elim stands.2 [ inl empty ↦ empty | inr failed ↦ absurd (was.staged.hurt failed unhurt) ] in
    let zero : (f : Segment → ℕ) → weight_in f (waiting_of s) hand.End ≡ 0 = λ f.
    let a : sum_by (in_pending f) s.pendings.items ≡ 0 = ap (sum_by (in_pending f)) none.0 in
    let b : sum_by (in_found f) s.disks.items ≡ 0 = ap (sum_by (in_found f)) none.1 in
    let c : sum_by (in_owed f) s.owed.items ≡ 0 = ap (sum_by (in_owed f)) stands.1 in
    omega (arith, a, b, c) in
    record {
      long = was.sound.long;
      right = λ t. some-and (file_at files s.reading.path) s.reading.size _ (was.sound.sized t) (λ file at.
          bytes-of_spots file s.reading.size (pieces_in s.pieces) s.bytes.items (size-some _ _ file (was.sound.sized t) at) was.sound.long
          (λ j low. was.sound.agrees t unhurt file at j low (zero (covers j))));
      sum = let w = was.counted.whole unhurt in let z = zero len_in in omega (arith, w, z);
      hit = let h = was.counted.hit in omega (arith, h);
      missed = let h = was.counted.missed in omega (arith, h);
      bypassed = let h = was.counted.bypassed in omega (arith, h);
    }

-- all pins of a read are its own
pub pins-own : {W : Type 0} (r : Mark) (spot_at : ℕ → ℕ) (total : ℕ) (pendings : List (Pending W)) (pins : List Mark) → All (IsFit r spot_at total) pendings → All (IsTokenOf r PinKind) pins → All (IsTokenOf r PinKind) (map pin_in pendings ++ pins)
pins-own r spot_at total pendings pins fits own = All-append (IsTokenOf r PinKind) (map pin_in pendings) pins
    (All-map (IsTokenOf r PinKind) pin_in pendings (All-weaker (IsFit r spot_at total) (λ p. IsTokenOf r PinKind (pin_in p)) (λ p h. h.pin_for.token) pendings fits)) own

pub disks-own : {W : Type 0} (r : Mark) (spot_at : ℕ → ℕ) (total : ℕ) (disks : List (Found W)) → All (IsFound r spot_at total) disks → All (IsTokenOf r DiskKind) (map disk_in disks)
disks-own r spot_at total disks found = All-map (IsTokenOf r DiskKind) disk_in disks (All-weaker (IsFound r spot_at total) (λ x. IsTokenOf r DiskKind (disk_in x)) (λ x h. h.disk_for.token) disks found)

pub ends-op : {W : Type 0} (told : Bool) (files : Files) (s : Inside W) → given_of s.hand ≡ ToEnd → (old : CoreView) (pins disks : List Mark) (served : Option Served) (new : CoreView) → pins ≡ s.pins.items ++ map pin_in (reverse s.pendings.items) →
    disks ≡ s.unread.items ++ map disk_in (reverse s.disks.items) → IsKept told files s → GivesBack old s.reading pins disks served new → EndsRead old (view_of s) served new
ends-op {W = W} told files s ended old pins disks served new is also kept back =
    let was = subst (λ h. IsKept told files (record s { hand = h })) (hand-end s.hand ended) kept in
    let spot_at : ℕ → ℕ = spots_of s in
    let total : ℕ = length s.bytes.items in
    ends-read old (view_of s) pins disks served new was.staged.stands.0 (pins-own s.reading spot_at total s.pendings.items s.pins.items kept.own.pendings_are kept.own.pins_are) (disks-own s.reading spot_at total s.disks.items kept.own.disks_are)
    (λ w. gathered w s.pendings.items s.pins.items pins is) (λ w. gathered-disks w s.disks.items s.unread.items disks kept.roomy.none also) back
