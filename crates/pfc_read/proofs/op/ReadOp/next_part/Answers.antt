use Rattle.std.proofs.Common.{◌≡◌, ◌++◌, ◌∙◌, [], length, map, refl, sym, ap, arith, append-nil}
use Rattle.std.proofs.lemmas.List.{nil_from_length}
use Rattle.pfc_read.specs.declared.segment.Hand.TheVariants as hand
use Rattle.pfc_read.specs.OpView.{OpView, Nothing, ToRead}
use Rattle.pfc_read.specs.Segments.{pin_in, disk_in}
use Rattle.pfc_read.specs.Kept.{given_of, spots_of, view_of}
use Rattle.pfc_read.proofs.Hands.{last-long, kept-look, kept-looked, kept-read, kept-end, pins-look, disks-read, found-part}
use Rattle.pfc_read.proofs.op.ReadOp.next_part.Goals as goal

pub invariant_of-self-in-Some : goal.invariant_of-self-in-Some
invariant_of-self-in-Some g c =
    let s = c.self.inside in
    let idle : given_of s.hand ≡ Nothing = ap (λ (v : OpView). v.given) c.self.view_is ∙ c.requires.idle in
    (kept-look g.W.World.told g.W.World.files s c.pop.new.self c.in-Some.pending idle c.in-Some.ensures.items c.in-Some.ensures.capacity c.self.invariant).0

pub returns-in-Some : goal.returns-in-Some
returns-in-Some g c =
    let s = c.self.inside in
    let pending = c.in-Some.pending in
    let idle : given_of s.hand ≡ Nothing = ap (λ (v : OpView). v.given) c.self.view_is ∙ c.requires.idle in
    let is = (kept-look g.W.World.told g.W.World.files s c.pop.new.self pending idle c.in-Some.ensures.items c.in-Some.ensures.capacity c.self.invariant).1 in
    rw (← c.self.view_is) (record {
      flown = ap (λ (v : OpView). v.tickets) c.self.view_is ∙ c.requires.flown;
      filled = ap (λ (v : OpView). v.leaves) c.self.view_is ∙ c.requires.filled;
      whole = let z : s.counts.failed ≡ 0 = omega (arith, c.if-self-gt0.false) in z;
      pin_for = is.pin_for;
      loses = λ w. pins-look w s.pendings.items c.pop.new.self.items pending s.pins.items c.in-Some.ensures.items;
      one = last-long s.pendings.items c.pop.new.self.items pending c.in-Some.ensures.items;
      rest = refl;
    })

pub invariant_of-self-in-Some-pop : goal.invariant_of-self-in-Some-pop
invariant_of-self-in-Some-pop g c =
    let s = c.self.inside in
    let told = g.W.World.told in
    let files = g.W.World.files in
    let idle : given_of s.hand ≡ Nothing = ap (λ (v : OpView). v.given) c.self.view_is ∙ c.requires.idle in
    let looked = kept-looked told files s c.pop.new.self c.in_default.ensures.items c.in_default.ensures.capacity idle c.self.invariant in
    (kept-read told files (record s { pendings = c.pop.new.self; hand = hand.Nothing }) c.pop-2.new.self c.in-Some-pop.found refl c.in-Some-pop.ensures.items looked).0

pub returns-in-Some-pop : goal.returns-in-Some-pop
returns-in-Some-pop g c =
    let s = c.self.inside in
    let told = g.W.World.told in
    let files = g.W.World.files in
    let found = c.in-Some-pop.found in
    let left = c.pop-2.new.self in
    let idle : given_of s.hand ≡ Nothing = ap (λ (v : OpView). v.given) c.self.view_is ∙ c.requires.idle in
    let none : c.pop.new.self.items ≡ [] = nil_from_length c.pop.new.self.items (let z = c.in_default.ensures.cases in let l = c.pop.new.self.ok in omega (arith, z, l)) in
    let pendings : s.pendings.items ≡ c.pop.new.self.items = c.in_default.ensures.items ∙ append-nil c.pop.new.self.items in
    let looked = kept-looked told files s c.pop.new.self c.in_default.ensures.items c.in_default.ensures.capacity idle c.self.invariant in
    let is = (kept-read told files (record s { pendings = c.pop.new.self; hand = hand.Nothing }) left found refl c.in-Some-pop.ensures.items looked).1 in
    rw (← c.self.view_is) (record {
      flown = ap (λ (v : OpView). v.tickets) c.self.view_is ∙ c.requires.flown;
      filled = ap (λ (v : OpView). v.leaves) c.self.view_is ∙ c.requires.filled;
      looked = ap length (pendings ∙ none);
      whole = let z : s.counts.failed ≡ 0 = omega (arith, c.if-self-gt0.false) in z;
      disk_for = is.disk_for;
      part_of = found-part s.reading (spots_of s) (length s.bytes.items) found is;
      loses = λ w. disks-read w s.disks.items left.items found c.in-Some-pop.ensures.items;
      rest = λ i. record (view_of s) { pins = map pin_in (sym pendings i) ++ s.pins.items; looks = length (sym pendings i); disks = map disk_in left.items; given = ToRead found.segment.part };
    })

pub invariant_of-self-2 : goal.invariant_of-self-2
invariant_of-self-2 g c =
    let s = c.self.inside in
    let told = g.W.World.told in
    let files = g.W.World.files in
    let left = c.pop-2.new.self in
    let idle : given_of s.hand ≡ Nothing = ap (λ (v : OpView). v.given) c.self.view_is ∙ c.requires.idle in
    let none : c.pop.new.self.items ≡ [] = nil_from_length c.pop.new.self.items (let z = c.in_default.ensures.cases in let l = c.pop.new.self.ok in omega (arith, z, l)) in
    let bare : left.items ≡ [] = nil_from_length left.items (let z = c.in_default-pop.ensures.cases in let l = left.ok in omega (arith, z, l)) in
    let looked = kept-looked told files s c.pop.new.self c.in_default.ensures.items c.in_default.ensures.capacity idle c.self.invariant in
    let flown : s.tickets.items ≡ [] = ap (λ (v : OpView). v.tickets) c.self.view_is ∙ c.requires.flown in
    let filled : s.owed.items ≡ [] = nil_from_length s.owed.items (ap (λ (v : OpView). v.leaves) c.self.view_is ∙ c.requires.filled) in
    kept-end told files (record s { pendings = c.pop.new.self; hand = hand.Nothing }) left flown filled none c.in_default-pop.ensures.items bare refl looked
