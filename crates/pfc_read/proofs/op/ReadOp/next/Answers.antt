use Rattle.std.proofs.Common.{◌≡◌, ◌∙◌, [], length, refl, sym, ap, arith, append-nil}
use Rattle.std.proofs.lemmas.List.{nil_from_length}
use Rattle.pfc_read.specs.OpView.{OpView, Nothing, ToFill}
use Rattle.pfc_read.specs.Kept.{given_of, view_of}
use Rattle.pfc_read.proofs.Hands.{loses-last, last-long, kept-run, kept-flown, kept-fill}
use Rattle.pfc_read.proofs.op.ReadOp.next.Goals as goal

pub invariant_of-self : goal.invariant_of-self
invariant_of-self g c =
    let s = c.self.inside in
    let idle : given_of s.hand ≡ Nothing = ap (λ (v : OpView). v.given) c.self.view_is ∙ c.requires in
    (kept-run g.W.World.told g.W.World.files s c.pop.new.self c.in-Some.ticket idle c.in-Some.ensures.items c.self.invariant).0

pub returns-in-Some : goal.returns-in-Some
returns-in-Some g c =
    let s = c.self.inside in
    let idle : given_of s.hand ≡ Nothing = ap (λ (v : OpView). v.given) c.self.view_is ∙ c.requires in
    let kept = kept-run g.W.World.told g.W.World.files s c.pop.new.self c.in-Some.ticket idle c.in-Some.ensures.items c.self.invariant in
    rw (← c.self.view_is) (record {
      token = kept.1;
      loses = λ w. loses-last w s.tickets.items c.pop.new.self.items c.in-Some.ticket c.in-Some.ensures.items;
      rest = refl;
    })

pub invariant_of-self-in-Some-pop : goal.invariant_of-self-in-Some-pop
invariant_of-self-in-Some-pop g c =
    let s = c.self.inside in
    let told = g.W.World.told in
    let files = g.W.World.files in
    let idle : given_of s.hand ≡ Nothing = ap (λ (v : OpView). v.given) c.self.view_is ∙ c.requires in
    let flown = kept-flown told files s c.pop.new.self c.in_default.ensures.items c.self.invariant in
    (kept-fill told files (record s { tickets = c.pop.new.self }) c.pop-2.new.self c.in-Some-pop.owed idle c.in-Some-pop.ensures.items c.in-Some-pop.ensures.capacity flown).0

pub returns-in-Some-pop : goal.returns-in-Some-pop
returns-in-Some-pop g c =
    let s = c.self.inside in
    let told = g.W.World.told in
    let files = g.W.World.files in
    let owed = c.in-Some-pop.owed in
    let idle : given_of s.hand ≡ Nothing = ap (λ (v : OpView). v.given) c.self.view_is ∙ c.requires in
    let none : c.pop.new.self.items ≡ [] = nil_from_length c.pop.new.self.items (let z = c.in_default.ensures.cases in let l = c.pop.new.self.ok in omega (arith, z, l)) in
    let tickets : s.tickets.items ≡ c.pop.new.self.items = c.in_default.ensures.items ∙ append-nil c.pop.new.self.items in
    let flown = kept-flown told files s c.pop.new.self c.in_default.ensures.items c.self.invariant in
    let is = (kept-fill told files (record s { tickets = c.pop.new.self }) c.pop-2.new.self owed idle c.in-Some-pop.ensures.items c.in-Some-pop.ensures.capacity flown).1 in
    rw (← c.self.view_is) (record {
      flown = tickets ∙ none;
      leave_of = is.leave_of;
      one = last-long s.owed.items c.pop-2.new.self.items owed c.in-Some-pop.ensures.items;
      rest = λ i. record (view_of s) { tickets = sym tickets i; leaves = length c.pop-2.new.self.items; given = ToFill (sym is.part_is i) };
    })
