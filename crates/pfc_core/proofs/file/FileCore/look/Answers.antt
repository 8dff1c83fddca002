use Rattle.std.proofs.Common.{refl, ◌∙◌, sym, ap, arith, eq-eqb}
use Rattle.pfc_core.specs.Marks.{Mark, PinKind}
use Rattle.pfc_core.specs.Held.{Takes}
use Rattle.pfc_core.specs.Leaves.{is_here_at, is_flying_at}
use Rattle.pfc_core.specs.Out.{out_of}
use Rattle.pfc_core.specs.Tags.{home_in}
use Rattle.pfc_core.specs.Homes.{home_of}
use Rattle.pfc_core.specs.Leave.{leave_of}
use Rattle.pfc_core.specs.Kept.{view_of}
use Rattle.pfc_core.proofs.Tied.{by_bool}
use Rattle.pfc_core.proofs.Guests.{in_more}
use Rattle.pfc_core.proofs.Bare.{bare_failed}
use Rattle.pfc_core.proofs.Kept.{lost_kept, flying_at, here_at}
use Rattle.pfc_core.proofs.Rooms.{takes_length}
use Rattle.pfc_core.proofs.Looking.{listed_pin, ticket_out}
use Rattle.pfc_core.proofs.Flown.{loses_pin}
use Rattle.pfc_core.proofs.Outs.{loses_at, unlisted_pin, unlisted_elsewhere, at_home}
use Rattle.pfc_core.proofs.Found.{found_more}
use Rattle.pfc_core.proofs.Said.{said_more}
use Rattle.pfc_core.proofs.Turned.{turns_more}
use Rattle.pfc_core.proofs.file.FileCore.look.Goals as goal

pub returns-then-not-is_of-clause-looks : goal.returns-then-not-is_of-clause-looks
returns-then-not-is_of-clause-looks g c = let s = c.self.inside in
    rw (← c.self.view_is, ← c.pin.view_is) (record {
      unlisted = unlisted_elsewhere PinKind (home_in c.pin.inside.tag) (home_of s.instance s.shelf) c.pin.inside.tag.held s.stays.list s.readings.list s.pins.list s.disks.list s.loan s.shelf.slots c.if-not-is_of.ensures;
      leave_is = c.leave_for.ensures ∙ ap (λ (m : Mark). leave_of m c.args.part) (sym c.pin.view_is);
      unchanged = refl;
    })

pub returns-in-Stray-clause-looks : goal.returns-in-Stray-clause-looks
returns-in-Stray-clause-looks g c = let s = c.self.inside in let at = c.if-not-is_of.ensures in
    rw (← c.self.view_is, ← c.pin.view_is) (record {
      unlisted = at_home PinKind (home_in c.pin.inside.tag) (home_of s.instance s.shelf) c.pin.inside.tag.held (view_of s).out at (unlisted_pin (home_of s.instance s.shelf) c.pin.inside.tag.held s.stays.list s.readings.list s.pins.list s.disks.list s.loan s.shelf.slots c.in-Stray.ensures);
      leave_is = c.leave_for-in-Stray.ensures ∙ ap (λ (m : Mark). leave_of m c.args.part) (sym c.pin.view_is);
      unchanged = refl;
    })

pub returns-in-Flying-clause-looks : goal.returns-in-Flying-clause-looks
returns-in-Flying-clause-looks g c = let s = c.self.inside in let was = c.self.invariant in let at = c.if-not-is_of.ensures in let h = home_of s.instance s.shelf in let p = c.pin.inside.tag.held in
    let is = c.in-Flying.ensures in let x = c.in-Flying._slot in
    rw (← c.self.view_is, ← c.pin.view_is) (record {
      back_is = refl;
      held = listed_pin h s.stays.list s.readings.list s.pins.list s.disks.list s.loan s.shelf.slots (home_in c.pin.inside.tag) p at is.0;
      flying = ap (is_flying_at p.flight) (flying_at _ _ _ p.block s.shelf.slots s.pins.list x was.held is.1.at is.2) ∙ eq-eqb x.ticket p.flight is.1.ticket;
      ticket = ticket_out h s.stays.list s.readings.list s.pins.list s.disks.list s.loan s.shelf.slots p x is.1 is.2;
      unchanged = refl;
    })

pub returns-in-Ready-clause-looks : goal.returns-in-Ready-clause-looks
returns-in-Ready-clause-looks g c = let s = c.self.inside in let was = c.self.invariant in let at = c.if-not-is_of.ensures in let h = home_of s.instance s.shelf in let p = c.pin.inside.tag.held in
    let is = c.in-Ready.ensures in let x = c.in-Ready.slot in
    rw (← c.self.view_is, ← c.pin.view_is) (record {
      back_is = refl;
      held = listed_pin h s.stays.list s.readings.list s.pins.list s.disks.list s.loan s.shelf.slots (home_in c.pin.inside.tag) p at is.0;
      here = ap (is_here_at p.flight) (here_at _ _ _ p.block s.shelf.slots s.pins.list x was.held is.1.at is.2) ∙ eq-eqb x.ticket p.flight is.1.ticket;
      unchanged = refl;
    })

pub returns-in-Own-clause-looks : goal.returns-in-Own-clause-looks
returns-in-Own-clause-looks g c = let s = c.self.inside in let was = c.self.invariant in let at = c.if-not-is_of.ensures in let h = home_of s.instance s.shelf in let p = c.pin.inside.tag.held in
    let is = c.in-Own.ensures in
    rw (← c.self.view_is, ← c.pin.view_is) (record {
      back_is = refl;
      held = listed_pin h s.stays.list s.readings.list s.pins.list s.disks.list s.loan s.shelf.slots (home_in c.pin.inside.tag) p at is.0.held;
      failed = bare_failed _ _ _ s.shelf.slots s.pins.list p was.held is.0.held is.0.apart;
      own = is.1;
      unchanged = refl;
    })

pub invariant_of-self : goal.invariant_of-self
invariant_of-self g c = let s = c.self.inside in let was = c.self.invariant in let p = c.pin.inside.tag.held in
    let is = c.in-Lost.ensures in
    let take : Takes p s.pins.list c.take.new.self.list = by_bool c.take.result c.take.ensures.yes (λ n. absurd (omega (arith, c.take.ensures.no n, is.0.held))) in record {
      held = rw c.push.ensures (lost_kept _ _ _ s.shelf.slots s.pins.list c.take.new.self.list p was.held take is.0.apart is.1);
      guests = rw c.push.ensures (in_more _ _ _ was.guests (λ n. (refl, refl)));
      found = rw c.push.ensures (found_more _ _ _ was.found (λ i n. (refl, refl)));
      said = rw c.push.ensures (said_more _ _ _ _ was.said refl refl);
      room = rw c.push.ensures (omega (arith, was.room, takes_length _ _ _ take));
      sized = rw c.push.ensures was.sized;
      turns = rw c.push.ensures (turns_more _ _ _ _ _ _ _ was.turns refl refl);
    }

pub returns-in-Lost-clause-looks : goal.returns-in-Lost-clause-looks
returns-in-Lost-clause-looks g c = let s = c.self.inside in let was = c.self.invariant in let at = c.if-not-is_of.ensures in let h = home_of s.instance s.shelf in let p = c.pin.inside.tag.held in
    let is = c.in-Lost.ensures in
    let take : Takes p s.pins.list c.take.new.self.list = by_bool c.take.result c.take.ensures.yes (λ n. absurd (omega (arith, c.take.ensures.no n, is.0.held))) in
    rw (← c.self.view_is, ← c.pin.view_is) (record {
      held = listed_pin h s.stays.list s.readings.list s.pins.list s.disks.list s.loan s.shelf.slots (home_in c.pin.inside.tag) p at is.0.held;
      failed = bare_failed _ _ _ s.shelf.slots s.pins.list p was.held is.0.held is.0.apart;
      other = is.1;
      leave_is = c.leave_for-in-Lost.ensures ∙ ap (λ (m : Mark). leave_of m c.args.part) (sym c.pin.view_is);
      loses = loses_at PinKind (home_in c.pin.inside.tag) h p p (view_of s).out (out_of h s.stays.list s.readings.list c.take.new.self.list s.disks.list s.loan s.shelf.slots) at refl (loses_pin h s.stays.list s.readings.list s.disks.list s.loan p s.pins.list c.take.new.self.list s.shelf.slots take);
      enters = rw c.push.ensures refl;
    })
