use Rattle.std.proofs.Common.{refl, ◌≡◌, sym, ap, subst, rules, arith, false, ℕ, Some, None}
use Rattle.pfc_log.specs.Owners.{owner}
use Rattle.pfc_core.specs.declared.held.Held.{Held}
use Rattle.pfc_core.specs.declared.slot.Slot.{Slot}
use Rattle.pfc_core.specs.Marks.{TicketKind}
use Rattle.pfc_core.specs.Slots.{slot_of, Changes, room_of}
use Rattle.pfc_core.specs.Out.{flight_of, out_of}
use Rattle.pfc_core.specs.Tags.{home_in}
use Rattle.pfc_core.specs.Homes.{home_of}
use Rattle.pfc_core.specs.Kept.{view_of}
use Rattle.pfc_core.proofs.Guests.{in_more}
use Rattle.pfc_core.proofs.Kept.{fail_kept}
use Rattle.pfc_core.proofs.Rooms.{room_flying}
use Rattle.pfc_core.proofs.Found.{found_more}
use Rattle.pfc_core.proofs.Said.{said_more}
use Rattle.pfc_core.proofs.Flown.{fail_loses, unlisted_ticket}
use Rattle.pfc_core.proofs.Outs.{loses_at, unlisted_elsewhere, at_home}
use Rattle.pfc_core.proofs.Turned.{turns_more}
use Rattle.pfc_core.proofs.file.FileCore.fail.Goals as goal

pub returns-then-not-is_of-clause-strayed : goal.returns-then-not-is_of-clause-strayed
returns-then-not-is_of-clause-strayed g c = let s = c.self.inside in
    rw (← c.self.view_is, ← c.ticket.view_is) (record {
      back = refl;
      why_is = c.stranger-unknown.ensures;
      unchanged = refl;
      unlisted = unlisted_elsewhere TicketKind (home_in c.ticket.inside.tag) (home_of s.instance s.shelf) c.ticket.inside.tag.held s.stays.list s.readings.list s.pins.list s.disks.list s.loan s.shelf.slots c.if-not-is_of.ensures;
    })

pub returns-in_default-clause-strayed : goal.returns-in_default-clause-strayed
returns-in_default-clause-strayed g c = let s = c.self.inside in let p = c.ticket.inside.tag.held in let at = c.if-not-is_of.ensures in
    let none : (x : Slot) → slot_of p.block s.shelf.slots ≡ Some x → x.landed ≡ false → flight_of x ≡ p → ⊥ = search rules in
    rw (← c.self.view_is, ← c.ticket.view_is) (record {
      back = refl;
      why_is = c.stranger-unknown.ensures;
      unchanged = refl;
      unlisted = at_home TicketKind (home_in c.ticket.inside.tag) (home_of s.instance s.shelf) p (view_of s).out at (unlisted_ticket (home_of s.instance s.shelf) p s.stays.list s.readings.list s.pins.list s.disks.list s.loan s.shelf.slots c.find_flying.ensures.single none);
    })

pub invariant_of-self : goal.invariant_of-self
invariant_of-self g c = let s = c.self.inside in let was = c.self.invariant in let x = c.in-Some.slot in let p = c.ticket.inside.tag.held in
    let got : (slot_of p.block s.shelf.slots ≡ Some x) × (x.landed ≡ false) × (flight_of x ≡ p) = search rules in
    let there : slot_of x.block s.shelf.slots ≡ Some x = subst (λ (k : ℕ). slot_of k s.shelf.slots ≡ Some x) (sym (ap (λ (q : Held). q.block) got.2)) got.0 in
    let moved : Changes x.block (Some x) None s.shelf c.remove.new.self = c.remove.ensures in record {
      held = rw c.push.ensures (fail_kept _ _ _ s.shelf.slots c.remove.new.self.slots s.pins.list x.block x.ticket c.args.why x was.held there moved.at got.1 refl);
      guests = rw c.push.ensures (in_more _ _ _ was.guests (λ n. (refl, refl)));
      found = rw c.push.ensures (found_more _ _ _ was.found (λ i n. (refl, refl)));
      said = rw c.push.ensures (said_more _ _ _ _ was.said refl refl);
      room = rw c.push.ensures (omega (arith, was.room, moved.weighs room_of, room_flying x got.1));
      sized = rw (c.push.ensures, moved.size, moved.block_size) was.sized;
      turns = rw c.push.ensures (turns_more _ _ _ _ _ _ _ was.turns refl refl);
    }

pub returns-clause-ok : goal.returns-clause-ok
returns-clause-ok g c = let s = c.self.inside in let x = c.in-Some.slot in let p = c.ticket.inside.tag.held in let at = c.if-not-is_of.ensures in
    let got : (slot_of p.block s.shelf.slots ≡ Some x) × (x.landed ≡ false) × (flight_of x ≡ p) = search rules in
    let moved : Changes x.block (Some x) None s.shelf c.remove.new.self = c.remove.ensures in
    rw (← c.self.view_is, ← c.ticket.view_is, moved.path, moved.size, moved.block_size) (record {
      owner_is = subst (λ (q : Held). owner q.number s.log.entries ≡ Some q.client) got.2 (c.self.invariant.held.owned.slot p.block x got.0);
      loses = loses_at TicketKind (home_in c.ticket.inside.tag) (home_of s.instance s.shelf) p (flight_of x) (view_of s).out (out_of (home_of s.instance s.shelf) s.stays.list s.readings.list s.pins.list s.disks.list s.loan c.remove.new.self.slots) at (sym got.2) (fail_loses (home_of s.instance s.shelf) s.stays.list s.readings.list s.pins.list s.disks.list s.loan x s.shelf c.remove.new.self moved got.1);
      enters = rw (c.push.ensures, ap (λ (q : Held). q.number) got.2) refl;
    })
