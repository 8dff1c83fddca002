use Rattle.std.proofs.Common.{refl, arith}
use Rattle.pfc_log.specs.declared.entry.Entry.TheVariants.{Closed}
use Rattle.pfc_core.specs.Marks.{StayKind}
use Rattle.pfc_core.specs.Held.{Takes}
use Rattle.pfc_core.specs.Tags.{home_in}
use Rattle.pfc_core.specs.Homes.{home_of}
use Rattle.pfc_core.specs.Kept.{view_of}
use Rattle.pfc_core.proofs.Guests.{in_close, close_row}
use Rattle.pfc_core.proofs.Kept.{quiet_kept}
use Rattle.pfc_core.proofs.Rooms.{takes_length}
use Rattle.pfc_core.proofs.Outs.{loses_stay, unlisted_stay, unlisted_elsewhere, mark_at, at_home}
use Rattle.pfc_core.proofs.Found.{found_more}
use Rattle.pfc_core.proofs.Said.{said_more}
use Rattle.pfc_core.proofs.Turned.{turns_visit}
use Rattle.pfc_core.proofs.Stays.{goes_out}
use Rattle.pfc_core.proofs.file.FileCore.detach.Goals as goal

pub returns-then-not-is_of-clause-strayed : goal.returns-then-not-is_of-clause-strayed
returns-then-not-is_of-clause-strayed g c = let s = c.self.inside in
    rw (← c.self.view_is, ← c.stay.view_is) (record {
      back = refl;
      why_is = c.stranger-why.ensures;
      unchanged = refl;
      unlisted = unlisted_elsewhere StayKind (home_in c.stay.inside.tag) (home_of s.instance s.shelf) c.stay.inside.tag.held s.stays.list s.readings.list s.pins.list s.disks.list s.loan s.shelf.slots c.if-not-is_of.ensures;
    })

pub returns-then-not-take-clause-strayed : goal.returns-then-not-take-clause-strayed
returns-then-not-take-clause-strayed g c = let s = c.self.inside in let at = c.if-not-is_of.ensures in
    rw (← c.self.view_is, ← c.stay.view_is) (record {
      back = refl;
      why_is = c.stranger-why.ensures;
      unchanged = rw (c.if-not-take.ensures.same refl) refl;
      unlisted = at_home StayKind (home_in c.stay.inside.tag) (home_of s.instance s.shelf) c.stay.inside.tag.held (view_of s).out at (unlisted_stay (home_of s.instance s.shelf) c.stay.inside.tag.held s.stays.list s.readings.list s.pins.list s.disks.list s.loan s.shelf.slots (c.if-not-take.ensures.no refl));
    })

pub invariant_of-self-2 : goal.invariant_of-self-2
invariant_of-self-2 g c = let s = c.self.inside in let was = c.self.invariant in let p = c.stay.inside.tag.held in
    let take : Takes p s.stays.list c.take.new.self.list = c.if-not-take.ensures.yes refl in record {
      held = rw c.push.ensures (quiet_kept _ _ _ _ _ (Closed p.client) was.held (close_row _ p _ _ was.guests take) refl refl (λ i q. refl) (λ u. (refl, refl)) (λ i m u. (refl, refl)));
      guests = rw c.push.ensures (in_close _ p _ _ was.guests take);
      found = rw c.push.ensures (found_more _ _ _ was.found (λ i n. (refl, refl)));
      said = rw c.push.ensures (said_more _ _ _ _ was.said refl refl);
      room = rw c.push.ensures (omega (arith, was.room, takes_length _ _ _ take));
      sized = rw c.push.ensures was.sized;
      turns = rw (c.len-self-inside.ensures, c.push.ensures) (turns_visit _ _ _ _ _ _ _ was.turns refl refl);
    }

pub returns-clause-ok : goal.returns-clause-ok
returns-clause-ok g c = let s = c.self.inside in let at = c.if-not-is_of.ensures in
    rw (← c.self.view_is, ← c.stay.view_is) (record {
      loses = rw (mark_at StayKind (home_in c.stay.inside.tag) _ c.stay.inside.tag.held _ at refl) (loses_stay (home_of s.instance s.shelf) s.readings.list s.pins.list s.disks.list s.loan s.shelf.slots c.stay.inside.tag.held s.stays.list c.take.new.self.list (c.if-not-take.ensures.yes refl));
      enters = rw (c.push.ensures, c.go_out.ensures, goes_out (home_of s.instance s.shelf) c.take.new.self.list s.readings.list s.pins.list s.disks.list s.loan s.shelf.slots c.args.now c.len.result s.access c.len.ensures.len) refl;
    })
