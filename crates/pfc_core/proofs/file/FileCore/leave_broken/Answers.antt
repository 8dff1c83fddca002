use Rattle.std.proofs.Common.{refl, ◌∙◌, sym, ap, arith}
use Rattle.pfc_log.specs.declared.entry.Entry.TheVariants.{Direct}
use Rattle.pfc_log.specs.declared.entry.Way.TheVariants.{Device}
use Rattle.pfc_core.specs.Held.{Takes}
use Rattle.pfc_core.specs.Homes.{home_of}
use Rattle.pfc_core.specs.Kept.{view_of}
use Rattle.pfc_core.specs.Leave.{leave_of}
use Rattle.pfc_core.specs.Marks.{Mark, DiskKind, sees, Loses}
use Rattle.pfc_core.specs.Out.{mark_in, out_of}
use Rattle.pfc_core.specs.Tags.{home_in}
use Rattle.pfc_core.proofs.Found.{found_leave, found_row}
use Rattle.pfc_core.proofs.Guests.{in_more}
use Rattle.pfc_core.proofs.Kept.{quiet_kept}
use Rattle.pfc_core.proofs.Rooms.{takes_length}
use Rattle.pfc_core.proofs.Outs.{loses_disk, loses_at, unlisted_disk, unlisted_elsewhere, at_home}
use Rattle.pfc_core.proofs.Releasing.{sees_self}
use Rattle.pfc_core.proofs.Said.{said_more}
use Rattle.pfc_core.proofs.Turned.{turns_more}
use Rattle.pfc_core.proofs.file.FileCore.leave_broken.Goals as goal

pub returns-then-not-is_of : goal.returns-then-not-is_of
returns-then-not-is_of g c = let s = c.self.inside in
    let out = unlisted_elsewhere DiskKind (home_in c.disk.inside.tag) (home_of s.instance s.shelf) c.disk.inside.tag.held s.stays.list s.readings.list s.pins.list s.disks.list s.loan s.shelf.slots c.if-not-is_of.ensures in
    rw (← c.self.view_is, ← c.disk.view_is) (record {
      leave_is = c.leave_for_disk.ensures ∙ ap (λ (m : Mark). leave_of m c.args.part) (sym c.disk.view_is);
      known = λ some. absurd (omega (arith, some, out));
      strange = λ none. refl;
    })

pub returns-then-not-take : goal.returns-then-not-take
returns-then-not-take g c = let s = c.self.inside in let h = home_of s.instance s.shelf in let p = c.disk.inside.tag.held in
    let out = at_home DiskKind (home_in c.disk.inside.tag) h p (view_of s).out c.if-not-is_of.ensures (unlisted_disk h p s.stays.list s.readings.list s.pins.list s.disks.list s.loan s.shelf.slots (c.if-not-take.ensures.no refl)) in
    rw (← c.self.view_is, ← c.disk.view_is) (record {
      leave_is = c.leave_for_disk-then-not-take.ensures ∙ ap (λ (m : Mark). leave_of m c.args.part) (sym c.disk.view_is);
      known = λ some. absurd (omega (arith, some, out));
      strange = λ none. rw (c.if-not-take.ensures.same refl) refl;
    })

pub invariant_of-self-2 : goal.invariant_of-self-2
invariant_of-self-2 g c = let s = c.self.inside in let was = c.self.invariant in let p = c.disk.inside.tag.held in
    let take : Takes p s.disks.list c.take.new.self.list = c.if-not-take.ensures.yes refl in record {
      held = rw c.push.ensures (quiet_kept _ _ _ _ _ (Direct p.block p.client Device) was.held (found_row _ p _ _ was.found take) refl refl (λ i q. refl) (λ u. (refl, refl)) (λ i m u. (refl, refl)));
      guests = rw c.push.ensures (in_more _ _ _ was.guests (λ n. (refl, refl)));
      found = rw c.push.ensures (found_leave _ p _ _ was.found take);
      said = rw c.push.ensures (said_more _ _ _ _ was.said refl refl);
      room = rw c.push.ensures (omega (arith, was.room, takes_length _ _ _ take));
      sized = rw c.push.ensures was.sized;
      turns = rw c.push.ensures (turns_more _ _ _ _ _ _ _ was.turns refl refl);
    }

pub returns : goal.returns
returns g c = let s = c.self.inside in let h = home_of s.instance s.shelf in let p = c.disk.inside.tag.held in let a = home_in c.disk.inside.tag in let at = c.if-not-is_of.ensures in
    let take : Takes p s.disks.list c.take.new.self.list = c.if-not-take.ensures.yes refl in
    let loses : Loses (view_of s).out (mark_in DiskKind a p) (out_of h s.stays.list s.readings.list s.pins.list c.take.new.self.list s.loan s.shelf.slots) = loses_at DiskKind a h p p (view_of s).out (out_of h s.stays.list s.readings.list s.pins.list c.take.new.self.list s.loan s.shelf.slots) at refl (loses_disk h s.stays.list s.readings.list s.pins.list s.loan s.shelf.slots p s.disks.list c.take.new.self.list take) in
    rw (← c.self.view_is, ← c.disk.view_is) (record {
      leave_is = c.leave_for_disk-2.ensures ∙ ap (λ (m : Mark). leave_of m c.args.part) (sym c.disk.view_is);
      known = λ some. record { loses = loses; enters = rw c.push.ensures refl };
      strange = λ none. absurd (let one = loses (sees (mark_in DiskKind a p)) in omega (arith, none, one, sees_self (mark_in DiskKind a p)));
    })
