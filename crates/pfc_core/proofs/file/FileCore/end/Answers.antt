use Rattle.std.proofs.Common.{refl, rules, arith}
use Rattle.pfc_log.specs.declared.entry.Entry.TheVariants.{Served}
use Rattle.pfc_core.specs.Marks.{ReadingKind}
use Rattle.pfc_core.specs.Held.{Takes}
use Rattle.pfc_core.specs.Out.{out_of}
use Rattle.pfc_core.specs.Tags.{home_in}
use Rattle.pfc_core.specs.Homes.{home_of}
use Rattle.pfc_core.specs.Kept.{view_of}
use Rattle.pfc_core.proofs.Guests.{in_more}
use Rattle.pfc_core.proofs.Kept.{quiet_kept}
use Rattle.pfc_core.proofs.Rooms.{takes_length}
use Rattle.pfc_core.proofs.Outs.{loses_reading, loses_at, unlisted_reading, unlisted_elsewhere, at_home}
use Rattle.pfc_core.proofs.Found.{found_more}
use Rattle.pfc_core.proofs.Said.{said_more}
use Rattle.pfc_core.proofs.Turned.{turns_more}
use Rattle.pfc_core.proofs.file.FileCore.end.Goals as goal

pub returns-then-not-is_of-clause-strayed : goal.returns-then-not-is_of-clause-strayed
returns-then-not-is_of-clause-strayed g c = let s = c.self.inside in
    rw (← c.self.view_is, ← c.reading.view_is) (record {
      back = refl;
      why_is = c.stranger-why.ensures;
      unchanged = refl;
      unlisted = unlisted_elsewhere ReadingKind (home_in c.reading.inside.tag) (home_of s.instance s.shelf) c.reading.inside.tag.held s.stays.list s.readings.list s.pins.list s.disks.list s.loan s.shelf.slots c.if-not-is_of.ensures;
    })

pub returns-then-not-take-clause-strayed : goal.returns-then-not-take-clause-strayed
returns-then-not-take-clause-strayed g c = let s = c.self.inside in let at = c.if-not-is_of.ensures in
    rw (← c.self.view_is, ← c.reading.view_is) (record {
      back = refl;
      why_is = c.stranger-why.ensures;
      unchanged = rw (c.if-not-take.ensures.same refl) refl;
      unlisted = at_home ReadingKind (home_in c.reading.inside.tag) (home_of s.instance s.shelf) c.reading.inside.tag.held (view_of s).out at (unlisted_reading (home_of s.instance s.shelf) c.reading.inside.tag.held s.stays.list s.readings.list s.pins.list s.disks.list s.loan s.shelf.slots (c.if-not-take.ensures.no refl));
    })

pub invariant_of-self-in_default : goal.invariant_of-self-in_default
invariant_of-self-in_default g c = let was = c.self.invariant in let p = c.reading.inside.tag.held in
    let take : Takes p c.self.inside.readings.list c.take.new.self.list = c.if-not-take.ensures.yes refl in record {
      held = was.held;
      guests = was.guests;
      found = was.found;
      said = was.said;
      room = omega (arith, was.room, takes_length _ _ _ take);
      sized = was.sized;
      turns = was.turns;
    }

pub returns-in_default-clause-ok : goal.returns-in_default-clause-ok
returns-in_default-clause-ok g c = let s = c.self.inside in let at = c.if-not-is_of.ensures in let h = home_of s.instance s.shelf in let p = c.reading.inside.tag.held in
    rw (← c.self.view_is, ← c.reading.view_is) (record {
      loses = loses_at ReadingKind (home_in c.reading.inside.tag) h p p (view_of s).out (out_of h s.stays.list c.take.new.self.list s.pins.list s.disks.list s.loan s.shelf.slots) at refl (loses_reading h s.stays.list s.pins.list s.disks.list s.loan s.shelf.slots p s.readings.list c.take.new.self.list (c.if-not-take.ensures.yes refl));
      enters = search rules;
    })

pub invariant_of-self-2 : goal.invariant_of-self-2
invariant_of-self-2 g c = let was = c.self.invariant in let p = c.reading.inside.tag.held in
    let take : Takes p c.self.inside.readings.list c.take.new.self.list = c.if-not-take.ensures.yes refl in record {
      held = rw c.push.ensures (quiet_kept _ _ _ _ _ (Served p.client c.in-Some.served) was.held tt refl refl (λ i q. refl) (λ u. (refl, refl)) (λ i m u. (refl, refl)));
      guests = rw c.push.ensures (in_more _ _ _ was.guests (λ n. (refl, refl)));
      found = rw c.push.ensures (found_more _ _ _ was.found (λ i n. (refl, refl)));
      said = rw c.push.ensures (said_more _ _ _ _ was.said refl refl);
      room = rw c.push.ensures (omega (arith, was.room, takes_length _ _ _ take));
      sized = rw c.push.ensures was.sized;
      turns = rw c.push.ensures (turns_more _ _ _ _ _ _ _ was.turns refl refl);
    }

pub returns-clause-ok : goal.returns-clause-ok
returns-clause-ok g c = let s = c.self.inside in let at = c.if-not-is_of.ensures in let h = home_of s.instance s.shelf in let p = c.reading.inside.tag.held in
    rw (← c.self.view_is, ← c.reading.view_is) (record {
      loses = loses_at ReadingKind (home_in c.reading.inside.tag) h p p (view_of s).out (out_of h s.stays.list c.take.new.self.list s.pins.list s.disks.list s.loan s.shelf.slots) at refl (loses_reading h s.stays.list s.pins.list s.disks.list s.loan s.shelf.slots p s.readings.list c.take.new.self.list (c.if-not-take.ensures.yes refl));
      enters = search rules;
    })
