use Rattle.std.proofs.Common.{refl, sym, subst, arith}
use Rattle.pfc_core.specs.Held.{TokensView}
use Rattle.pfc_core.specs.Homes.{home_of}
use Rattle.pfc_core.specs.Kept.{view_of, AreFound}
use Rattle.pfc_core.specs.Marks.{DiskKind}
use Rattle.pfc_core.specs.Out.{out_of}
use Rattle.pfc_core.specs.Tags.{home_in}
use Rattle.pfc_core.proofs.Found.{found_take}
use Rattle.pfc_core.proofs.Rooms.{takes_length}
use Rattle.pfc_core.proofs.Outs.{loses_disk, loses_at, unlisted_disk, unlisted_elsewhere, at_home}
use Rattle.pfc_core.proofs.Tied.{by_bool}
use Rattle.pfc_core.proofs.file.FileCore.release_disk.Goals as goal

pub returns-then-not-is_of-clause-no : goal.returns-then-not-is_of-clause-no
returns-then-not-is_of-clause-no g c = let s = c.self.inside in
    rw (← c.self.view_is, ← c.disk.view_is) (λ _. unlisted_elsewhere DiskKind (home_in c.disk.inside.tag) (home_of s.instance s.shelf) c.disk.inside.tag.held s.stays.list s.readings.list s.pins.list s.disks.list s.loan s.shelf.slots c.if-not-is_of.ensures)

pub invariant_of-self : goal.invariant_of-self
invariant_of-self g c = let s = c.self.inside in let was = c.self.invariant in let p = c.disk.inside.tag.held in record {
  held = was.held;
  guests = was.guests;
  found = by_bool c.take.result
      (λ y. found_take _ p _ _ was.found (c.take.ensures.yes y))
      (λ n. subst (λ (t : TokensView). AreFound s.log.entries t.list) (sym (c.take.ensures.same n)) was.found);
  said = was.said;
  room = by_bool c.take.result
      (λ y. omega (arith, was.room, takes_length _ _ _ (c.take.ensures.yes y)))
      (λ n. rw (c.take.ensures.same n) was.room);
  sized = was.sized;
  turns = was.turns;
}

pub returns-clause-yes : goal.returns-clause-yes
returns-clause-yes g c = let s = c.self.inside in let h = home_of s.instance s.shelf in let p = c.disk.inside.tag.held in let at = c.if-not-is_of.ensures in
    rw (← c.self.view_is, ← c.disk.view_is) (λ y. record {
      loses = loses_at DiskKind (home_in c.disk.inside.tag) h p p (view_of s).out (out_of h s.stays.list s.readings.list s.pins.list c.take.new.self.list s.loan s.shelf.slots) at refl (loses_disk h s.stays.list s.readings.list s.pins.list s.loan s.shelf.slots p s.disks.list c.take.new.self.list (c.take.ensures.yes y));
      rest = refl;
    })

pub returns-clause-no : goal.returns-clause-no
returns-clause-no g c = let s = c.self.inside in let h = home_of s.instance s.shelf in let p = c.disk.inside.tag.held in let at = c.if-not-is_of.ensures in
    rw (← c.self.view_is, ← c.disk.view_is) (λ n. at_home DiskKind (home_in c.disk.inside.tag) h p (view_of s).out at (unlisted_disk h p s.stays.list s.readings.list s.pins.list s.disks.list s.loan s.shelf.slots (c.take.ensures.no n)))
