use Rattle.std.proofs.Common.{refl, ◌∙◌, ap, subst, arith, List}
use Rattle.pfc_core.specs.declared.held.Held.{Held}
use Rattle.pfc_core.specs.Marks.{ReadingKind}
use Rattle.pfc_core.specs.Held.{Puts}
use Rattle.pfc_core.specs.Out.{Home}
use Rattle.pfc_core.specs.Homes.{home_of}
use Rattle.pfc_core.proofs.Rooms.{room_at_most, puts_length}
use Rattle.pfc_core.proofs.Outs.{gains_reading, mark_at}
use Rattle.pfc_core.proofs.Rooms.{alarm_most}
use Rattle.pfc_core.proofs.Turned.{turn_most}
use Rattle.pfc_core.proofs.file.FileCore.begin_read.Goals as goal

pub invariant_of-self-2 : goal.invariant_of-self-2
invariant_of-self-2 g c = let s = c.self.inside in let was = c.self.invariant in
    let put : Puts s.readings.list c.add-held.result c.add-held.new.self.list = subst (λ (l : List Held). Puts l c.add-held.result c.add-held.new.self.list) c.make_room.ensures.list c.add-held.ensures.added in
    let room = c.in_ok-make_room.ensures.room in record {
      held = rw (c.make_room.ensures.first, c.make_room.ensures.entries) was.held;
      guests = rw (c.make_room.ensures.entries) was.guests;
      found = rw (c.make_room.ensures.entries) was.found;
      said = rw (c.make_room.ensures.first, c.make_room.ensures.entries) was.said;
      room = omega (arith, room, c.in_ok-others.ensures.sum, alarm_most s.sets, turn_most s.loan, room_at_most s.shelf.slots, puts_length _ _ _ put);
      sized = rw (c.make_room.ensures.first) was.sized;
      turns = rw (c.make_room.ensures.first, c.make_room.ensures.entries) was.turns;
    }

pub returns-clause-ok : goal.returns-clause-ok
returns-clause-ok g c = let s = c.self.inside in
    let put : Puts s.readings.list c.add-held.result c.add-held.new.self.list = subst (λ (l : List Held). Puts l c.add-held.result c.add-held.new.self.list) c.make_room.ensures.list c.add-held.ensures.added in
    let at = c.tag_of.ensures.at in
    rw (← c.self.view_is) (record {
      reads = record { kind_is = refl; instance_is = ap (λ (h : Home). h.instance) at; path_is = ap (λ (h : Home). h.path) at; size_is = ap (λ (h : Home). h.size) at; block_size_is = ap (λ (h : Home). h.block_size) at; client_is = ap (λ (p : Held). p.client) c.tag_of.ensures.held ∙ c.add-held.ensures.client };
      gains = rw (mark_at ReadingKind _ _ _ _ at c.tag_of.ensures.held) (gains_reading (home_of s.instance s.shelf) s.stays.list s.pins.list s.disks.list s.loan s.shelf.slots c.add-held.result s.readings.list c.add-held.new.self.list put);
      rest = rw (c.make_room.ensures.first, c.make_room.ensures.entries) refl;
    })
