use Rattle.std.proofs.Common.{refl, ◌∙◌, ap, subst, arith, List, length}
use Rattle.pfc_log.specs.declared.entry.Entry.TheVariants.{Opened}
use Rattle.pfc_core.specs.declared.held.Held.{Held}
use Rattle.pfc_core.specs.Marks.{StayKind}
use Rattle.pfc_core.specs.Held.{Puts}
use Rattle.pfc_core.specs.Out.{Home}
use Rattle.pfc_core.specs.Homes.{home_of}
use Rattle.pfc_core.proofs.Guests.{in_open}
use Rattle.pfc_core.proofs.Kept.{quiet_kept}
use Rattle.pfc_core.proofs.Rooms.{room_at_most, puts_length}
use Rattle.pfc_core.proofs.Outs.{gains_stay, mark_at}
use Rattle.pfc_core.proofs.Found.{found_more}
use Rattle.pfc_core.proofs.Said.{said_more}
use Rattle.pfc_core.proofs.Rooms.{alarm_most}
use Rattle.pfc_core.proofs.Turned.{turns_visit, turn_most}
use Rattle.pfc_core.proofs.Stays.{comes_in}
use Rattle.pfc_core.proofs.file.FileCore.attach.Goals as goal

pub invariant_of-self-2 : goal.invariant_of-self-2
invariant_of-self-2 g c = let s = c.self.inside in let was = c.self.invariant in
    let put : Puts s.stays.list c.add-held.result c.add-held.new.self.list = subst (λ (l : List Held). Puts l c.add-held.result c.add-held.new.self.list) c.make_room.ensures.list c.add-held.ensures.added in
    let room = c.in_ok-make_room.ensures.room in record {
      held = rw (c.push.ensures, c.make_room.ensures.first, c.make_room.ensures.entries) (quiet_kept _ _ _ _ _ (Opened c.args.n) was.held tt refl refl (λ i q. refl) (λ u. (refl, refl)) (λ i m u. (refl, refl)));
      guests = rw (c.push.ensures, c.make_room.ensures.entries) (in_open _ c.args.n c.add-held.result _ _ was.guests put c.add-held.ensures.client);
      found = rw (c.push.ensures, c.make_room.ensures.entries) (found_more _ _ _ was.found (λ i n. (refl, refl)));
      said = rw (c.push.ensures, c.make_room.ensures.first, c.make_room.ensures.entries) (said_more _ _ _ _ was.said refl refl);
      room = rw c.push.ensures (omega (arith, room, c.in_ok-others.ensures.sum, alarm_most s.sets, turn_most s.loan, room_at_most s.shelf.slots, puts_length _ _ _ put));
      sized = rw (c.push.ensures, c.make_room.ensures.first) was.sized;
      turns = rw (c.len-self-inside.ensures, c.push.ensures, c.make_room.ensures.first, c.make_room.ensures.entries) (turns_visit _ _ _ _ _ _ _ was.turns refl refl);
    }

pub returns-clause-ok : goal.returns-clause-ok
returns-clause-ok g c = let s = c.self.inside in
    let put : Puts s.stays.list c.add-held.result c.add-held.new.self.list = subst (λ (l : List Held). Puts l c.add-held.result c.add-held.new.self.list) c.make_room.ensures.list c.add-held.ensures.added in
    let at = c.tag_of.ensures.at in
    rw (← c.self.view_is) (record {
      stays = record { kind_is = refl; instance_is = ap (λ (h : Home). h.instance) at; path_is = ap (λ (h : Home). h.path) at; size_is = ap (λ (h : Home). h.size) at; block_size_is = ap (λ (h : Home). h.block_size) at; client_is = ap (λ (p : Held). p.client) c.tag_of.ensures.held ∙ c.add-held.ensures.client };
      gains = rw (mark_at StayKind _ _ _ _ at c.tag_of.ensures.held) (gains_stay (home_of s.instance s.shelf) s.readings.list s.pins.list s.disks.list s.loan s.shelf.slots c.add-held.result s.stays.list c.add-held.new.self.list put);
      enters = rw (c.push.ensures, c.make_room.ensures.first, c.make_room.ensures.entries, c.in_ok-come_in.ensures.ok, comes_in (home_of s.instance s.shelf) s.stays.list s.readings.list s.pins.list s.disks.list s.loan s.shelf.slots c.args.now c.len-4.result s.access (c.len-4.ensures.len ∙ ap length c.make_room.ensures.list)) refl;
    })
