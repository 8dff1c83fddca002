use Rattle.std.proofs.Common.{refl, ◌≡◌, subst, rules, arith, true, false, ◌<◌, ℕ, length, Some}
use Rattle.pfc_base.specs.BlockSet.{is_member}
use Rattle.pfc_log.specs.Lawful.{IsUnfrozen}
use Rattle.pfc_log.specs.Views.{place, is_here}
use Rattle.pfc_core.specs.declared.slot.Slot.{Slot}
use Rattle.pfc_core.specs.Slots.{slot_of, Changes, room_of, written_slot}
use Rattle.pfc_core.specs.Homes.{home_of}
use Rattle.pfc_core.proofs.Guests.{in_more}
use Rattle.pfc_core.proofs.Kept.{wrote_kept}
use Rattle.pfc_core.proofs.Rooms.{room_written}
use Rattle.pfc_core.proofs.Found.{found_more}
use Rattle.pfc_core.proofs.Said.{said_write}
use Rattle.pfc_core.proofs.Written.{here_landed, unwritten, write_row}
use Rattle.pfc_core.proofs.Flown.{written_out}
use Rattle.pfc_core.proofs.Turned.{turns_more}
use Rattle.pfc_core.proofs.file.FileCore.enter_write.Goals as goal

pub invariant_of-self : goal.invariant_of-self
invariant_of-self g c = let s = c.self.inside in let was = c.self.invariant in let b = c.args.block in let x = c.in-Some.slot in
    let there : slot_of b s.shelf.slots ≡ Some x = search rules in let block : x.block ≡ b = search rules in
    let here : is_here (place b s.log.entries) ≡ true = rw (← c.self.view_is) at c.requires.here in
    let absent : is_member s.sets.stored b ≡ false = rw (← c.self.view_is) at c.requires.absent in
    let low : b < length s.sets.stored = rw (← c.self.view_is) at c.requires.low in
    let cold : IsUnfrozen s.log.entries = rw (← c.self.view_is) at c.requires.thawed in
    let landed = here_landed _ _ _ b s.shelf.slots s.pins.list was.held x there here in
    let fresh = unwritten _ _ _ b s.shelf.slots s.pins.list was.held s.sets was.said cold absent x there in
    let moved : Changes b (Some x) (Some (written_slot x)) s.shelf c.change.new.self = subst (λ (k : ℕ). Changes k (Some x) (Some (written_slot x)) s.shelf c.change.new.self) block (subst (λ (y : Slot). Changes y.block (Some x) (Some y) s.shelf c.change.new.self) c.written.ensures c.change.ensures) in record {
      held = rw c.push.ensures (wrote_kept _ _ _ s.shelf.slots c.change.new.self.slots s.pins.list b x was.held (write_row _ _ _ b s.shelf.slots s.pins.list was.held s.sets was.said cold absent here) there moved.at landed);
      guests = rw c.push.ensures (in_more _ _ _ was.guests (λ n. (refl, refl)));
      found = rw c.push.ensures (found_more _ _ _ was.found (λ i n. (refl, refl)));
      said = rw (c.push.ensures, c.write.ensures) (said_write _ _ b s.sets was.said cold low);
      room = rw (c.push.ensures, c.write.ensures) (omega (arith, was.room, moved.weighs room_of, room_written x landed fresh));
      sized = rw (c.push.ensures, moved.size, moved.block_size) was.sized;
      turns = rw (c.push.ensures, c.write.ensures) (turns_more _ _ _ _ _ _ _ was.turns refl refl);
    }

pub returns : goal.returns
returns g c = let s = c.self.inside in let b = c.args.block in let x = c.in-Some.slot in
    let block : x.block ≡ b = search rules in
    let moved : Changes b (Some x) (Some (written_slot x)) s.shelf c.change.new.self = subst (λ (k : ℕ). Changes k (Some x) (Some (written_slot x)) s.shelf c.change.new.self) block (subst (λ (y : Slot). Changes y.block (Some x) (Some y) s.shelf c.change.new.self) c.written.ensures c.change.ensures) in
    rw (← c.self.view_is, moved.path, moved.size, moved.block_size) (record {
      same = written_out (home_of s.instance s.shelf) s.stays.list s.readings.list s.disks.list s.loan s.pins.list b x s.shelf c.change.new.self moved;
      enters = rw (c.push.ensures, c.write.ensures) refl;
    })
