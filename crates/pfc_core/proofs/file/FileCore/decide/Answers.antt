use Rattle.std.proofs.Common.{refl, ◌≡◌, ◌∙◌, sym, ap, subst, rules, arith, List, true, false, ◌+◌, ◌<◌, ℕ, length, Some, None}
use Rattle.pfc_log.specs.declared.entry.Entry.TheVariants.{Direct, Hit}
use Rattle.pfc_log.specs.declared.entry.Spot.TheVariants.{Disk}
use Rattle.pfc_log.specs.declared.entry.Way.TheVariants as way
use Rattle.pfc_log.specs.Lawful.{IsCached, IsUncached}
use Rattle.pfc_log.specs.Views.{bound, place, is_here, Away}
use Rattle.pfc_base.specs.BlockSet.{is_member}
use Rattle.pfc_core.specs.declared.held.Held.{Held}
use Rattle.pfc_core.specs.declared.slot.Slot.{Slot}
use Rattle.pfc_core.specs.Marks.{TicketKind, PinKind, DiskKind}
use Rattle.pfc_core.specs.Held.{Puts}
use Rattle.pfc_core.specs.Slots.{slot_of, Changes, room_of, bumped, fresh_slot}
use Rattle.pfc_core.specs.Out.{Home, out_of}
use Rattle.pfc_core.specs.Pinned.{PinnedBy}
use Rattle.pfc_core.specs.Tags.{home_in}
use Rattle.pfc_core.specs.Homes.{home_of}
use Rattle.pfc_core.specs.View.{why_of}
use Rattle.pfc_core.specs.Kept.{view_of}
use Rattle.pfc_core.proofs.Guests.{in_more}
use Rattle.pfc_core.proofs.Kept.{begin_kept, quiet_kept, away_at}
use Rattle.pfc_core.proofs.Rooms.{room_at_most, puts_length}
use Rattle.pfc_core.proofs.Found.{found_more, found_hit}
use Rattle.pfc_core.proofs.Said.{said_more, alarm_most}
use Rattle.pfc_core.proofs.Uncached.{uncached_start, cached_start, uncached_row}
use Rattle.pfc_core.proofs.Pinning.{pinned_kept, pinned_in, pinned_found, pinned_said, pinned_turns, pinned_length, pinned_decides}
use Rattle.pfc_core.proofs.Flown.{fetch_gains, pin_gains}
use Rattle.pfc_core.proofs.Outs.{gains_disk, home_moved, gains_at, mark_at}
use Rattle.pfc_core.proofs.Turned.{turns_more, turn_most}
use Rattle.pfc_core.proofs.file.FileCore.decide.Goals as goal

pub invariant_of-self-in-Some : goal.invariant_of-self-in-Some
invariant_of-self-in-Some g c = let s = c.self.inside in let was = c.self.invariant in let b = c.args.part.block in let n = c.args.n in let why = c.in-Some.why in
    let is : why_of c.make_room.new.log.first ≡ Some why = search rules in
    let direct : IsUncached s.log.first s.log.entries why = uncached_row s.log.first s.log.entries why (sym c.make_room.ensures.first ∙ uncached_start c.make_room.new.log.first why is) in
    let sum : c.in_ok-others.others ≡ length s.stays.list + length s.readings.list + length s.disks.list = search rules in
    let room = c.in_ok-make_room.ensures.room in record {
      held = rw (c.push.ensures, c.make_room.ensures.first, c.make_room.ensures.entries, c.make_room.ensures.list) (quiet_kept _ _ _ _ _ (Direct b n (way.Uncached why)) was.held direct refl refl (λ i q. refl) (λ u. (refl, refl)) (λ i m u. (refl, refl)));
      guests = rw (c.push.ensures, c.make_room.ensures.entries) (in_more _ _ _ was.guests (λ n. (refl, refl)));
      found = rw (c.push.ensures, c.make_room.ensures.entries, c.reserve.ensures.list) (found_more _ _ _ was.found (λ i n. (refl, refl)));
      said = rw (c.push.ensures, c.make_room.ensures.first, c.make_room.ensures.entries) (said_more _ _ _ _ was.said refl refl);
      room = rw (c.push.ensures, c.make_room.ensures.list, c.reserve.ensures.list) (omega (arith, room, sum, room_at_most s.shelf.slots, alarm_most s.sets, turn_most s.loan));
      sized = rw (c.push.ensures, c.make_room.ensures.first) was.sized;
      turns = rw (c.push.ensures, c.make_room.ensures.first, c.make_room.ensures.entries) (turns_more _ _ _ _ _ _ _ was.turns refl refl);
    }

pub invariant_of-self-in-Some-find : goal.invariant_of-self-in-Some-find
invariant_of-self-in-Some-find g c = let s = c.self.inside in let was = c.self.invariant in let n = c.args.n in let x = c.in-Some-find.slot in
    let there : slot_of x.block s.shelf.slots ≡ Some x = search rules in
    let moved : Changes x.block (Some x) (Some (bumped x)) s.shelf c.pin_on.new.shelf = c.pin_on.ensures.pinned in
    let pin = subst (λ (l : List Held). PinnedBy (home_of s.instance s.shelf) n x l c.pin_on.new.pins.list c.pin_on.result) c.make_room.ensures.list c.pin_on.ensures.pin in
    let sum : c.in_ok-others.others ≡ length s.stays.list + length s.readings.list + length s.disks.list = search rules in
    let room = c.in_ok-make_room.ensures.room in record {
      held = rw (c.pin_on.ensures.log, c.make_room.ensures.first, c.make_room.ensures.entries) (pinned_kept _ n x s.pins.list c.pin_on.new.pins.list c.pin_on.result pin s.log.first s.log.entries s.begun s.shelf.slots c.pin_on.new.shelf.slots was.held there moved.at);
      guests = rw (c.pin_on.ensures.log, c.make_room.ensures.entries) (pinned_in n x _ _ was.guests);
      found = rw (c.pin_on.ensures.log, c.make_room.ensures.entries, c.reserve.ensures.list) (pinned_found n x _ _ was.found);
      said = rw (c.pin_on.ensures.log, c.make_room.ensures.first, c.make_room.ensures.entries) (pinned_said n x _ _ _ was.said);
      room = rw (c.pin_on.ensures.log, c.reserve.ensures.list) (let same : room_of (bumped x) ≡ room_of x = refl in omega (arith, room, sum, room_at_most s.shelf.slots, alarm_most s.sets, turn_most s.loan, pinned_length _ n x s.pins.list c.pin_on.new.pins.list c.pin_on.result pin, moved.weighs room_of, same));
      sized = rw (c.pin_on.ensures.log, c.make_room.ensures.first, moved.size, moved.block_size) was.sized;
      turns = rw (c.pin_on.ensures.log, c.make_room.ensures.first, c.make_room.ensures.entries) (pinned_turns n x _ _ _ _ _ _ was.turns);
    }

pub returns-in-Some-find-clause-ok : goal.returns-in-Some-find-clause-ok
returns-in-Some-find-clause-ok g c = let s = c.self.inside in let was = c.self.invariant in let b = c.args.part.block in let n = c.args.n in let x = c.in-Some-find.slot in
    let there : slot_of b s.shelf.slots ≡ Some x = search rules in let block : x.block ≡ b = search rules in
    let moved : Changes x.block (Some x) (Some (bumped x)) s.shelf c.pin_on.new.shelf = c.pin_on.ensures.pinned in
    let pin = subst (λ (l : List Held). PinnedBy (home_of s.instance s.shelf) n x l c.pin_on.new.pins.list c.pin_on.result) c.make_room.ensures.list c.pin_on.ensures.pin in
    let is : why_of c.make_room.new.log.first ≡ None = search rules in
    let cached : IsCached s.log.first = subst IsCached c.make_room.ensures.first (cached_start c.make_room.new.log.first is) in
    rw (← c.self.view_is, moved.path, moved.size, moved.block_size, c.reserve.ensures.list) (
    pinned_decides (view_of s) _ n b s.begun x s.shelf.slots s.pins.list c.pin_on.new.pins.list was.held there block
    (λ p put. pin_gains (home_of s.instance s.shelf) s.stays.list s.readings.list s.pins.list c.pin_on.new.pins.list s.disks.list s.loan p s.shelf c.pin_on.new.shelf put x.block x moved)
    c.args.part c.pin_on.result refl pin cached (rw (c.pin_on.ensures.log, c.make_room.ensures.first, c.make_room.ensures.entries) refl)
    )

pub invariant_of-self-then-has : goal.invariant_of-self-then-has
invariant_of-self-then-has g c = let s = c.self.inside in let was = c.self.invariant in let b = c.args.part.block in let n = c.args.n in
    let none : slot_of b s.shelf.slots ≡ None = search rules in
    let away : place b s.log.entries ≡ Away = away_at _ _ _ b s.shelf.slots s.pins.list was.held none in
    let has : is_member s.sets.stored b ≡ true = search rules in
    let put : Puts s.disks.list c.add-held.result c.add-held.new.self.list = subst (λ (l : List Held). Puts l c.add-held.result c.add-held.new.self.list) c.reserve.ensures.list c.add-held.ensures.added in
    let sum : c.in_ok-others.others ≡ length s.stays.list + length s.readings.list + length s.disks.list = search rules in
    let room = c.in_ok-make_room.ensures.room in record {
      held = rw (c.push-then-has.ensures, c.make_room.ensures.first, c.make_room.ensures.entries, c.make_room.ensures.list) (quiet_kept _ _ _ _ _ (Hit b Disk n) was.held (was.held.well.is_on, (sym (was.said.stored_is b) ∙ has, ap is_here away)) refl refl (λ i q. refl) (λ u. (refl, refl)) (λ i m u. (refl, refl)));
      guests = rw (c.push-then-has.ensures, c.make_room.ensures.entries) (in_more _ _ _ was.guests (λ n. (refl, refl)));
      found = rw (c.push-then-has.ensures, c.make_room.ensures.entries) (found_hit _ c.add-held.result b n _ _ was.found put c.add-held.ensures.block c.add-held.ensures.client);
      said = rw (c.push-then-has.ensures, c.make_room.ensures.first, c.make_room.ensures.entries) (said_more _ _ _ _ was.said refl refl);
      room = rw (c.push-then-has.ensures, c.make_room.ensures.list) (omega (arith, room, sum, room_at_most s.shelf.slots, alarm_most s.sets, turn_most s.loan, puts_length _ _ _ put));
      sized = rw (c.push-then-has.ensures, c.make_room.ensures.first) was.sized;
      turns = rw (c.push-then-has.ensures, c.make_room.ensures.first, c.make_room.ensures.entries) (turns_more _ _ _ _ _ _ _ was.turns refl refl);
    }

pub returns-then-has-clause-ok : goal.returns-then-has-clause-ok
returns-then-has-clause-ok g c = let s = c.self.inside in let was = c.self.invariant in let b = c.args.part.block in let n = c.args.n in
    let none : slot_of b s.shelf.slots ≡ None = search rules in
    let has : is_member s.sets.stored b ≡ true = search rules in
    let is : why_of c.make_room.new.log.first ≡ None = search rules in
    let put : Puts s.disks.list c.add-held.result c.add-held.new.self.list = subst (λ (l : List Held). Puts l c.add-held.result c.add-held.new.self.list) c.reserve.ensures.list c.add-held.ensures.added in
    let h = home_of s.instance s.shelf in let at = c.tag_of-tag.ensures.at in let same = c.tag_of-tag.ensures.held in
    rw (← c.self.view_is, c.make_room.ensures.list) (record {
      cached = subst IsCached c.make_room.ensures.first (cached_start c.make_room.new.log.first is);
      away = away_at _ _ _ b s.shelf.slots s.pins.list was.held none;
      stored = has;
      found = record { kind_is = refl; instance_is = ap (λ (h : Home). h.instance) at; path_is = ap (λ (h : Home). h.path) at; size_is = ap (λ (h : Home). h.size) at; block_size_is = ap (λ (h : Home). h.block_size) at; client_is = ap (λ (p : Held). p.client) same ∙ c.add-held.ensures.client };
      block_is = ap (λ (p : Held). p.block) same ∙ c.add-held.ensures.block;
      gains = gains_at DiskKind (home_in c.tag_of-tag.result) h c.tag_of-tag.result.held c.add-held.result (view_of s).out (out_of h s.stays.list s.readings.list s.pins.list c.add-held.new.self.list s.loan s.shelf.slots) at same (gains_disk h s.stays.list s.readings.list s.pins.list s.loan s.shelf.slots c.add-held.result s.disks.list c.add-held.new.self.list put);
      enters = rw (c.push-then-has.ensures, c.make_room.ensures.first, c.make_room.ensures.entries) refl;
    })

pub invariant_of-self-3 : goal.invariant_of-self-3
invariant_of-self-3 g c = let s = c.self.inside in let was = c.self.invariant in let b = c.args.part.block in let n = c.args.n in let t = c.self.inside.begun in
    let none : slot_of b s.shelf.slots ≡ None = search rules in
    let absent : is_member s.sets.stored b ≡ false = search rules in
    let is : why_of c.make_room.new.log.first ≡ None = search rules in
    let cached : IsCached s.log.first = subst IsCached c.make_room.ensures.first (cached_start c.make_room.new.log.first is) in
    let moved : Changes b None (Some (fresh_slot b t n)) s.shelf c.begin.new.self = subst (λ (y : Slot). Changes y.block None (Some y) s.shelf c.begin.new.self) c.fresh.ensures c.in_ok-begin.ensures.ok in
    let put : Puts s.pins.list c.add-pin.result c.add-pin.new.self.list = subst (λ (l : List Held). Puts l c.add-pin.result c.add-pin.new.self.list) c.make_room.ensures.list c.add-pin.ensures.added in
    let low : b < bound s.log.first = subst (λ (k : ℕ). b < k) (sym (was.sized.start cached)) (rw (← c.self.view_is) at c.requires.block) in
    let sum : c.in_ok-others.others ≡ length s.stays.list + length s.readings.list + length s.disks.list = search rules in
    let room = c.in_ok-make_room.ensures.room in record {
      held = rw (c.push-2.ensures, c.make_room.ensures.first, c.make_room.ensures.entries) (begin_kept _ _ _ s.shelf.slots c.begin.new.self.slots s.pins.list c.add-pin.new.self.list b n c.add-pin.result was.held put none moved.at c.add-pin.ensures.block c.add-pin.ensures.flight c.add-pin.ensures.client c.add-pin.ensures.owner cached low (sym (was.said.stored_is b) ∙ absent));
      guests = rw (c.push-2.ensures, c.make_room.ensures.entries) (in_more _ _ _ was.guests (λ n. (refl, refl)));
      found = rw (c.push-2.ensures, c.make_room.ensures.entries, c.reserve.ensures.list) (found_more _ _ _ was.found (λ i n. (refl, refl)));
      said = rw (c.push-2.ensures, c.make_room.ensures.first, c.make_room.ensures.entries) (said_more _ _ _ _ was.said refl refl);
      room = rw (c.push-2.ensures, c.reserve.ensures.list) (omega (arith, room, sum, room_at_most s.shelf.slots, alarm_most s.sets, turn_most s.loan, puts_length _ _ _ put, moved.weighs room_of));
      sized = rw (c.push-2.ensures, c.make_room.ensures.first, moved.size, moved.block_size) was.sized;
      turns = rw (c.push-2.ensures, c.make_room.ensures.first, c.make_room.ensures.entries) (turns_more _ _ _ _ _ _ _ was.turns refl refl);
    }

pub returns-clause-ok : goal.returns-clause-ok
returns-clause-ok g c = let s = c.self.inside in let was = c.self.invariant in let b = c.args.part.block in let n = c.args.n in let t = c.self.inside.begun in
    let none : slot_of b s.shelf.slots ≡ None = search rules in
    let absent : is_member s.sets.stored b ≡ false = search rules in
    let is : why_of c.make_room.new.log.first ≡ None = search rules in
    let moved : Changes b None (Some (fresh_slot b t n)) s.shelf c.begin.new.self = subst (λ (y : Slot). Changes y.block None (Some y) s.shelf c.begin.new.self) c.fresh.ensures c.in_ok-begin.ensures.ok in
    let put : Puts s.pins.list c.add-pin.result c.add-pin.new.self.list = subst (λ (l : List Held). Puts l c.add-pin.result c.add-pin.new.self.list) c.make_room.ensures.list c.add-pin.ensures.added in
    let h = home_of s.instance s.shelf in
    let same = home_moved s.instance b None (Some (fresh_slot b t n)) s.shelf c.begin.new.self moved in
    let at = c.tag_of.ensures.at ∙ same in let pin_at = c.tag_of-2.ensures.at ∙ same in let ticket_is = c.tag_of.ensures.held in let pin_is = c.tag_of-2.ensures.held in
    rw (← c.self.view_is, moved.path, moved.size, moved.block_size, c.reserve.ensures.list) (record {
      cached = subst IsCached c.make_room.ensures.first (cached_start c.make_room.new.log.first is);
      away = away_at _ _ _ b s.shelf.slots s.pins.list was.held none;
      absent = absent;
      fetches = record { kind_is = refl; instance_is = ap (λ (h : Home). h.instance) at; path_is = ap (λ (h : Home). h.path) at; size_is = ap (λ (h : Home). h.size) at; block_size_is = ap (λ (h : Home). h.block_size) at; client_is = ap (λ (p : Held). p.client) ticket_is };
      pins = record { kind_is = refl; instance_is = ap (λ (h : Home). h.instance) pin_at; path_is = ap (λ (h : Home). h.path) pin_at; size_is = ap (λ (h : Home). h.size) pin_at; block_size_is = ap (λ (h : Home). h.block_size) pin_at; client_is = ap (λ (p : Held). p.client) pin_is ∙ c.add-pin.ensures.client };
      ticket_block = ap (λ (p : Held). p.block) ticket_is;
      pin_block = ap (λ (p : Held). p.block) pin_is ∙ c.add-pin.ensures.block;
      number_is = ap (λ (p : Held). p.number) ticket_is ∙ was.held.well.begun_is;
      ticket_flight = ap (λ (p : Held). p.flight) ticket_is ∙ sym (ap (λ (p : Held). p.number) ticket_is);
      pin_flight = ap (λ (p : Held). p.flight) pin_is ∙ c.add-pin.ensures.flight ∙ sym (ap (λ (p : Held). p.number) ticket_is);
      ticket_owner = ap (λ (p : Held). p.owner) ticket_is;
      pin_owner = ap (λ (p : Held). p.owner) pin_is ∙ c.add-pin.ensures.owner;
      gains = λ w. (let ticket = ap w (mark_at TicketKind _ _ _ _ at ticket_is) in let pin = ap w (mark_at PinKind _ _ _ _ pin_at pin_is) in
          let all = fetch_gains h s.stays.list s.readings.list s.pins.list c.add-pin.new.self.list s.disks.list s.loan c.add-pin.result s.shelf c.begin.new.self put b t n moved w in omega (arith, ticket, pin, all));
      enters = rw (c.push-2.ensures, c.make_room.ensures.first, c.make_room.ensures.entries, ap (λ (p : Held). p.number) ticket_is) refl;
    })
