use Rattle.std.proofs.Common.{refl, ◌≡◌, ◌≢◌, ◌∙◌, sym, ap, subst, rules, arith, [], ◌∷◌, ◌++◌, Bool, ℕ, Some, None, if◌then◌else◌}
use Rattle.pfc_log.specs.declared.entry.Entry.TheVariants.{Left}
use Rattle.pfc_core.specs.declared.slot.Slot.{Slot}
use Rattle.pfc_core.specs.Marks.{PinKind}
use Rattle.pfc_core.specs.Held.{Takes}
use Rattle.pfc_core.specs.Slots.{slot_of, Changes, room_of, lowered}
use Rattle.pfc_core.specs.Out.{out_of}
use Rattle.pfc_core.specs.Tags.{home_in}
use Rattle.pfc_core.specs.Homes.{home_of}
use Rattle.pfc_core.specs.Kept.{view_of}
use Rattle.pfc_core.proofs.Guests.{in_more}
use Rattle.pfc_core.proofs.Bare.{apart_none, apart_other}
use Rattle.pfc_core.proofs.Kept.{gone_kept, less_kept, left_kept}
use Rattle.pfc_core.proofs.Rooms.{takes_length, room_some}
use Rattle.pfc_core.proofs.Leaving.{leaves_none, leaves_not, leaves_so, not_last, last_is}
use Rattle.pfc_core.proofs.Flown.{loses_pin, less_loses, left_loses}
use Rattle.pfc_core.proofs.Outs.{loses_at, unlisted_pin, unlisted_elsewhere, at_home}
use Rattle.pfc_core.proofs.Found.{found_more}
use Rattle.pfc_core.proofs.Said.{said_more}
use Rattle.pfc_core.proofs.Turned.{turns_more}
use Rattle.pfc_core.proofs.file.FileCore.release.Goals as goal

pub returns-then-not-is_of-clause-no : goal.returns-then-not-is_of-clause-no
returns-then-not-is_of-clause-no g c = let s = c.self.inside in
    rw (← c.self.view_is, ← c.pin.view_is) (λ _. unlisted_elsewhere PinKind (home_in c.pin.inside.tag) (home_of s.instance s.shelf) c.pin.inside.tag.held s.stays.list s.readings.list s.pins.list s.disks.list s.loan s.shelf.slots c.if-not-is_of.ensures)

pub returns-then-not-take-clause-no : goal.returns-then-not-take-clause-no
returns-then-not-take-clause-no g c = let s = c.self.inside in let at = c.if-not-is_of.ensures in
    rw (← c.self.view_is, ← c.pin.view_is) (λ _. at_home PinKind (home_in c.pin.inside.tag) (home_of s.instance s.shelf) c.pin.inside.tag.held (view_of s).out at (unlisted_pin (home_of s.instance s.shelf) c.pin.inside.tag.held s.stays.list s.readings.list s.pins.list s.disks.list s.loan s.shelf.slots (c.if-not-take.ensures.no refl)))

pub invariant_of-self-in_default : goal.invariant_of-self-in_default
invariant_of-self-in_default g c = let s = c.self.inside in let was = c.self.invariant in let p = c.pin.inside.tag.held in let take : Takes p s.pins.list c.take.new.self.list = c.if-not-take.ensures.yes refl in
    let none : slot_of p.block s.shelf.slots ≡ None = search rules in record {
      held = gone_kept _ _ _ _ _ _ p was.held take (apart_none p _ none);
      guests = was.guests;
      found = was.found;
      said = was.said;
      room = omega (arith, was.room, takes_length _ _ _ take);
      sized = was.sized;
      turns = was.turns;
    }

pub returns-in_default-clause-yes : goal.returns-in_default-clause-yes
returns-in_default-clause-yes g c = let s = c.self.inside in let was = c.self.invariant in let p = c.pin.inside.tag.held in let take : Takes p s.pins.list c.take.new.self.list = c.if-not-take.ensures.yes refl in
    let h = home_of s.instance s.shelf in let at = c.if-not-is_of.ensures in
    let none : slot_of p.block s.shelf.slots ≡ None = search rules in
    rw (← c.self.view_is, ← c.pin.view_is) (λ _. record {
      loses = loses_at PinKind (home_in c.pin.inside.tag) h p p (view_of s).out (out_of h s.stays.list s.readings.list c.take.new.self.list s.disks.list s.loan s.shelf.slots) at refl (loses_pin h s.stays.list s.readings.list s.disks.list s.loan p s.pins.list c.take.new.self.list s.shelf.slots take);
      enters = (ap (λ (q : Bool). record (view_of s) { entries = if q then s.log.entries ++ Left p.block ∷ [] else s.log.entries; out = out_of h s.stays.list s.readings.list c.take.new.self.list s.disks.list s.loan s.shelf.slots }) (sym (leaves_none s.log.entries p.block p.flight h s.stays.list s.readings.list s.pins.list s.disks.list s.loan s.shelf.slots c.find.ensures.single (was.held.tied.fine p.block) none)));
    })

pub invariant_of-self-then-slot-held : goal.invariant_of-self-then-slot-held
invariant_of-self-then-slot-held g c = let s = c.self.inside in let was = c.self.invariant in let p = c.pin.inside.tag.held in let take : Takes p s.pins.list c.take.new.self.list = c.if-not-take.ensures.yes refl in
    let x = c.in-Some.slot in let there : slot_of p.block s.shelf.slots ≡ Some x = search rules in let block : x.block ≡ p.block = search rules in
    let apart : x.ticket ≢ p.flight = search rules in record {
      held = gone_kept _ _ _ _ _ _ p was.held take (apart_other p _ x there apart);
      guests = was.guests;
      found = was.found;
      said = was.said;
      room = omega (arith, was.room, takes_length _ _ _ take);
      sized = was.sized;
      turns = was.turns;
    }

pub returns-then-slot-held-clause-yes : goal.returns-then-slot-held-clause-yes
returns-then-slot-held-clause-yes g c = let s = c.self.inside in let was = c.self.invariant in let p = c.pin.inside.tag.held in let take : Takes p s.pins.list c.take.new.self.list = c.if-not-take.ensures.yes refl in
    let h = home_of s.instance s.shelf in let at = c.if-not-is_of.ensures in
    let x = c.in-Some.slot in let there : slot_of p.block s.shelf.slots ≡ Some x = search rules in let block : x.block ≡ p.block = search rules in
    let apart : x.ticket ≢ p.flight = search rules in
    rw (← c.self.view_is, ← c.pin.view_is) (λ _. record {
      loses = loses_at PinKind (home_in c.pin.inside.tag) h p p (view_of s).out (out_of h s.stays.list s.readings.list c.take.new.self.list s.disks.list s.loan s.shelf.slots) at refl (loses_pin h s.stays.list s.readings.list s.disks.list s.loan p s.pins.list c.take.new.self.list s.shelf.slots take);
      enters = (ap (λ (q : Bool). record (view_of s) { entries = if q then s.log.entries ++ Left p.block ∷ [] else s.log.entries; out = out_of h s.stays.list s.readings.list c.take.new.self.list s.disks.list s.loan s.shelf.slots }) (sym (leaves_not s.log.entries p.block p.flight h s.stays.list s.readings.list s.pins.list s.disks.list s.loan s.shelf.slots x c.find.ensures.single (was.held.tied.fine p.block) there (λ e l d n. apart e))));
    })

pub invariant_of-self-then-is_last : goal.invariant_of-self-then-is_last
invariant_of-self-then-is_last g c = let s = c.self.inside in let was = c.self.invariant in let p = c.pin.inside.tag.held in let take : Takes p s.pins.list c.take.new.self.list = c.if-not-take.ensures.yes refl in
    let x = c.in-Some.slot in let there : slot_of p.block s.shelf.slots ≡ Some x = search rules in let block : x.block ≡ p.block = search rules in
    let moved : Changes p.block (Some x) None s.shelf c.remove.new.self = subst (λ (k : ℕ). Changes k (Some x) None s.shelf c.remove.new.self) block c.remove.ensures in
    let last = last_is x (sym c.is_last.ensures ∙ search rules) in let ticket : x.ticket ≡ p.flight = search rules in
    record {
      held = rw c.push.ensures (left_kept _ _ _ s.shelf.slots c.remove.new.self.slots s.pins.list c.take.new.self.list p x was.held take there moved.at ticket last.0 last.1 last.2);
      guests = rw c.push.ensures (in_more _ _ _ was.guests (λ n. (refl, refl)));
      found = rw c.push.ensures (found_more _ _ _ was.found (λ i n. (refl, refl)));
      said = rw c.push.ensures (said_more _ _ _ _ was.said refl refl);
      room = rw c.push.ensures (omega (arith, was.room, takes_length _ _ _ take, moved.weighs room_of, room_some x));
      sized = rw (c.push.ensures, moved.size, moved.block_size) was.sized;
      turns = rw c.push.ensures (turns_more _ _ _ _ _ _ _ was.turns refl refl);
    }

pub returns-then-is_last-clause-yes : goal.returns-then-is_last-clause-yes
returns-then-is_last-clause-yes g c = let s = c.self.inside in let was = c.self.invariant in let p = c.pin.inside.tag.held in let take : Takes p s.pins.list c.take.new.self.list = c.if-not-take.ensures.yes refl in
    let h = home_of s.instance s.shelf in let at = c.if-not-is_of.ensures in
    let x = c.in-Some.slot in let there : slot_of p.block s.shelf.slots ≡ Some x = search rules in let block : x.block ≡ p.block = search rules in
    let moved : Changes p.block (Some x) None s.shelf c.remove.new.self = subst (λ (k : ℕ). Changes k (Some x) None s.shelf c.remove.new.self) block c.remove.ensures in
    let last = last_is x (sym c.is_last.ensures ∙ search rules) in let ticket : x.ticket ≡ p.flight = search rules in
    rw (← c.self.view_is, ← c.pin.view_is, moved.path, moved.size, moved.block_size) (λ _. record {
      loses = loses_at PinKind (home_in c.pin.inside.tag) h p p (view_of s).out (out_of h s.stays.list s.readings.list c.take.new.self.list s.disks.list s.loan c.remove.new.self.slots) at refl (left_loses h s.stays.list s.readings.list s.disks.list s.loan p s.pins.list c.take.new.self.list p.block x s.shelf c.remove.new.self take moved last.0 last.1);
      enters = rw c.push.ensures (ap (λ (q : Bool). record (view_of s) { entries = if q then s.log.entries ++ Left p.block ∷ [] else s.log.entries; out = out_of h s.stays.list s.readings.list c.take.new.self.list s.disks.list s.loan c.remove.new.self.slots }) (sym (leaves_so s.log.entries p.block p.flight h s.stays.list s.readings.list s.pins.list s.disks.list s.loan s.shelf.slots x c.find.ensures.single (was.held.tied.fine p.block) there ticket last.0 last.1 last.2)));
    })

pub invariant_of-self-2 : goal.invariant_of-self-2
invariant_of-self-2 g c = let s = c.self.inside in let was = c.self.invariant in let p = c.pin.inside.tag.held in let take : Takes p s.pins.list c.take.new.self.list = c.if-not-take.ensures.yes refl in
    let x = c.in-Some.slot in let there : slot_of p.block s.shelf.slots ≡ Some x = search rules in let block : x.block ≡ p.block = search rules in
    let moved : Changes p.block (Some x) (Some (lowered x)) s.shelf c.change.new.self = subst (λ (k : ℕ). Changes k (Some x) (Some (lowered x)) s.shelf c.change.new.self) block (subst (λ (y : Slot). Changes y.block (Some x) (Some y) s.shelf c.change.new.self) c.unpinned.ensures c.change.ensures) in
    let stays = not_last x (sym c.is_last.ensures ∙ search rules) in let ticket : x.ticket ≡ p.flight = search rules in
    record {
      held = less_kept _ _ _ s.shelf.slots c.change.new.self.slots s.pins.list c.take.new.self.list p x was.held take there moved.at ticket stays;
      guests = was.guests;
      found = was.found;
      said = was.said;
      room = let same : room_of (lowered x) ≡ room_of x = refl in omega (arith, was.room, takes_length _ _ _ take, moved.weighs room_of, same);
      sized = rw (moved.size, moved.block_size) was.sized;
      turns = was.turns;
    }

pub returns-clause-yes : goal.returns-clause-yes
returns-clause-yes g c = let s = c.self.inside in let was = c.self.invariant in let p = c.pin.inside.tag.held in let take : Takes p s.pins.list c.take.new.self.list = c.if-not-take.ensures.yes refl in
    let h = home_of s.instance s.shelf in let at = c.if-not-is_of.ensures in
    let x = c.in-Some.slot in let there : slot_of p.block s.shelf.slots ≡ Some x = search rules in let block : x.block ≡ p.block = search rules in
    let moved : Changes p.block (Some x) (Some (lowered x)) s.shelf c.change.new.self = subst (λ (k : ℕ). Changes k (Some x) (Some (lowered x)) s.shelf c.change.new.self) block (subst (λ (y : Slot). Changes y.block (Some x) (Some y) s.shelf c.change.new.self) c.unpinned.ensures c.change.ensures) in
    let stays = not_last x (sym c.is_last.ensures ∙ search rules) in let ticket : x.ticket ≡ p.flight = search rules in
    rw (← c.self.view_is, ← c.pin.view_is, moved.path, moved.size, moved.block_size) (λ _. record {
      loses = loses_at PinKind (home_in c.pin.inside.tag) h p p (view_of s).out (out_of h s.stays.list s.readings.list c.take.new.self.list s.disks.list s.loan c.change.new.self.slots) at refl (less_loses h s.stays.list s.readings.list s.disks.list s.loan p s.pins.list c.take.new.self.list p.block x s.shelf c.change.new.self take moved);
      enters = (ap (λ (q : Bool). record (view_of s) { entries = if q then s.log.entries ++ Left p.block ∷ [] else s.log.entries; out = out_of h s.stays.list s.readings.list c.take.new.self.list s.disks.list s.loan c.change.new.self.slots }) (sym (leaves_not s.log.entries p.block p.flight h s.stays.list s.readings.list s.pins.list s.disks.list s.loan s.shelf.slots x c.find.ensures.single (was.held.tied.fine p.block) there (λ e. stays))));
    })
