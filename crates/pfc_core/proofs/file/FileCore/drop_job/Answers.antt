use Rattle.std.proofs.Common.{refl, ◌≡◌, ◌≢◌, ◌∙◌, sym, ap, subst, rules, arith, [], ◌∷◌, ◌++◌, true, false, Bool, ℕ, Some, None, eq-eqb, ne_eqb, ◌==◌, if◌then◌else◌, inl}
use Rattle.pfc_log.specs.declared.entry.Entry.TheVariants.{Left, Dropped}
use Rattle.pfc_log.specs.Lawful.{MayDrop}
use Rattle.pfc_core.specs.declared.held.Held.{Held}
use Rattle.pfc_core.specs.declared.slot.Slot.{Slot}
use Rattle.pfc_core.specs.Marks.{JobKind}
use Rattle.pfc_core.specs.Leaves.{pins_on}
use Rattle.pfc_core.specs.Slots.{slot_of, Changes, room_of, ended_slot}
use Rattle.pfc_core.specs.Out.{flight_of, out_of}
use Rattle.pfc_core.specs.Tags.{home_in}
use Rattle.pfc_core.specs.Homes.{home_of}
use Rattle.pfc_core.specs.Kept.{view_of}
use Rattle.pfc_core.proofs.Guests.{in_more}
use Rattle.pfc_core.proofs.Kept.{drop_kept, drop_left_kept}
use Rattle.pfc_core.proofs.Rooms.{room_waits, room_ended, slot_in_sum}
use Rattle.pfc_core.proofs.Leaving.{pins_on_is, pins_are}
use Rattle.pfc_core.proofs.Found.{found_more}
use Rattle.pfc_core.proofs.Said.{said_more}
use Rattle.pfc_core.proofs.Flown.{end_loses, end_left_loses, unlisted_job}
use Rattle.pfc_core.proofs.Outs.{loses_at, unlisted_elsewhere, at_home}
use Rattle.pfc_core.proofs.Turned.{turns_more}
use Rattle.pfc_core.proofs.file.FileCore.drop_job.Goals as goal

pub returns-then-not-is_of-clause-strayed : goal.returns-then-not-is_of-clause-strayed
returns-then-not-is_of-clause-strayed g c = let s = c.self.inside in
    rw (← c.self.view_is, ← c.job.view_is) (record {
      back = refl;
      why_is = c.stranger-unknown.ensures;
      unchanged = refl;
      cause = inl (unlisted_elsewhere JobKind (home_in c.job.inside.tag) (home_of s.instance s.shelf) c.job.inside.tag.held s.stays.list s.readings.list s.pins.list s.disks.list s.loan s.shelf.slots c.if-not-is_of.ensures);
    })

pub returns-in_default-clause-strayed : goal.returns-in_default-clause-strayed
returns-in_default-clause-strayed g c = let s = c.self.inside in let p = c.job.inside.tag.held in let at = c.if-not-is_of.ensures in
    let none : (x : Slot) → slot_of p.block s.shelf.slots ≡ Some x → x.landed ≡ true → x.job ≡ true → flight_of x ≡ p → ⊥ = search rules in
    rw (← c.self.view_is, ← c.job.view_is) (record {
      back = refl;
      why_is = c.stranger-unknown.ensures;
      unchanged = refl;
      cause = inl (at_home JobKind (home_in c.job.inside.tag) (home_of s.instance s.shelf) p (view_of s).out at (unlisted_job (home_of s.instance s.shelf) p s.stays.list s.readings.list s.pins.list s.disks.list s.loan s.shelf.slots c.find_waiting.ensures.single none));
    })

pub push-requires : goal.push-requires
push-requires g c = let s = c.self.inside in let was = c.self.invariant in let p = c.job.inside.tag.held in let x = c.in-Some.slot in
    let there : slot_of p.block s.shelf.slots ≡ Some x = search rules in let l : x.landed ≡ true = search rules in let d : x.job ≡ true = search rules in
    omega (arith, was.room, slot_in_sum room_of p.block s.shelf.slots x there, room_waits x l d)

pub invariant_of-self : goal.invariant_of-self
invariant_of-self g c = let s = c.self.inside in let was = c.self.invariant in let p = c.job.inside.tag.held in let x = c.in-Some.slot in
    let got : (slot_of p.block s.shelf.slots ≡ Some x) × (x.landed ≡ true) × (x.job ≡ true) × (flight_of x ≡ p) = search rules in
    let block : x.block ≡ p.block = ap (λ (q : Held). q.block) got.3 in
    let there : slot_of x.block s.shelf.slots ≡ Some x = subst (λ (k : ℕ). slot_of k s.shelf.slots ≡ Some x) (sym block) got.0 in
    let may : MayDrop s.log.entries c.args.why = rw (← c.self.view_is) at c.if-not-may_drop.ensures in
    let moved : Changes x.block (Some x) None s.shelf c.remove.new.self = c.remove.ensures in
    let zero_is : x.pins ≡ 0 = search rules in
    record {
      held = rw (c.push-then-slot-eq0.ensures, c.push.ensures) (drop_left_kept _ _ _ s.shelf.slots c.remove.new.self.slots s.pins.list x.block c.args.why x was.held may there moved.at got.1 zero_is);
      guests = rw (c.push-then-slot-eq0.ensures, c.push.ensures) (in_more _ _ _ (in_more _ _ _ was.guests (λ n. (refl, refl))) (λ n. (refl, refl)));
      found = rw (c.push-then-slot-eq0.ensures, c.push.ensures) (found_more _ _ _ (found_more _ _ _ was.found (λ i n. (refl, refl))) (λ i n. (refl, refl)));
      said = rw (c.push-then-slot-eq0.ensures, c.push.ensures) (said_more _ _ _ _ (said_more _ _ _ _ was.said refl refl) refl refl);
      room = rw (c.push-then-slot-eq0.ensures, c.push.ensures) (omega (arith, was.room, moved.weighs room_of, room_waits x got.1 got.2));
      sized = rw (c.push-then-slot-eq0.ensures, c.push.ensures, moved.size, moved.block_size) was.sized;
      turns = rw (c.push-then-slot-eq0.ensures, c.push.ensures) (turns_more _ _ _ _ _ _ _ (turns_more _ _ _ _ _ _ _ was.turns refl refl) refl refl);
    }

pub returns-then-slot-eq0-clause-ok : goal.returns-then-slot-eq0-clause-ok
returns-then-slot-eq0-clause-ok g c = let s = c.self.inside in let was = c.self.invariant in let p = c.job.inside.tag.held in let x = c.in-Some.slot in
    let got : (slot_of p.block s.shelf.slots ≡ Some x) × (x.landed ≡ true) × (x.job ≡ true) × (flight_of x ≡ p) = search rules in
    let block : x.block ≡ p.block = ap (λ (q : Held). q.block) got.3 in
    let there : slot_of x.block s.shelf.slots ≡ Some x = subst (λ (k : ℕ). slot_of k s.shelf.slots ≡ Some x) (sym block) got.0 in
    let may : MayDrop s.log.entries c.args.why = rw (← c.self.view_is) at c.if-not-may_drop.ensures in
    let h = home_of s.instance s.shelf in let at = c.if-not-is_of.ensures in
    let ticket : x.ticket ≡ p.flight = ap (λ (q : Held). q.flight) got.3 in
    let count : pins_on p.block p.flight (view_of s).out ≡ x.pins = pins_on_is p.block p.flight h s.stays.list s.readings.list s.pins.list s.disks.list s.loan s.shelf.slots ∙ sym (pins_are _ _ _ p.block p.flight s.shelf.slots s.pins.list x was.held got.0 ticket) in
    let moved : Changes x.block (Some x) None s.shelf c.remove.new.self = c.remove.ensures in
    let zero_is : x.pins ≡ 0 = search rules in
    let test : (0 == pins_on p.block p.flight (view_of s).out) ≡ true = eq-eqb 0 (pins_on p.block p.flight (view_of s).out) (sym (count ∙ zero_is)) in
    rw (← c.self.view_is, ← c.job.view_is, moved.path, moved.size, moved.block_size) (record {
      may = may;
      loses = loses_at JobKind (home_in c.job.inside.tag) h p (flight_of x) (view_of s).out (out_of h s.stays.list s.readings.list s.pins.list s.disks.list s.loan c.remove.new.self.slots) at (sym got.3) (end_left_loses h s.stays.list s.readings.list s.disks.list s.loan s.pins.list x.block x s.shelf c.remove.new.self moved got.1 got.2);
      enters = rw (c.push-then-slot-eq0.ensures, c.push.ensures, block) (ap (λ (q : Bool). record (view_of s) { entries = if q then s.log.entries ++ Dropped p.block c.args.why ∷ [] ++ Left p.block ∷ [] else s.log.entries ++ Dropped p.block c.args.why ∷ []; out = (out_of h s.stays.list s.readings.list s.pins.list s.disks.list s.loan c.remove.new.self.slots) }) (sym test));
    })

pub invariant_of-self-2 : goal.invariant_of-self-2
invariant_of-self-2 g c = let s = c.self.inside in let was = c.self.invariant in let p = c.job.inside.tag.held in let x = c.in-Some.slot in
    let got : (slot_of p.block s.shelf.slots ≡ Some x) × (x.landed ≡ true) × (x.job ≡ true) × (flight_of x ≡ p) = search rules in
    let block : x.block ≡ p.block = ap (λ (q : Held). q.block) got.3 in
    let there : slot_of x.block s.shelf.slots ≡ Some x = subst (λ (k : ℕ). slot_of k s.shelf.slots ≡ Some x) (sym block) got.0 in
    let may : MayDrop s.log.entries c.args.why = rw (← c.self.view_is) at c.if-not-may_drop.ensures in
    let moved : Changes x.block (Some x) (Some (ended_slot x)) s.shelf c.change.new.self = subst (λ (y : Slot). Changes y.block (Some x) (Some y) s.shelf c.change.new.self) c.ended.ensures c.change.ensures in
    let some : x.pins ≢ 0 = search rules in
    record {
      held = rw c.push.ensures (drop_kept _ _ _ s.shelf.slots c.change.new.self.slots s.pins.list x.block c.args.why x was.held may there moved.at got.1 (omega (arith, some)));
      guests = rw c.push.ensures (in_more _ _ _ was.guests (λ n. (refl, refl)));
      found = rw c.push.ensures (found_more _ _ _ was.found (λ i n. (refl, refl)));
      said = rw c.push.ensures (said_more _ _ _ _ was.said refl refl);
      room = rw c.push.ensures (omega (arith, was.room, moved.weighs room_of, room_ended x got.1 got.2));
      sized = rw (c.push.ensures, moved.size, moved.block_size) was.sized;
      turns = rw c.push.ensures (turns_more _ _ _ _ _ _ _ was.turns refl refl);
    }

pub returns-clause-ok : goal.returns-clause-ok
returns-clause-ok g c = let s = c.self.inside in let was = c.self.invariant in let p = c.job.inside.tag.held in let x = c.in-Some.slot in
    let got : (slot_of p.block s.shelf.slots ≡ Some x) × (x.landed ≡ true) × (x.job ≡ true) × (flight_of x ≡ p) = search rules in
    let block : x.block ≡ p.block = ap (λ (q : Held). q.block) got.3 in
    let there : slot_of x.block s.shelf.slots ≡ Some x = subst (λ (k : ℕ). slot_of k s.shelf.slots ≡ Some x) (sym block) got.0 in
    let may : MayDrop s.log.entries c.args.why = rw (← c.self.view_is) at c.if-not-may_drop.ensures in
    let h = home_of s.instance s.shelf in let at = c.if-not-is_of.ensures in
    let ticket : x.ticket ≡ p.flight = ap (λ (q : Held). q.flight) got.3 in
    let count : pins_on p.block p.flight (view_of s).out ≡ x.pins = pins_on_is p.block p.flight h s.stays.list s.readings.list s.pins.list s.disks.list s.loan s.shelf.slots ∙ sym (pins_are _ _ _ p.block p.flight s.shelf.slots s.pins.list x was.held got.0 ticket) in
    let moved : Changes x.block (Some x) (Some (ended_slot x)) s.shelf c.change.new.self = subst (λ (y : Slot). Changes y.block (Some x) (Some y) s.shelf c.change.new.self) c.ended.ensures c.change.ensures in
    let some : x.pins ≢ 0 = search rules in
    let test : (0 == pins_on p.block p.flight (view_of s).out) ≡ false = ne_eqb 0 (pins_on p.block p.flight (view_of s).out) (λ e. some (sym count ∙ sym e)) in
    rw (← c.self.view_is, ← c.job.view_is, moved.path, moved.size, moved.block_size) (record {
      may = may;
      loses = loses_at JobKind (home_in c.job.inside.tag) h p (flight_of x) (view_of s).out (out_of h s.stays.list s.readings.list s.pins.list s.disks.list s.loan c.change.new.self.slots) at (sym got.3) (end_loses h s.stays.list s.readings.list s.disks.list s.loan s.pins.list x.block x s.shelf c.change.new.self moved got.1 got.2);
      enters = rw (c.push.ensures, block) (ap (λ (q : Bool). record (view_of s) { entries = if q then s.log.entries ++ Dropped p.block c.args.why ∷ [] ++ Left p.block ∷ [] else s.log.entries ++ Dropped p.block c.args.why ∷ []; out = (out_of h s.stays.list s.readings.list s.pins.list s.disks.list s.loan c.change.new.self.slots) }) (sym test));
    })
