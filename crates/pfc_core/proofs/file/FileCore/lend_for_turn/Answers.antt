use Rattle.std.proofs.Common.{◌≡◌, ◌∙◌, length, true, arith, sym, ap, subst, refl, Some, None}
use Rattle.pfc_log.specs.Lawful.{IsCached}
use Rattle.pfc_core.specs.declared.held.Held.{Held}
use Rattle.pfc_core.specs.declared.loan.Lent.{Lent}
use Rattle.pfc_core.specs.Homes.{home_of}
use Rattle.pfc_core.specs.Kept.{view_of}
use Rattle.pfc_core.specs.Lending.{aim_at, loans_out}
use Rattle.pfc_core.specs.Marks.{LoanKind}
use Rattle.pfc_core.specs.Out.{loan_of, out_of}
use Rattle.pfc_core.specs.Tags.{home_in}
use Rattle.pfc_core.specs.View.{CoreView}
use Rattle.pfc_core.proofs.Lent.{lend_gains, no_loan_out}
use Rattle.pfc_core.proofs.Outs.{gains_at, mark_at}
use Rattle.pfc_core.proofs.Rooms.{room_at_most}
use Rattle.pfc_core.proofs.Said.{alarm_most}
use Rattle.pfc_core.proofs.Turned.{turns_lent}
use Rattle.pfc_core.proofs.file.FileCore.lend_for_turn.Goals as goal

pub invariant_of-self-2 : goal.invariant_of-self-2
invariant_of-self-2 g c = let s = c.self.inside in let was = c.self.invariant in let h = home_of s.instance s.shelf in
    let cached : IsCached s.log.first = subst (λ (v : CoreView). IsCached v.first) (sym c.self.view_is) c.requires.cached in
    let none : s.loan ≡ None = no_loan_out h s.stays.list s.readings.list s.pins.list s.disks.list s.loan s.shelf.slots (subst (λ (v : CoreView). loans_out v.out ≡ 0) (sym c.self.view_is) c.requires.none) in
    record {
      held = rw (c.make_turn_room.ensures.first, c.make_turn_room.ensures.entries) was.held;
      guests = rw c.make_turn_room.ensures.entries was.guests;
      found = rw c.make_turn_room.ensures.entries was.found;
      said = rw (c.make_turn_room.ensures.first, c.make_turn_room.ensures.entries) was.said;
      room = let room = c.in-Ok-make_turn_room.ensures.room in omega (arith, room, c.len-stays.ensures.len, c.len.ensures.len, c.len-2.ensures.len, c.len-3.ensures.len, c.in-Ok-sum_of.ensures.sum, room_at_most s.shelf.slots, alarm_most s.sets);
      sized = rw c.make_turn_room.ensures.first was.sized;
      turns = rw (c.make_turn_room.ensures.first, c.make_turn_room.ensures.entries) (turns_lent _ _ _ s.loan _ _ _ was.turns cached (c.len-4.ensures ∙ ap length c.make_turn_room.ensures.entries));
    }

pub returns-clause-ok : goal.returns-clause-ok
returns-clause-ok g c = let s = c.self.inside in let h = home_of s.instance s.shelf in let at = c.tag_of-tag.ensures.at in let p = c.tag_of-tag.result.held in
    let l : Lent = record { number = s.lent; at = c.len-4.result; turn = true } in
    let long : c.len-4.result ≡ length s.log.entries = c.len-4.ensures ∙ ap length c.make_turn_room.ensures.entries in
    let kept : p ≡ loan_of l = c.tag_of-tag.ensures.held ∙ c.held_loan.ensures in
    let mine : p ≡ loan_of (record { number = p.number; at = length s.log.entries; turn = true }) = kept ∙ (λ i. loan_of (record { number = sym (ap (λ (q : Held). q.number) kept) i; at = long i; turn = true })) in
    let none : s.loan ≡ None = no_loan_out h s.stays.list s.readings.list s.pins.list s.disks.list s.loan s.shelf.slots (subst (λ (v : CoreView). loans_out v.out ≡ 0) (sym c.self.view_is) c.requires.none) in record {
      cached = c.requires.cached;
      none = c.requires.none;
      store_is = refl;
      aim_is = c.in-Ok.ensures ∙ ap (aim_at c.args.turn) (c.head.ensures ∙ ap (λ (v : CoreView). v.access.head) c.self.view_is);
      idle = refl;
      mine = rw (← c.self.view_is) (mark_at LoanKind (home_in c.tag_of-tag.result) h p (loan_of (record { number = p.number; at = length s.log.entries; turn = true })) at mine);
      gains = rw (← c.self.view_is) (gains_at LoanKind (home_in c.tag_of-tag.result) h p (loan_of l) (view_of s).out (out_of h s.stays.list s.readings.list s.pins.list s.disks.list (Some l) s.shelf.slots) at kept (lend_gains h s.stays.list s.readings.list s.pins.list s.disks.list s.shelf.slots s.loan l none));
      rest = rw (← c.self.view_is, c.make_turn_room.ensures.first, c.make_turn_room.ensures.entries) refl;
    }
