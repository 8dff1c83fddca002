use Rattle.std.proofs.Common.{◌≡◌, ◌∙◌, length, false, arith, inr, sym, ap, subst, refl, Some}
use Rattle.std.specs.Option.{is_some}
use Rattle.pfc_log.specs.Lawful.{IsCached}
use Rattle.pfc_core.specs.declared.held.Held.{Held}
use Rattle.pfc_core.specs.declared.loan.Lent.{Lent}
use Rattle.pfc_core.specs.Homes.{home_of}
use Rattle.pfc_core.specs.Kept.{view_of}
use Rattle.pfc_core.specs.Marks.{LoanKind}
use Rattle.pfc_core.specs.Out.{loan_of, out_of}
use Rattle.pfc_core.specs.Tags.{home_in}
use Rattle.pfc_core.specs.View.{CoreView}
use Rattle.pfc_core.proofs.Lent.{cached_of, loan_none, loan_listed, lend_gains}
use Rattle.pfc_core.proofs.Outs.{gains_at, mark_at}
use Rattle.pfc_core.proofs.Turned.{turns_lent}
use Rattle.pfc_core.proofs.file.FileCore.lend.Goals as goal

pub invariant_of-self : goal.invariant_of-self
invariant_of-self g c = let was = c.self.invariant in record {
  held = was.held;
  guests = was.guests;
  found = was.found;
  said = was.said;
  room = omega (arith, was.room);
  sized = was.sized;
  turns = turns_lent _ _ _ _ _ _ _ was.turns (subst (λ (v : CoreView). IsCached v.first) (sym c.self.view_is) (cached_of c.args.self.now.first (c.if-is_some.ensures ∙ ap is_some c.uncached.ensures))) c.len.ensures;
}

pub returns-in-Some-clause-no : goal.returns-in-Some-clause-no
returns-in-Some-clause-no g c = let s = c.self.inside in (
  cached_of c.args.self.now.first (c.if-is_some.ensures ∙ ap is_some c.uncached.ensures),
  rw (← c.self.view_is) (c.in-Some.lent, refl, loan_listed (home_of s.instance s.shelf) s.stays.list s.readings.list s.pins.list s.disks.list s.shelf.slots s.loan c.in-Some.lent c.in-Some.is),
)

pub returns-then-not-is_home-clause-no : goal.returns-then-not-is_home-clause-no
returns-then-not-is_home-clause-no g c = let s = c.self.inside in
    inr (rw (← c.self.view_is) (loan_none (home_of s.instance s.shelf) s.stays.list s.readings.list s.pins.list s.disks.list s.loan s.shelf.slots c.in_default.is), λ is. let no = c.if-not-is_home.ensures.1 is in cc)

pub returns-clause-ok : goal.returns-clause-ok
returns-clause-ok g c = let s = c.self.inside in let h = home_of s.instance s.shelf in let at = c.tag_of-tag.ensures.at in let p = c.tag_of-tag.result.held in
    let l : Lent = record { number = s.lent; at = c.len.result; turn = false } in
    let kept : p ≡ loan_of l = c.tag_of-tag.ensures.held ∙ c.held_loan.ensures in
    let mine : p ≡ loan_of (record { number = p.number; at = length s.log.entries; turn = false }) = kept ∙ (λ i. loan_of (record { number = sym (ap (λ (q : Held). q.number) kept) i; at = c.len.ensures i; turn = false })) in
    let cached : IsCached c.args.self.now.first = cached_of c.args.self.now.first (c.if-is_some.ensures ∙ ap is_some c.uncached.ensures) in record {
      cached = cached;
      none = rw (← c.self.view_is) (loan_none h s.stays.list s.readings.list s.pins.list s.disks.list s.loan s.shelf.slots c.in_default.is);
      store_is = sym c.in-Some-take.ensures.value;
      aim_is = refl;
      idle = refl;
      mine = rw (← c.self.view_is) (mark_at LoanKind (home_in c.tag_of-tag.result) h p (loan_of (record { number = p.number; at = length s.log.entries; turn = false })) at mine);
      gains = rw (← c.self.view_is) (gains_at LoanKind (home_in c.tag_of-tag.result) h p (loan_of l) (view_of s).out (out_of h s.stays.list s.readings.list s.pins.list s.disks.list (Some l) s.shelf.slots) at kept (lend_gains h s.stays.list s.readings.list s.pins.list s.disks.list s.shelf.slots s.loan l c.in_default.is));
      rest = rw (← c.self.view_is) refl;
    }
