use Rattle.std.proofs.Common.{refl, ◌≡◌, ◌∙◌, sym, ap, subst, arith, true, false, ◌<◌, ℕ, List, None, if◌then◌else◌, ◌==◌}
use Rattle.pfc_log.specs.declared.entry.Entry.TheVariants.{Synced, Frozen}
use Rattle.pfc_log.specs.Lawful.{IsUnfrozen}
use Rattle.pfc_core.specs.declared.held.Held.{Held}
use Rattle.pfc_core.specs.declared.loan.Did.{Did}
use Rattle.pfc_core.specs.declared.loan.Did.TheVariants as did
use Rattle.pfc_core.specs.Lending.{Gives, IsEnterable}
use Rattle.pfc_core.specs.Loans.{IsOfTurn}
use Rattle.pfc_core.specs.Marks.{Mark, LoanKind, listed, Loses}
use Rattle.pfc_core.specs.Out.{mark_in, out_of}
use Rattle.pfc_core.specs.Homes.{home_of}
use Rattle.pfc_core.specs.Kept.{view_of, turn_room}
use Rattle.pfc_core.specs.Tags.{home_in}
use Rattle.pfc_core.specs.Turned.{IsLentSince}
use Rattle.pfc_core.specs.View.{CoreView}
use Rattle.pfc_core.proofs.Guests.{in_more}
use Rattle.pfc_core.proofs.Kept.{quiet_kept}
use Rattle.pfc_core.proofs.Found.{found_more}
use Rattle.pfc_core.proofs.Said.{said_freeze, said_sync, said_more, said_claim, alarm_on}
use Rattle.pfc_core.proofs.Loaned.{IsLoanOut, loan_out, loan_back}
use Rattle.pfc_core.proofs.Given.{broke_cold, synced_cold, claimed_cold, gives_did, lent_is, turn_has_room, claim_row, lends_as}
use Rattle.pfc_core.proofs.Turned.{turns_more, turns_home, turns_synced, turns_claimed}
use Rattle.pfc_core.proofs.file.FileCore.give.Goals as goal
use Rattle.pfc_core.proofs.file.FileCore.give.Goals.{in-Nothing, in-Wrote, in-Synced, in-Claimed, in-Broke}

pub invariant_of-self-in-Synced : goal.invariant_of-self-in-Synced
invariant_of-self-in-Synced g c = let s = c.self-2.inside in let was = c.self-2.invariant in let t = c.loan.inside.tag in let h = home_of s.instance s.shelf in
    let same : view_of s ≡ c.args.self.now = c.self-2.view_is ∙ c.fits.ensures.same in
    let may : IsEnterable (view_of s) c.args.loan = subst (λ (v : CoreView). IsEnterable v c.args.loan) (sym same) c.if-not-fits.ensures.exact in
    let mark : mark_in LoanKind (home_in t) t.held ≡ c.args.loan.mark = ap (λ l. l.mark) c.loan.view_is in
    let known : 0 < listed (mark_in LoanKind (home_in t) t.held) (view_of s).out = subst (λ (m : Mark). 0 < listed m (view_of s).out) (sym mark) (subst (λ (v : CoreView). 0 < listed c.args.loan.mark v.out) (sym same) c.if-not-knows_loan.ensures) in
    let out : IsLoanOut (home_in t) h t.held s.loan = loan_out (home_in t) h t.held s.stays.list s.readings.list s.pins.list s.disks.list s.shelf.slots s.loan known in
    let lent : IsLentSince s.log.first s.log.entries out.lent = lent_is _ _ _ s.loan _ _ out.lent was.turns out.some in
    let did_is : c.args.loan.did ≡ did.Synced = sym (ap (λ l. l.did) c.loan.view_is) ∙ c.in-Synced.is in
    let cold : IsUnfrozen s.log.entries = synced_cold (view_of s) c.args.loan may did_is in
    let of_turn : t.held.owner ≡ 1 = subst (λ (d : Did). IsOfTurn (mark_in LoanKind (home_in t) t.held) d) c.in-Synced.is c.loan.invariant.done in
    let one : turn_room s.loan ≡ 1 = turn_has_room s.loan out.lent t.held out.some out.held of_turn in
    record {
      held = rw c.push.ensures (quiet_kept _ _ _ _ _ Synced was.held record { cached = lent.cached; unfrozen = cold; on = was.held.well.is_on } refl refl (λ i q. refl) (λ u. (refl, refl)) (λ i m u. (refl, refl)));
      guests = rw c.push.ensures (in_more _ _ _ was.guests (λ n. (refl, refl)));
      found = rw c.push.ensures (found_more _ _ _ was.found (λ i n. (refl, refl)));
      said = rw (c.push.ensures, c.sync.ensures) (said_sync _ _ s.sets was.said cold);
      room = rw (c.push.ensures, c.sync.ensures) (omega (arith, was.room, one));
      sized = rw c.push.ensures was.sized;
      turns = rw (c.push.ensures, c.sync.ensures) (turns_synced _ _ _ _ _ _ was.turns);
    }

pub invariant_of-self-in-Claimed : goal.invariant_of-self-in-Claimed
invariant_of-self-in-Claimed g c = let s = c.self-2.inside in let was = c.self-2.invariant in let t = c.loan.inside.tag in let h = home_of s.instance s.shelf in
    let same : view_of s ≡ c.args.self.now = c.self-2.view_is ∙ c.fits.ensures.same in
    let may : IsEnterable (view_of s) c.args.loan = subst (λ (v : CoreView). IsEnterable v c.args.loan) (sym same) c.if-not-fits.ensures.exact in
    let mark : mark_in LoanKind (home_in t) t.held ≡ c.args.loan.mark = ap (λ l. l.mark) c.loan.view_is in
    let known : 0 < listed (mark_in LoanKind (home_in t) t.held) (view_of s).out = subst (λ (m : Mark). 0 < listed m (view_of s).out) (sym mark) (subst (λ (v : CoreView). 0 < listed c.args.loan.mark v.out) (sym same) c.if-not-knows_loan.ensures) in
    let out : IsLoanOut (home_in t) h t.held s.loan = loan_out (home_in t) h t.held s.stays.list s.readings.list s.pins.list s.disks.list s.shelf.slots s.loan known in
    let lent : IsLentSince s.log.first s.log.entries out.lent = lent_is _ _ _ s.loan _ _ out.lent was.turns out.some in
    let did_is : c.args.loan.did ≡ did.Claimed = sym (ap (λ l. l.did) c.loan.view_is) ∙ c.in-Claimed.is in
    let cold : IsUnfrozen s.log.entries = claimed_cold (view_of s) c.args.loan may did_is in
    let of_turn : t.held.owner ≡ 1 = subst (λ (d : Did). IsOfTurn (mark_in LoanKind (home_in t) t.held) d) c.in-Claimed.is c.loan.invariant.done in
    let one : turn_room s.loan ≡ 1 = turn_has_room s.loan out.lent t.held out.some out.held of_turn in
    let at : t.held.flight ≡ out.lent.at = ap (λ (q : Held). q.flight) out.held in
    let row = claim_row _ _ s.sets.durable out.lent lent cold was.held.well.is_on was.said.long_is was.said.durable_is in
    record {
      held = rw (c.push-in-Claimed.ensures, c.durable_count-count.ensures, at) (quiet_kept _ _ _ _ _ _ was.held row refl refl (λ i q. refl) (λ u. (refl, refl)) (λ i m u. (refl, refl)));
      guests = rw (c.push-in-Claimed.ensures, c.durable_count-count.ensures, at) (in_more _ _ _ was.guests (λ n. (refl, refl)));
      found = rw (c.push-in-Claimed.ensures, c.durable_count-count.ensures, at) (found_more _ _ _ was.found (λ i n. (refl, refl)));
      said = rw (c.push-in-Claimed.ensures, c.claim.ensures) (said_claim _ _ _ s.sets.durable (said_more _ _ _ _ was.said refl refl));
      room = rw (c.push-in-Claimed.ensures, c.claim.ensures) (omega (arith, was.room, one));
      sized = rw c.push-in-Claimed.ensures was.sized;
      turns = rw (c.push-in-Claimed.ensures, c.claim.ensures, c.durable_count-count.ensures, at) (turns_claimed _ _ _ s.sets.durable out.lent _ _ _ (lends_as s.loan out.lent out.some was.turns) was.said.long_is was.said.durable_is);
    }

pub invariant_of-self-in-Broke : goal.invariant_of-self-in-Broke
invariant_of-self-in-Broke g c = let s = c.self-2.inside in let was = c.self-2.invariant in let t = c.loan.inside.tag in let h = home_of s.instance s.shelf in
    let same : view_of s ≡ c.args.self.now = c.self-2.view_is ∙ c.fits.ensures.same in
    let may : IsEnterable (view_of s) c.args.loan = subst (λ (v : CoreView). IsEnterable v c.args.loan) (sym same) c.if-not-fits.ensures.exact in
    let mark : mark_in LoanKind (home_in t) t.held ≡ c.args.loan.mark = ap (λ l. l.mark) c.loan.view_is in
    let known : 0 < listed (mark_in LoanKind (home_in t) t.held) (view_of s).out = subst (λ (m : Mark). 0 < listed m (view_of s).out) (sym mark) (subst (λ (v : CoreView). 0 < listed c.args.loan.mark v.out) (sym same) c.if-not-knows_loan.ensures) in
    let out : IsLoanOut (home_in t) h t.held s.loan = loan_out (home_in t) h t.held s.stays.list s.readings.list s.pins.list s.disks.list s.shelf.slots s.loan known in
    let lent : IsLentSince s.log.first s.log.entries out.lent = lent_is _ _ _ s.loan _ _ out.lent was.turns out.some in
    let did_is : c.args.loan.did ≡ did.Broke = sym (ap (λ l. l.did) c.loan.view_is) ∙ c.in-Broke.is in
    let cold : IsUnfrozen s.log.entries = broke_cold (view_of s) c.args.loan may did_is in
    let thawed : s.sets.frozen ≡ false = was.said.frozen_is ∙ ap (λ (n : ℕ). if 0 == n then false else true) cold in
    record {
      held = rw c.push-in-Broke.ensures (quiet_kept _ _ _ _ _ Frozen was.held record { cached = lent.cached; unfrozen = cold; on = was.held.well.is_on } refl refl (λ i q. refl) (λ u. (refl, refl)) (λ i m u. (refl, refl)));
      guests = rw c.push-in-Broke.ensures (in_more _ _ _ was.guests (λ n. (refl, refl)));
      found = rw c.push-in-Broke.ensures (found_more _ _ _ was.found (λ i n. (refl, refl)));
      said = rw (c.push-in-Broke.ensures, c.freeze.ensures) (said_freeze _ _ s.sets was.said);
      room = rw (c.push-in-Broke.ensures, c.freeze.ensures) (omega (arith, was.room, alarm_on s.sets thawed));
      sized = rw c.push-in-Broke.ensures was.sized;
      turns = rw (c.push-in-Broke.ensures, c.freeze.ensures) (turns_home _ _ _ s.loan _ _ (turns_more _ _ _ s.loan _ _ Frozen was.turns refl refl));
    }

pub returns-clause-ok : goal.returns-clause-ok
returns-clause-ok g c = let s = c.self-2.inside in let t = c.loan.inside.tag in let h = home_of s.instance s.shelf in
    let same : view_of s ≡ c.args.self.now = c.self-2.view_is ∙ c.fits.ensures.same in
    let may : IsEnterable (view_of s) c.args.loan = subst (λ (v : CoreView). IsEnterable v c.args.loan) (sym same) c.if-not-fits.ensures.exact in
    let mark : mark_in LoanKind (home_in t) t.held ≡ c.args.loan.mark = ap (λ l. l.mark) c.loan.view_is in
    let known : 0 < listed (mark_in LoanKind (home_in t) t.held) (view_of s).out = subst (λ (m : Mark). 0 < listed m (view_of s).out) (sym mark) (subst (λ (v : CoreView). 0 < listed c.args.loan.mark v.out) (sym same) c.if-not-knows_loan.ensures) in
    let out : IsLoanOut (home_in t) h t.held s.loan = loan_out (home_in t) h t.held s.stays.list s.readings.list s.pins.list s.disks.list s.shelf.slots s.loan known in
    let left : List Mark = out_of h s.stays.list s.readings.list s.pins.list s.disks.list None s.shelf.slots in
    let loses : Loses (view_of s).out c.args.loan.mark left = subst (λ (m : Mark). Loses (view_of s).out m left) mark (loan_back (home_in t) h t.held s.stays.list s.readings.list s.pins.list s.disks.list s.shelf.slots s.loan out) in
    let at : c.args.loan.mark.flight ≡ t.held.flight = sym (ap (λ (m : Mark). m.flight) mark) in
    let is = ap (λ l. l.did) c.loan.view_is in
    subst (λ (v : CoreView). Gives v c.args.loan c.match-did.self) same (elim c.match-did.branch [
      | in-Nothing w ↦ rw w.self-is (gives_did (view_of s) c.args.loan may did.Nothing _ (sym is ∙ w.in-Nothing.is) loses refl)
      | in-Wrote w ↦ gives_did (view_of s) c.args.loan may (did.Wrote w.in-Wrote.block) c.match-did.self (sym is ∙ w.in-Wrote.is)
          (rw w.self-is (λ f. (omega (arith, loses f, w.enter_write.ensures.same f)))) (rw w.self-is w.enter_write.ensures.enters)
      | in-Synced w ↦ rw w.self-is (gives_did (view_of s) c.args.loan may did.Synced _ (sym is ∙ w.in-Synced.is) loses (rw (w.push.ensures, w.sync.ensures) refl))
      | in-Claimed w ↦ rw w.self-is (gives_did (view_of s) c.args.loan may did.Claimed _ (sym is ∙ w.in-Claimed.is) loses (rw (w.push-in-Claimed.ensures, w.claim.ensures, w.durable_count-count.ensures, at) refl))
      | in-Broke w ↦ rw w.self-is (gives_did (view_of s) c.args.loan may did.Broke _ (sym is ∙ w.in-Broke.is) loses (rw (w.push-in-Broke.ensures, w.freeze.ensures) refl))
    ])
