use Rattle.std.proofs.Common.{◌≡◌, ◌<◌, ◌∙◌, sym, ap, subst}
use Rattle.pfc_core.specs.declared.held.Held.{Held}
use Rattle.pfc_core.specs.Held.{is_held}
use Rattle.pfc_core.specs.Homes.{home_of}
use Rattle.pfc_core.specs.Kept.{view_of}
use Rattle.pfc_core.specs.Marks.{Mark, LoanKind, listed}
use Rattle.pfc_core.specs.Out.{loan_of}
use Rattle.pfc_core.specs.Tags.{home_in}
use Rattle.pfc_core.proofs.Lent.{match_of, loan_listed, none_listed, other_listed}
use Rattle.pfc_core.proofs.Numbered.{held_is}
use Rattle.pfc_core.proofs.Outs.{at_home, mark_at, unlisted_elsewhere}
use Rattle.pfc_core.proofs.file.FileCore.knows_loan.Goals as goal

pub returns-then-not-is_of : goal.returns-then-not-is_of
returns-then-not-is_of g c = let s = c.self.inside in
    rw (← c.self.view_is, ← c.loan.view_is) (unlisted_elsewhere LoanKind (home_in c.loan.inside.tag) (home_of s.instance s.shelf) c.loan.inside.tag.held s.stays.list s.readings.list s.pins.list s.disks.list s.loan s.shelf.slots c.if-not-is_of.ensures)

pub returns-in_default : goal.returns-in_default
returns-in_default g c = let s = c.self.inside in let h = home_of s.instance s.shelf in let p = c.loan.inside.tag.held in
    rw (← c.self.view_is, ← c.loan.view_is) (at_home LoanKind (home_in c.loan.inside.tag) h p (view_of s).out c.if-not-is_of.ensures (none_listed h s.stays.list s.readings.list s.pins.list s.disks.list s.shelf.slots s.loan p c.in_default.is))

pub returns : goal.returns
returns g c = let s = c.self.inside in let h = home_of s.instance s.shelf in let p = c.loan.inside.tag.held in let n = c.in-Some.lent in
    let same : c.is_same.result ≡ is_held (loan_of n) p = c.is_same.ensures ∙ ap (λ (q : Held). is_held q p) c.held_loan.ensures in
    rw (← c.self.view_is, ← c.loan.view_is) (match_of c.is_same.result _ _
    (λ yes. subst (λ (m : Mark). 0 < listed m (view_of s).out) (sym (mark_at LoanKind (home_in c.loan.inside.tag) h p (loan_of n) c.if-not-is_of.ensures (held_is (loan_of n) p (sym same ∙ yes)))) (loan_listed h s.stays.list s.readings.list s.pins.list s.disks.list s.shelf.slots s.loan n c.in-Some.is))
    (λ off. at_home LoanKind (home_in c.loan.inside.tag) h p (view_of s).out c.if-not-is_of.ensures (other_listed h s.stays.list s.readings.list s.pins.list s.disks.list s.shelf.slots s.loan n p c.in-Some.is (sym same ∙ off))))
