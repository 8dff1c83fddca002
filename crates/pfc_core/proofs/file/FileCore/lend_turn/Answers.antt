use Rattle.std.proofs.Common.{◌∙◌, inr, sym, ap, subst, refl}
use Rattle.std.specs.Option.{is_some}
use Rattle.pfc_log.specs.Lawful.{IsUnfrozen}
use Rattle.pfc_core.specs.Homes.{home_of}
use Rattle.pfc_core.specs.View.{CoreView}
use Rattle.pfc_core.proofs.Lent.{cached_of, loan_none, loan_listed}
use Rattle.pfc_core.proofs.Said.{thawed_is}
use Rattle.pfc_core.proofs.file.FileCore.lend_turn.Goals as goal

pub returns-in-Some-clause-no : goal.returns-in-Some-clause-no
returns-in-Some-clause-no g c = let s = c.self.inside in (
  cached_of c.args.self.now.first (c.if-is_some.ensures ∙ ap is_some c.uncached.ensures),
  subst (λ (v : CoreView). IsUnfrozen v.entries) c.self.view_is (thawed_is _ _ s.sets c.self.invariant.said (sym c.if-is_frozen.ensures)),
  rw (← c.self.view_is) (c.in-Some.lent, refl, loan_listed (home_of s.instance s.shelf) s.stays.list s.readings.list s.pins.list s.disks.list s.shelf.slots s.loan c.in-Some.lent c.in-Some.is),
)

pub returns-then-not-is_home-clause-no : goal.returns-then-not-is_home-clause-no
returns-then-not-is_home-clause-no g c = let s = c.self.inside in inr (
  subst (λ (v : CoreView). IsUnfrozen v.entries) c.self.view_is (thawed_is _ _ s.sets c.self.invariant.said (sym c.if-is_frozen.ensures)),
  rw (← c.self.view_is) (loan_none (home_of s.instance s.shelf) s.stays.list s.readings.list s.pins.list s.disks.list s.loan s.shelf.slots c.in_default.is),
  λ is. let no = c.if-not-is_home.ensures.1 is in cc,
)

pub lend_for_turn-requires-clause-none : goal.lend_for_turn-requires-clause-none
lend_for_turn-requires-clause-none g c κs within = let s = c.self.inside in
    rw (← c.self.view_is) (loan_none (home_of s.instance s.shelf) s.stays.list s.readings.list s.pins.list s.disks.list s.loan s.shelf.slots c.in_default.is)

pub returns-in-Err-clause-no : goal.returns-in-Err-clause-no
returns-in-Err-clause-no g c = let s = c.self.inside in (
  cached_of c.args.self.now.first (c.if-is_some.ensures ∙ ap is_some c.uncached.ensures),
  subst (λ (v : CoreView). IsUnfrozen v.entries) c.self.view_is (thawed_is _ _ s.sets c.self.invariant.said (sym c.if-is_frozen.ensures)),
  rw (← c.self.view_is) (loan_none (home_of s.instance s.shelf) s.stays.list s.readings.list s.pins.list s.disks.list s.loan s.shelf.slots c.in_default.is),
  c.if-not-is_home.ensures.0 refl,
)
