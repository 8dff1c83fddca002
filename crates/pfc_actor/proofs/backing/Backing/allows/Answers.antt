use Rattle.std.proofs.Common.{◌-◌, arith, sym}
use Rattle.pfc_actor.proofs.Backings.{allows_uncharged, allows_spent}
use Rattle.pfc_actor.proofs.backing.Backing.allows.Goals as goal

pub returns-then-not-is_charged-clause-yes : goal.returns-then-not-is_charged-clause-yes
returns-then-not-is_charged-clause-yes g c = λ _. allows_uncharged _ _ _ (sym c.if-not-is_charged.ensures)

pub returns-clause-yes : goal.returns-clause-yes
returns-clause-yes g c = λ _. rw (← c.self.view_is)
    (allows_spent _ _ _ _ _ c.self.inside.unspent (c.self.inside.unspent - 1) _ _ _ (sym c.if-not-is_charged.ensures) c.if-is_bare.ensures (omega (arith, c.if-self-eq0.false)))
