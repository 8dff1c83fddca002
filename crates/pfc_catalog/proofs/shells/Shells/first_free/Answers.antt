use Rattle.std.proofs.Common.{arith, ◌∙◌, ap, not, ◌<◌, length}
use Rattle.pfc_catalog.proofs.Tables.{taken-more}
use Rattle.pfc_catalog.proofs.shells.Shells.first_free.Goals as goal

pub loop-shell-preserved : goal.loop-shell-preserved
loop-shell-preserved c =
    let low : c.loop-shell.shell < length c.self.inside.places = omega (arith, c.self.invariant) in
    rw (← c.self.view_is) (taken-more c.self.inside.places c.loop-shell.shell (rw (← c.self.view_is) at c.loop-shell.invariant) low (c.is_none.ensures ∙ ap not c.if-is_none.false))
