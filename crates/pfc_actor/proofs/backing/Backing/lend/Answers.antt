use Rattle.pfc_actor.proofs.BackingLoans.{lends_or_not}
use Rattle.pfc_actor.proofs.backing.Backing.lend.Goals as goal

pub returns-clause-step : goal.returns-clause-step
returns-clause-step g c = rw (← c.self.view_is, c.replace.ensures.after, ← c.replace-held.ensures.value)
    (lends_or_not c.args.core.now c.lent_by-next.new.core g.P.Data.DataDev.faults g.P.Info.InfoDev.faults g.P.Info.InfoDev.told g.P.Info.InfoDev.seen c.self.inside.before c.self.inside.unspent c.replace-held.result c.lent_by-next.result.0 c.lent_by-next.result.1 c.lent_by-next.ensures)
