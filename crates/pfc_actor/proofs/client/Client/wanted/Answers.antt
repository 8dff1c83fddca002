use Rattle.std.proofs.Common.{subst}
use Rattle.std.specs.Prelude.{Any}
use Rattle.pfc_report.specs.Restart.{OpensPath}
use Rattle.pfc_actor.specs.Clients.{ClientView}
use Rattle.pfc_actor.proofs.Leaving.{opens_asked}
use Rattle.pfc_actor.proofs.client.Client.wanted.Goals as goal

pub returns-in-Wanted-clause-asked : goal.returns-in-Wanted-clause-asked
returns-in-Wanted-clause-asked g c =
    let work = rw c.in-Wanted.is at c.self.invariant.work in
    subst (λ (a : ClientView). Any (OpensPath c.in-Wanted.wanted.path) a.book.asked) c.self.view_is (opens_asked c.self.inside.book c.in-Wanted.wanted.number c.in-Wanted.wanted.path work)
