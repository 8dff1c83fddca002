use Rattle.pfc_core.proofs.loan.Loan.keeps.Goals as goal

pub returns : goal.returns
returns g c = rw (← c.self.view_is) c.self.invariant.file
