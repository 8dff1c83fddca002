use Rattle.pfc_core.proofs.loan.Loan.end.Goals as goal

pub returns-clause-sound : goal.returns-clause-sound
returns-clause-sound g c = rw (← c.self.view_is) c.parts.ensures.sound
