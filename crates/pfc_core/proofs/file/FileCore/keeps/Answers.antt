use Rattle.pfc_core.specs.Homes.{home_of}
use Rattle.pfc_core.proofs.Lent.{loan_most}
use Rattle.pfc_core.proofs.file.FileCore.keeps.Goals as goal

pub returns-clause-loan : goal.returns-clause-loan
returns-clause-loan g c = let s = c.self.inside in
    rw (← c.self.view_is) (loan_most (home_of s.instance s.shelf) s.stays.list s.readings.list s.pins.list s.disks.list s.loan s.shelf.slots)

pub returns-clause-bounds : goal.returns-clause-bounds
returns-clause-bounds g c = let s = c.self.inside in let said = c.self.invariant.said in
    rw (← c.self.view_is) (said.length_is, said.long_is, c.self.invariant.turns.length_is)
