use Rattle.std.proofs.Common.{refl}
use Rattle.pfc_core.specs.Homes.{home_of}
use Rattle.pfc_core.specs.Kept.{view_of}
use Rattle.pfc_core.proofs.Outs.{own_out}
use Rattle.pfc_core.proofs.OpenJobs.{are_jobs}
use Rattle.pfc_core.proofs.file.FileCore.own.Goals as goal

pub returns-clause-own : goal.returns-clause-own
returns-clause-own g c = let s = c.self.inside in rw (← c.self.view_is) (own_out (view_of s) s.stays.list s.readings.list s.pins.list s.disks.list s.loan s.shelf.slots)

pub returns-clause-jobs : goal.returns-clause-jobs
returns-clause-jobs g c = let s = c.self.inside in
    rw (← c.self.view_is) (are_jobs (view_of s) s.begun (home_of s.instance s.shelf) s.stays.list s.readings.list s.pins.list s.disks.list s.loan s.shelf.slots c.self.invariant.held c.len-all.ensures.single refl)
