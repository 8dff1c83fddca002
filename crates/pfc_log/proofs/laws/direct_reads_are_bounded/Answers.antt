use Rattle.pfc_log.proofs.Bounds.{lost_bound, device_bound}
use Rattle.pfc_log.proofs.laws.direct_reads_are_bounded.Goals as goal

pub returns-clause-lost : goal.returns-clause-lost
returns-clause-lost c = lost_bound

pub returns-clause-device : goal.returns-clause-device
returns-clause-device c = device_bound
