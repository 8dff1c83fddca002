use Rattle.std.proofs.Common.{refl}
use Rattle.pfc_report.proofs.Words.{asking-some}
use Rattle.pfc_report.proofs.schedule.read_ask.Goals as goal

pub returns-in-Some-behind : goal.returns-in-Some-behind
returns-in-Some-behind c = asking-some _ c.in-Some.client _ c.in-Some-behind.rest.now c.in-Some.ensures (rw c.in-Some-behind.is refl)
