use Rattle.std.proofs.Common.{rules}
use Rattle.pfc_report.specs.Schedule.{Go}
use Rattle.pfc_report.proofs.schedule.read_step.Goals as goal

pub returns-in-None-read_steps : goal.returns-in-None-read_steps
returns-in-None-read_steps c = let said = c.in-None-read_steps.ensures Go in search rules
