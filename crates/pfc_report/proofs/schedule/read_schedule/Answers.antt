use Rattle.pfc_report.proofs.Lines.{schedule_of-long, schedule_of-short}
use Rattle.pfc_report.proofs.schedule.read_schedule.Goals as goal

pub returns-then-text-gt-SCHEDULE_LIMIT-clause-err : goal.returns-then-text-gt-SCHEDULE_LIMIT-clause-err
returns-then-text-gt-SCHEDULE_LIMIT-clause-err c = schedule_of-long c.args.writers c.args.text.now c.if-text-gt-SCHEDULE_LIMIT.true

pub returns-in-Ok-clause-ok : goal.returns-in-Ok-clause-ok
returns-in-Ok-clause-ok c = rw (schedule_of-short c.args.writers c.args.text.now c.if-text-gt-SCHEDULE_LIMIT.false) c.in-Ok.ensures.ok

pub returns-in-Err-clause-err : goal.returns-in-Err-clause-err
returns-in-Err-clause-err c = rw (schedule_of-short c.args.writers c.args.text.now c.if-text-gt-SCHEDULE_LIMIT.false) c.in-Err.ensures.err
