use Rattle.std.proofs.Common.{◌+◌, ◌-◌, ◌∙◌, arith}
use Rattle.pfc_report.specs.Schedule.{is_asked}
use Rattle.pfc_replay.proofs.Spending.{fresh-more, fresh-all, stops-on}
use Rattle.pfc_replay.proofs.play.add_links.Goals as goal

pub loop-number-preserved : goal.loop-number-preserved
loop-number-preserved g c = record {
  rows = fresh-more (is_asked c.args.plan.now) c.loop-number.number (c.loop-number.number - 1) ((c.loop-number.number + 1) - 1) _ _ _ (omega (arith, c.loop-number.invariant.count)) (omega (arith, c.loop-number.invariant.count))
      (c.asked-wanted.ensures c.loop-number.number (omega arith)) c.loop-number.invariant.rows c.in-Ok.ensures.ok;
  small = c.add_link.ensures.small;
  count = omega (arith, c.loop-number.invariant.count, c.add_link.ensures.len);
  room = omega (arith, c.loop-number.invariant.room, c.add_link.ensures.capacity);
  faults = omega (arith, c.loop-number.invariant.faults, c.add_link.ensures.later);
  spent = λ n. c.add_link.ensures.spent n ∙ c.loop-number.invariant.spent n;
}

pub returns-clause-ok : goal.returns-clause-ok
returns-clause-ok g c = fresh-all c.args.plan.now (c.loop-number.number - 1) _ (omega arith) c.loop-number.invariant.rows

pub returns-in-Err-clause-cause : goal.returns-in-Err-clause-cause
returns-in-Err-clause-cause g c =
    stops-on c.args.plan.now c.loop-number.number _ _ _ _ c.in-Err.refusal (c.asked-wanted.ensures c.loop-number.number (omega arith)) c.loop-number.invariant.faults c.in-Err.ensures.cause
