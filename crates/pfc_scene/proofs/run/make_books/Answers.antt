use Rattle.std.proofs.Common.{arith}
use Rattle.pfc_report.specs.Schedule.{is_asked}
use Rattle.pfc_scene.proofs.Beginning.{numbers_more, numbers_all}
use Rattle.pfc_scene.proofs.run.make_books.Goals as goal

pub loop-number-preserved : goal.loop-number-preserved
loop-number-preserved g c = record {
  numbers = numbers_more (is_asked c.args.plan.now) c.loop-number.number _ _ _ c.loop-number.invariant.least (c.asked-wanted.ensures c.loop-number.number (omega arith)) c.loop-number.invariant.numbers c.in_ok-add_book.ensures.numbers;
  least = omega arith;
  fresh = c.in_ok-add_book.ensures.fresh;
}

pub returns-clause-numbers : goal.returns-clause-numbers
returns-clause-numbers g c = numbers_all c.args.plan.now c.loop-number.number _ (omega arith) c.loop-number.invariant.numbers
