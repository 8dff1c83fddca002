use Rattle.std.proofs.Common.{refl}
use Rattle.pfc_actor.proofs.Calm.{calm_still}
use Rattle.pfc_actor.proofs.Cores.{own_step}
use Rattle.pfc_actor.proofs.Going.{run_next, direct_next, look_next, load_next, end_next, own_own, own_then_step, knows_on}
use Rattle.pfc_actor.proofs.Giving.{runs_next}
use Rattle.pfc_actor.proofs.reading.act.Goals as goal

pub run-requires-clause-work : goal.run-requires-clause-work
run-requires-clause-work g c κs within = runs_next _ _ _ _ c.in-Run.ensures c.requires.work

pub run-requires-clause-knows : goal.run-requires-clause-knows
run-requires-clause-knows g c κs within = knows_on _ c.args.line.now _ _ _ (run_next c.args.book.now c.args.line.now c.args.op c.next.new.self c.in-Run.ticket c.in-Run.ensures) c.requires.knows

pub look-requires-clause-knows : goal.look-requires-clause-knows
look-requires-clause-knows g c κs within = knows_on _ c.args.line.now _ _ _ (look_next c.args.book.now c.args.line.now c.args.op c.next.new.self c.in-Look.pin c.in-Look.part c.in-Look.ensures) c.requires.knows

pub returns-in-Run-clause-step : goal.returns-in-Run-clause-step
returns-in-Run-clause-step g c = own_then_step _ _ _ _ _ _ _ _ _ refl (run_next c.args.book.now c.args.line.now c.args.op c.next.new.self c.in-Run.ticket c.in-Run.ensures) c.run.ensures.step

pub returns-in-Direct-clause-step : goal.returns-in-Direct-clause-step
returns-in-Direct-clause-step g c = own_step _ _ _ _ _ _ _ _ (own_own _ _ _ _ _ _ (direct_next c.args.book.now c.args.line.now c.args.op c.next.new.self c.in-Direct.leave c.in-Direct.ensures) c.direct.ensures.step) refl

pub returns-in-Look-clause-step : goal.returns-in-Look-clause-step
returns-in-Look-clause-step g c = own_then_step _ _ _ _ _ _ _ _ _ refl (look_next c.args.book.now c.args.line.now c.args.op c.next.new.self c.in-Look.pin c.in-Look.part c.in-Look.ensures) c.look.ensures.step

pub returns-in-Finish-clause-step : goal.returns-in-Finish-clause-step
returns-in-Finish-clause-step g c = own_then_step _ _ _ _ _ _ _ _ _ refl (end_next c.args.book.now c.args.line.now c.args.op c.next.new.self c.in-Finish.ensures) c.finish.ensures.step

pub returns-in-Disk-clause-step : goal.returns-in-Disk-clause-step
returns-in-Disk-clause-step g c = own_step _ _ _ _ _ _ _ _ (load_next c.args.book.now c.args.line.now c.args.op c.next.new.self c.in-Disk.disk c.in-Disk.part c.in-Disk.ensures) refl

pub returns-in-Direct-clause-calm : goal.returns-in-Direct-clause-calm
returns-in-Direct-clause-calm g c = calm_still c.args.core.now c.args.core.now refl

pub returns-in-Disk-clause-calm : goal.returns-in-Disk-clause-calm
returns-in-Disk-clause-calm g c = calm_still c.args.core.now c.args.core.now refl
