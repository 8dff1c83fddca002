use Rattle.std.proofs.lemmas.Result.{IfOk-weaker}
use Rattle.pfc_world.specs.Info.{WriteTemp}
use Rattle.pfc_memory.specs.Mains.{info_of, KeepsMains, MaySpoilTemp}
use Rattle.pfc_memory.proofs.Steps.{goes, leaves}
use Rattle.pfc_memory.proofs.Mains.{nothing_temp_written}
use Rattle.pfc_memory.proofs.info.MemoryInfoInfoDev.write_temp.Goals as goal

pub returns-clause-write : goal.returns-clause-write
returns-clause-write g c =
    goes info_of (WriteTemp c.args.from.now) c.args.self.now.history c.step.new.self c.args.self.now.calls c.step.new.calls c.write_temp-sides.result c.step.result
    c.step.ensures.exactly c.step.ensures.steps
    (IfOk-weaker c.write_temp-sides.result _ _ (λ each s. (s.done, s.failed)) c.write_temp-sides.ensures)
    (nothing_temp_written c.args.from.now (info_of c.args.self.now.history.now))

pub returns-clause-leaves : goal.returns-clause-leaves
returns-clause-leaves g c =
    leaves info_of KeepsMains MaySpoilTemp c.args.self.now.history c.step.new.self c.args.self.now.calls c.step.new.calls c.write_temp-sides.result
    c.step.ensures.steps (IfOk-weaker c.write_temp-sides.result _ _ (λ each s. (s.keeps, s.both)) c.write_temp-sides.ensures)
