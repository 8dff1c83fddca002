use Rattle.std.proofs.Common.{length}
use Rattle.std.proofs.lemmas.Result.{IfOk-weaker}
use Rattle.pfc_world.specs.Disk.{Write}
use Rattle.pfc_memory.specs.Data.{disk_of, Unsettles, MayWrite}
use Rattle.pfc_memory.proofs.Steps.{goes, leaves}
use Rattle.pfc_memory.proofs.Disks.{nothing_written}
use Rattle.pfc_memory.proofs.data.MemoryDataDataDev.write_at.Goals as goal

pub returns-clause-write : goal.returns-clause-write
returns-clause-write g c =
    goes disk_of (Write c.args.at c.args.from.now) c.args.self.now.history c.step.new.self c.args.self.now.calls c.step.new.calls c.write-sides.result c.step.result
    c.step.ensures.exactly c.step.ensures.steps
    (IfOk-weaker c.write-sides.result _ _ (λ each w. (w.done, w.failed)) c.write-sides.ensures)
    (nothing_written c.args.at c.args.from.now (disk_of c.args.self.now.history.now))

pub returns-clause-leaves : goal.returns-clause-leaves
returns-clause-leaves g c =
    leaves disk_of (Unsettles c.args.at (length c.args.from.now)) (MayWrite c.args.at c.args.from.now) c.args.self.now.history c.step.new.self c.args.self.now.calls c.step.new.calls c.write-sides.result
    c.step.ensures.steps (IfOk-weaker c.write-sides.result _ _ (λ each s. (s.unsettles, s.both)) c.write-sides.ensures)
