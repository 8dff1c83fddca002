use Rattle.std.proofs.lemmas.Result.{IfOk-weaker}
use Rattle.pfc_world.specs.Info.{SyncTemp}
use Rattle.pfc_memory.specs.Mains.{info_of, KeepsMains, MaySpoilTemp}
use Rattle.pfc_memory.proofs.Steps.{goes, leaves}
use Rattle.pfc_memory.proofs.Mains.{nothing_temp_synced}
use Rattle.pfc_memory.proofs.info.MemoryInfoInfoDev.sync_temp.Goals as goal

pub returns-clause-sync : goal.returns-clause-sync
returns-clause-sync g c =
    goes info_of SyncTemp c.args.self.now.history c.step.new.self c.args.self.now.calls c.step.new.calls c.sync_temp-sides.result c.step.result
    c.step.ensures.exactly c.step.ensures.steps
    (IfOk-weaker c.sync_temp-sides.result _ _ (λ each s. (s.done, s.failed)) c.sync_temp-sides.ensures)
    (nothing_temp_synced (info_of c.args.self.now.history.now))

pub returns-clause-leaves : goal.returns-clause-leaves
returns-clause-leaves g c =
    leaves info_of KeepsMains MaySpoilTemp c.args.self.now.history c.step.new.self c.args.self.now.calls c.step.new.calls c.sync_temp-sides.result
    c.step.ensures.steps (IfOk-weaker c.sync_temp-sides.result _ _ (λ each s. (s.keeps, s.both)) c.sync_temp-sides.ensures)
