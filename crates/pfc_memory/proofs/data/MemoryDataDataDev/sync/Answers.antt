use Rattle.std.proofs.lemmas.Result.{IfOk-weaker}
use Rattle.pfc_world.specs.Disk.{Sync}
use Rattle.pfc_memory.specs.Data.{disk_of, Settled, MaySync}
use Rattle.pfc_memory.proofs.Steps.{goes, leaves}
use Rattle.pfc_memory.proofs.Disks.{nothing_synced}
use Rattle.pfc_memory.proofs.data.MemoryDataDataDev.sync.Goals as goal

pub returns-clause-sync : goal.returns-clause-sync
returns-clause-sync g c =
    goes disk_of Sync c.args.self.now.history c.step.new.self c.args.self.now.calls c.step.new.calls c.sync-sides.result c.step.result
    c.step.ensures.exactly c.step.ensures.steps
    (IfOk-weaker c.sync-sides.result _ _ (λ each s. (s.done, s.failed)) c.sync-sides.ensures)
    (nothing_synced (disk_of c.args.self.now.history.now))

pub returns-clause-leaves : goal.returns-clause-leaves
returns-clause-leaves g c =
    leaves disk_of Settled MaySync c.args.self.now.history c.step.new.self c.args.self.now.calls c.step.new.calls c.sync-sides.result
    c.step.ensures.steps (IfOk-weaker c.sync-sides.result _ _ (λ each s. (s.settles, s.both)) c.sync-sides.ensures)
