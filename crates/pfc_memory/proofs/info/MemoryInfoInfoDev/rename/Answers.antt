use Rattle.std.proofs.lemmas.Result.{IfOk-weaker}
use Rattle.pfc_world.specs.Info.{Rename}
use Rattle.pfc_memory.specs.Mains.{info_of, Brings, MayRename}
use Rattle.pfc_memory.proofs.Steps.{goes, leaves}
use Rattle.pfc_memory.proofs.Mains.{nothing_renamed}
use Rattle.pfc_memory.proofs.info.MemoryInfoInfoDev.rename.Goals as goal

pub returns-clause-rename : goal.returns-clause-rename
returns-clause-rename g c =
    goes info_of Rename c.args.self.now.history c.step.new.self c.args.self.now.calls c.step.new.calls c.rename-sides.result c.step.result
    c.step.ensures.exactly c.step.ensures.steps
    (IfOk-weaker c.rename-sides.result _ _ (λ each s. (s.done, s.failed)) c.rename-sides.ensures)
    (nothing_renamed (info_of c.args.self.now.history.now))

pub returns-clause-leaves : goal.returns-clause-leaves
returns-clause-leaves g c =
    leaves info_of Brings MayRename c.args.self.now.history c.step.new.self c.args.self.now.calls c.step.new.calls c.rename-sides.result
    c.step.ensures.steps (IfOk-weaker c.rename-sides.result _ _ (λ each s. (s.brings, s.both)) c.rename-sides.ensures)
