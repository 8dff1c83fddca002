use Rattle.std.specs.Prelude.{⊤}
use Rattle.std.proofs.lemmas.Result.{IfOk-weaker}
use Rattle.pfc_world.specs.Info.{Settle}
use Rattle.pfc_memory.specs.Mains.{info_of, KeepsMains}
use Rattle.pfc_memory.proofs.Steps.{goes, leaves}
use Rattle.pfc_memory.proofs.Mains.{nothing_settled}
use Rattle.pfc_memory.proofs.info.MemoryInfoInfoDev.settle.Goals as goal

pub returns-clause-settle : goal.returns-clause-settle
returns-clause-settle g c =
    goes info_of Settle c.args.self.now.history c.step.new.self c.args.self.now.calls c.step.new.calls c.settle-sides.result c.step.result
    c.step.ensures.exactly c.step.ensures.steps
    (IfOk-weaker c.settle-sides.result _ _ (λ each s. (s.done, s.failed)) c.settle-sides.ensures)
    (nothing_settled (info_of c.args.self.now.history.now))

pub returns-clause-leaves : goal.returns-clause-leaves
returns-clause-leaves g c =
    leaves info_of (λ _ _. ⊤) KeepsMains c.args.self.now.history c.step.new.self c.args.self.now.calls c.step.new.calls c.settle-sides.result
    c.step.ensures.steps (IfOk-weaker c.settle-sides.result _ _ (λ each s. (tt, s.both)) c.settle-sides.ensures)
