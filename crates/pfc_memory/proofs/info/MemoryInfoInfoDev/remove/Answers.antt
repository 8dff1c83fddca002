use Rattle.std.specs.Prelude.{⊤}
use Rattle.std.proofs.lemmas.Result.{IfOk-weaker}
use Rattle.pfc_world.specs.Info.{Remove}
use Rattle.pfc_memory.specs.Mains.{info_of, MayRemove}
use Rattle.pfc_memory.proofs.Steps.{goes, leaves}
use Rattle.pfc_memory.proofs.Mains.{nothing_removed}
use Rattle.pfc_memory.proofs.info.MemoryInfoInfoDev.remove.Goals as goal

pub returns-clause-remove : goal.returns-clause-remove
returns-clause-remove g c =
    goes info_of Remove c.args.self.now.history c.step.new.self c.args.self.now.calls c.step.new.calls c.remove-sides.result c.step.result
    c.step.ensures.exactly c.step.ensures.steps
    (IfOk-weaker c.remove-sides.result _ _ (λ each s. (s.done, s.failed)) c.remove-sides.ensures)
    (nothing_removed (info_of c.args.self.now.history.now))

pub returns-clause-leaves : goal.returns-clause-leaves
returns-clause-leaves g c =
    leaves info_of (λ _ _. ⊤) MayRemove c.args.self.now.history c.step.new.self c.args.self.now.calls c.step.new.calls c.remove-sides.result
    c.step.ensures.steps (IfOk-weaker c.remove-sides.result _ _ (λ each s. (tt, s.both)) c.remove-sides.ensures)
