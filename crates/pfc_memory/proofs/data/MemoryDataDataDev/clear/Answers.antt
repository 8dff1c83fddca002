use Rattle.std.specs.Prelude.{⊤}
use Rattle.std.proofs.Common.{is_ok}
use Rattle.std.proofs.lemmas.Result.{IfOk-weaker}
use Rattle.pfc_memory.specs.Data.{disk_of, data_run, MayClear}
use Rattle.pfc_memory.proofs.Steps.{goes, leaves}
use Rattle.pfc_memory.proofs.Disks.{Cleared, nothing_cleared, only_loosened, all_cleared, a_clear}
use Rattle.pfc_memory.proofs.data.MemoryDataDataDev.clear.Goals as goal

pub returns-clause-clear : goal.returns-clause-clear
returns-clause-clear g c =
    a_clear (is_ok c.step.result) (data_run c.args.self.now) _
    (goes disk_of Cleared c.args.self.now.history c.step.new.self c.args.self.now.calls c.step.new.calls c.clear-sides.result c.step.result
    c.step.ensures.exactly c.step.ensures.steps
    (IfOk-weaker c.clear-sides.result _ _ (λ each s. (all_cleared _ _ s.empty s.clean, only_loosened _ _ s.failed)) c.clear-sides.ensures)
    (nothing_cleared (disk_of c.args.self.now.history.now)))

pub returns-clause-leaves : goal.returns-clause-leaves
returns-clause-leaves g c =
    leaves disk_of (λ _ _. ⊤) MayClear c.args.self.now.history c.step.new.self c.args.self.now.calls c.step.new.calls c.clear-sides.result
    c.step.ensures.steps (IfOk-weaker c.clear-sides.result _ _ (λ each s. (tt, s.both)) c.clear-sides.ensures)
