use Rattle.std.proofs.Common.{sym, ◌∙◌}
use Rattle.std.specs.Prelude.{Some}
use Rattle.pfc_writer.specs.Writer.{Task}
use Rattle.pfc_scene.proofs.Tasks.{at_task}
use Rattle.pfc_scene.proofs.scene.Scene.core_of_job.Goals as goal

pub returns-clause-of : goal.returns-clause-of
returns-clause-of g c = at_task (λ (t : Task). t.job.instance) (Some c.in-Some.instance) _ _ c.args.w c.index.result.now c.self.view_is c.requires c.index.ensures (sym c.instance.ensures ∙ c.in-Some.is)
