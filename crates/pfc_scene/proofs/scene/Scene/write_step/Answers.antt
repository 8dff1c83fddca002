use Rattle.std.proofs.Common.{ap, sym, ◌∙◌}
use Rattle.std.specs.Prelude.{Some, option_map}
use Rattle.pfc_writer.specs.Writer.{Task, is_returning}
use Rattle.pfc_scene.proofs.Tasks.{at_task}
use Rattle.pfc_scene.proofs.scene.Scene.write_step.Goals as goal

pub work-requires-clause-phase : goal.work-requires-clause-phase
work-requires-clause-phase g c κs within =
    at_task (λ (t : Task). t.returning) (Some (is_returning c.in-Some.phase)) _ _ c.args.w c.index.result.now c.self.view_is c.requires c.index.ensures (sym c.phase.ensures ∙ ap (option_map is_returning) c.in-Some.is)
