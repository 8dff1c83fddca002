use Rattle.std.specs.Prelude.{Some, false}
use Rattle.pfc_writer.specs.Writer.{Task}
use Rattle.pfc_scene.proofs.Tasks.{may_by_phase, same_writers}
use Rattle.pfc_scene.proofs.Moving.{moves_on}
use Rattle.pfc_scene.proofs.scene.Scene.lend_to.Goals as goal

pub go_on-requires-clause-may : goal.go_on-requires-clause-may
go_on-requires-clause-may g c κs within d = may_by_phase _ _ (same_writers (λ (t : Task). t.returning) (Some false) _ _ c.args.w c.lend.ensures.jobs.1 c.requires.phase d)

pub returns-then-lend : goal.returns-then-lend
returns-then-lend g c = moves_on _ _ _ c.lend.ensures.moves c.go_on.ensures
