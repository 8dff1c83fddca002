use Rattle.std.proofs.Common.{ap, ◌∙◌}
use Rattle.std.specs.Prelude.{Some}
use Rattle.pfc_writer.specs.declared.writer.Phase.{Phase}
use Rattle.pfc_writer.specs.Writer.{is_returning}
use Rattle.pfc_scene.proofs.Tasks.{may_by_phase}
use Rattle.pfc_scene.proofs.scene.Scene.work.Goals as goal

pub lend_to-requires-clause-phase : goal.lend_to-requires-clause-phase
lend_to-requires-clause-phase g c κs within d = c.requires.phase d ∙ ap (λ (p : Phase). Some (is_returning p)) c.in-Taken.is

pub write_at-requires-clause-of : goal.write_at-requires-clause-of
write_at-requires-clause-of g c κs within = c.in-Some.ensures.of

pub give_from-requires-clause-of : goal.give_from-requires-clause-of
give_from-requires-clause-of g c κs within = c.in-Some.ensures.of

pub go_on-requires-clause-may : goal.go_on-requires-clause-may
go_on-requires-clause-may g c κs within d = may_by_phase _ _ (c.requires.phase d ∙ ap (λ (p : Phase). Some (is_returning p)) c.in-Given.is)

pub end_job-requires-clause-phase : goal.end_job-requires-clause-phase
end_job-requires-clause-phase g c κs within d = c.requires.phase d ∙ ap (λ (p : Phase). Some (is_returning p)) c.in-Counted.is
