use Rattle.std.specs.Prelude.{Some}
use Rattle.pfc_writer.specs.Writer.{Task}
use Rattle.pfc_scene.proofs.Tasks.{may_by_open, same_writers}
use Rattle.pfc_scene.proofs.Moving.{moves_on}
use Rattle.pfc_scene.proofs.scene.Scene.give_from.Goals as goal

pub go_on-requires-clause-may : goal.go_on-requires-clause-may
go_on-requires-clause-may g c κs within d =
    may_by_open _ _ c.args.i (same_writers (λ (t : Task). t.job.instance) (Some c.args.i) _ _ c.args.w c.give.ensures.jobs.1 c.requires.of d) (c.give.ensures.back c.if-give.true)

pub returns-then-give : goal.returns-then-give
returns-then-give g c = moves_on _ _ _ c.give.ensures.moves c.go_on.ensures
