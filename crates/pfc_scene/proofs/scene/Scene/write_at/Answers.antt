use Rattle.std.proofs.Common.{rules}
use Rattle.std.specs.Prelude.{Some}
use Rattle.pfc_writer.specs.Writer.{Task}
use Rattle.pfc_scene.proofs.Moving.{moves_from}
use Rattle.pfc_scene.proofs.Tasks.{task_at}
use Rattle.pfc_scene.proofs.Writing.{turn_scene, turn_moves, turns_by}
use Rattle.pfc_scene.proofs.scene.Scene.write_at.Goals as goal

pub invariant_of-self : goal.invariant_of-self
invariant_of-self g c =
    let x = c.index_mut-2.result.now in let b = c.index_mut.result.now in
    turn_scene _ c.args.w c.args.i x c.write-turn.new.writer b c.write-turn.new.self c.self.invariant (search rules) (search rules) c.index_mut-2.ensures.value c.index_mut.ensures.value
    (task_at (λ (t : Task). t.job.instance) (Some c.args.i) _ _ c.args.w x c.self.view_is c.index_mut-2.ensures.value c.requires.of) c.write-turn.ensures.keeps
    (turns_by c.write-turn.result x c.write-turn.new.writer b c.write-turn.new.self c.write-turn.ensures.yes c.write-turn.ensures.no)

pub returns : goal.returns
returns g c =
    moves_from _ _ _ c.self.view_is
    (turn_moves _ c.args.w c.args.i c.write-turn.new.writer c.index_mut.result.now c.write-turn.new.self c.self.invariant (search rules) c.index_mut.ensures.value c.write-turn.ensures.keeps)
