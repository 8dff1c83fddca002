use Rattle.std.proofs.Common.{rules}
use Rattle.pfc_scene.proofs.Casts.{no_core}
use Rattle.pfc_scene.proofs.Moving.{moves_from}
use Rattle.pfc_scene.proofs.Scenes.{backing_moves, backing_scene}
use Rattle.pfc_scene.proofs.scene.Scene.turn_at.Goals as goal

pub invariant_of-self : goal.invariant_of-self
invariant_of-self g c = backing_scene _ c.args.i c.index_mut.result.now c.turn.new.self c.self.invariant (search rules) c.index_mut.ensures.value c.turn.ensures.keeps c.turn.ensures.written

pub returns-clause-moves : goal.returns-clause-moves
returns-clause-moves g c =
    moves_from _ _ _ c.self.view_is (backing_moves _ c.args.i no_core c.index_mut.result.now c.turn.new.self c.self.invariant (search rules) c.index_mut.ensures.value c.turn.ensures.keeps)
