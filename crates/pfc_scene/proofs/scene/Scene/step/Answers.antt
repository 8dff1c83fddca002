use Rattle.pfc_scene.proofs.Following.{persists_on, same_asked}
use Rattle.pfc_scene.proofs.Moving.{plays_on}
use Rattle.pfc_scene.proofs.scene.Scene.step.Goals as goal

pub returns-then-is_taken-clause-plays : goal.returns-then-is_taken-clause-plays
returns-then-is_taken-clause-plays g c = plays_on _ _ _ _ _ _ c.move_on.ensures.plays c.move_on-then-is_taken.ensures.plays

pub returns-then-is_taken-clause-persists : goal.returns-then-is_taken-clause-persists
returns-then-is_taken-clause-persists g c told tells = persists_on _ _ _ _ _ _ _ (same_asked _ _ c.move_on-then-is_taken.ensures.plays.same) (c.move_on.ensures.persists told tells) (c.move_on-then-is_taken.ensures.persists told tells)
