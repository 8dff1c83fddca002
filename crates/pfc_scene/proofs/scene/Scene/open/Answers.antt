use Rattle.pfc_scene.proofs.Following.{moves_persists, persists_on, same_asked}
use Rattle.pfc_scene.proofs.Moving.{moves_plays, plays_on}
use Rattle.pfc_scene.proofs.scene.Scene.open.Goals as goal

pub returns-in-Ready-clause-plays : goal.returns-in-Ready-clause-plays
returns-in-Ready-clause-plays g c = plays_on _ _ _ _ _ _ c.prepare.ensures.plays (moves_plays _ _ _ c.step_at-in-Ready.ensures)

pub returns-in-Failed-clause-plays : goal.returns-in-Failed-clause-plays
returns-in-Failed-clause-plays g c = plays_on _ _ _ _ _ _ c.prepare.ensures.plays (moves_plays _ _ _ c.give_up-in-Failed.ensures)

pub returns-in-Opened-clause-plays : goal.returns-in-Opened-clause-plays
returns-in-Opened-clause-plays g c = plays_on _ _ _ _ _ _ c.prepare.ensures.plays (moves_plays _ _ _ c.note.ensures)

pub returns-in-Ready-clause-persists : goal.returns-in-Ready-clause-persists
returns-in-Ready-clause-persists g c told tells = persists_on _ _ _ _ _ _ _ (same_asked _ _ c.step_at-in-Ready.ensures.same) (c.prepare.ensures.persists told tells) (moves_persists _ _ _ _ c.step_at-in-Ready.ensures)

pub returns-in-Failed-clause-persists : goal.returns-in-Failed-clause-persists
returns-in-Failed-clause-persists g c told tells = persists_on _ _ _ _ _ _ _ (same_asked _ _ c.give_up-in-Failed.ensures.same) (c.prepare.ensures.persists told tells) (moves_persists _ _ _ _ c.give_up-in-Failed.ensures)

pub returns-in-Opened-clause-persists : goal.returns-in-Opened-clause-persists
returns-in-Opened-clause-persists g c told tells = persists_on _ _ _ _ _ _ _ (same_asked _ _ c.note.ensures.same) (c.prepare.ensures.persists told tells) (moves_persists _ _ _ _ c.note.ensures)
