use Rattle.pfc_scene.proofs.Following.{moves_persists, persists_on, same_asked}
use Rattle.pfc_scene.proofs.Moving.{moves_plays, plays_on}
use Rattle.pfc_scene.proofs.scene.Scene.open_store.Goals as goal

pub returns-in-Ok-clause-plays : goal.returns-in-Ok-clause-plays
returns-in-Ok-clause-plays g c = moves_plays _ _ _ c.start_core.ensures.moves

pub returns-in-Ok-clause-persists : goal.returns-in-Ok-clause-persists
returns-in-Ok-clause-persists g c told tells = moves_persists _ _ _ _ c.start_core.ensures.moves

pub returns-in-Err-Fault-clause-plays : goal.returns-in-Err-Fault-clause-plays
returns-in-Err-Fault-clause-plays g c = plays_on _ _ _ _ _ _ (moves_plays _ _ _ c.start_core.ensures.moves) c.lose_store.ensures.plays

pub returns-in-Err-Fault-clause-persists : goal.returns-in-Err-Fault-clause-persists
returns-in-Err-Fault-clause-persists g c told tells = persists_on _ _ _ _ _ _ _ (same_asked _ _ c.lose_store.ensures.plays.same) (moves_persists _ _ _ _ c.start_core.ensures.moves) (c.lose_store.ensures.persists told tells)

pub returns-in-Err-Memory-clause-plays : goal.returns-in-Err-Memory-clause-plays
returns-in-Err-Memory-clause-plays g c = plays_on _ _ _ _ _ _ (moves_plays _ _ _ c.start_core.ensures.moves) c.return_volume.ensures.plays

pub returns-in-Err-Memory-clause-persists : goal.returns-in-Err-Memory-clause-persists
returns-in-Err-Memory-clause-persists g c told tells = persists_on _ _ _ _ _ _ _ (same_asked _ _ c.return_volume.ensures.plays.same) (moves_persists _ _ _ _ c.start_core.ensures.moves) (c.return_volume.ensures.persists told tells)
