use Rattle.pfc_actor.specs.Backings.{bare}
use Rattle.pfc_scene.proofs.Following.{owes_persists, persists_on, same_asked}
use Rattle.pfc_scene.proofs.Opening.{owes_paid}
use Rattle.pfc_scene.proofs.scene.Scene.lose_store.Goals as goal

pub returns-clause-plays : goal.returns-clause-plays
returns-clause-plays g c = owes_paid _ _ _ _ _ c.return_volume.ensures.plays c.lose_volume.ensures (c.return_volume.ensures.pays bare (c.requires.covers bare))

pub returns-clause-persists : goal.returns-clause-persists
returns-clause-persists g c told tells = persists_on _ _ _ _ _ _ _ (same_asked _ _ c.lose_volume.ensures.same) (c.return_volume.ensures.persists told tells) (owes_persists _ _ _ _ _ c.lose_volume.ensures (λ path main home. home))
