use Rattle.pfc_scene.proofs.Moving.{moves_on}
use Rattle.pfc_scene.proofs.scene.Scene.give_all.Goals as goal

pub returns : goal.returns
returns g c =
    moves_on _ _ _ c.finish_jobs.ensures
    (moves_on _ _ _ c.finish_sync.ensures (moves_on _ _ _ c.give_all_back.ensures (moves_on _ _ _ c.finish_jobs-2.ensures (moves_on _ _ _ c.finish_sync-2.ensures c.give_all_back-2.ensures))))
