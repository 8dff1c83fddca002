use Rattle.std.proofs.Common.{◌∙◌}
use Rattle.pfc_world.specs.Disk.{IsImage}
use Rattle.pfc_world.specs.Info.{IsMain}
use Rattle.pfc_actor.proofs.BackingHomes.{sound_along}
use Rattle.pfc_actor.proofs.volume.shut.Goals as goal

pub new-requires-after_bounds : goal.new-requires-after_bounds
new-requires-after_bounds g c κs within = λ told told_data.
    sound_along g.W.World.files c.in-Open.store.path c.copy-known.result.path (IsImage (g.D.DataDev.seen c.parts-first.result.0).now) (IsMain (g.I.InfoDev.seen c.parts-first.result.1).now)
    (c.copy-known.ensures.path ∙ c.known.ensures.path) (c.parts-first.ensures.sound told told_data (c.requires.alike told_data))
