use Rattle.std.proofs.Common.{◌∙◌, inl}
use Rattle.pfc_world.specs.Disk.{IsImage}
use Rattle.pfc_world.specs.Info.{IsMain}
use Rattle.pfc_actor.proofs.BackingHomes.{sound_along}
use Rattle.pfc_actor.proofs.Leaving.{main_told}
use Rattle.pfc_actor.proofs.volume.parted.Goals as goal

pub new-requires-after_bounds : goal.new-requires-after_bounds
new-requires-after_bounds g c κs within = λ told told_data.
    sound_along g.W.World.files c.in-Open.store.path c.copy-known.result.path (IsImage (g.D.DataDev.seen c.parts-first.result.0).now) (IsMain (g.I.InfoDev.seen c.parts-first.result.1).now)
    (c.copy-known.ensures.path ∙ c.known.ensures.path) (c.parts-first.ensures.sound told told_data (c.requires told_data))

pub new-requires-in-Lent-after_bounds : goal.new-requires-in-Lent-after_bounds
new-requires-in-Lent-after_bounds g c κs within = λ told told_data.
    sound_along g.W.World.files c.in-Lent.loan.store.path c.copy-known-in-Lent.result.path (IsImage (g.D.DataDev.seen c.end-first.result.0).now) (IsMain (g.I.InfoDev.seen c.end-first.result.1).now)
    (c.copy-known-in-Lent.ensures.path ∙ c.known-in-Lent.ensures.path) (c.end-first.ensures.sound told told_data (c.requires told_data))

pub returns-in-Open-clause-claims : goal.returns-in-Open-clause-claims
returns-in-Open-clause-claims g c = rw c.in-Open.is
    (λ main is. let here = main_told g.I.InfoDev.told (g.I.InfoDev.seen c.in-Open.store.second).now main is in c.keeps.ensures.moments.claims here.0 main (inl here.1))
