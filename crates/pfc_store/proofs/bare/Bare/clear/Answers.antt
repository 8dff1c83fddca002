use Rattle.pfc_world.specs.Disk.{ImageSince}
use Rattle.pfc_world.specs.Run.{moment}
use Rattle.pfc_store.proofs.Volumes.{sound_gone}
use Rattle.pfc_store.proofs.bare.Bare.clear.Goals as goal

pub returns-clause-sound : goal.returns-clause-sound
returns-clause-sound g c = rw (← c.self.view_is) (λ path tells. sound_gone g.W.World.files path (ImageSince (g.D.DataDev.seen c.clear.new.first) (moment (g.D.DataDev.seen c.self.inside.first))) (g.I.InfoDev.seen c.self.inside.second) (c.self.invariant tells))
