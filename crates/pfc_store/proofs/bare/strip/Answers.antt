use Rattle.std.proofs.Common.{refl}
use Rattle.pfc_store.proofs.Volumes.{sound_pairs, images_stay}
use Rattle.pfc_store.proofs.bare.strip.Goals as goal

pub invariant_of-result : goal.invariant_of-result
invariant_of-result g c tells = c.in-Ok.ensures.gone refl tells

pub returns-in-Ok-clause-gone : goal.returns-in-Ok-clause-gone
returns-in-Ok-clause-gone g c tells = c.in-Ok.ensures.gone refl tells

pub returns-in-Ok-clause-sound : goal.returns-in-Ok-clause-sound
returns-in-Ok-clause-sound g c path tells sound = sound_pairs g.W.World.files path (g.D.DataDev.seen c.args.first) (g.D.DataDev.seen c.args.first) (g.I.InfoDev.seen c.args.second) (g.I.InfoDev.seen c.take_main.new.second) (images_stay (g.D.DataDev.seen c.args.first)) (c.take_main.ensures.mains tells) sound

pub returns-in-Err-clause-sound : goal.returns-in-Err-clause-sound
returns-in-Err-clause-sound g c path tells sound = sound_pairs g.W.World.files path (g.D.DataDev.seen c.args.first) (g.D.DataDev.seen c.args.first) (g.I.InfoDev.seen c.args.second) (g.I.InfoDev.seen c.take_main.new.second) (images_stay (g.D.DataDev.seen c.args.first)) (c.take_main.ensures.mains tells) sound
