use Rattle.std.proofs.Common.{◌≡◌, inr, rules}
use Rattle.pfc_purge.proofs.Wiping.{in_turn_now, kept_in_turn, gone_in_turn}
use Rattle.pfc_purge.proofs.wiped.wipe.Goals as goal

pub returns-in-Ok-clause-order : goal.returns-in-Ok-clause-order
returns-in-Ok-clause-order g c tells = inr (c.parts-first.ensures.gone tells)

pub returns-in-Ok-clause-sound : goal.returns-in-Ok-clause-sound
returns-in-Ok-clause-sound g c path tells sound =
    let same : c.parts-first.result.1 ≡ c.in-Ok.bare.second = search rules in
    rw same (gone_in_turn g.W.World.files path (g.D.DataDev.seen c.args.first) (g.I.InfoDev.seen c.args.second) (g.I.InfoDev.seen c.in-Ok.bare.second) (c.in-Ok.ensures.mains tells) sound (g.D.DataDev.seen c.parts-first.result.0) (c.in-Ok.ensures.gone tells))

pub returns-in-Ok-clause-sound_now : goal.returns-in-Ok-clause-sound_now
returns-in-Ok-clause-sound_now g c path tells sound = in_turn_now g.W.World.files path (g.D.DataDev.seen c.args.first) (g.D.DataDev.seen c.parts-first.result.0) (g.I.InfoDev.seen c.args.second) (g.I.InfoDev.seen c.parts-first.result.1) (returns-in-Ok-clause-sound g c path tells sound)

pub returns-in-Err-clause-sound : goal.returns-in-Err-clause-sound
returns-in-Err-clause-sound g c path tells sound = rw c.in-Err.ensures.first (kept_in_turn g.W.World.files path (g.D.DataDev.seen c.args.first) (g.I.InfoDev.seen c.args.second) (g.I.InfoDev.seen c.in-Err.field-0.second) (c.in-Err.ensures.mains tells) sound)

pub returns-in-Err-clause-sound_now : goal.returns-in-Err-clause-sound_now
returns-in-Err-clause-sound_now g c path tells sound = in_turn_now g.W.World.files path (g.D.DataDev.seen c.args.first) (g.D.DataDev.seen c.in-Err.field-0.first) (g.I.InfoDev.seen c.args.second) (g.I.InfoDev.seen c.in-Err.field-0.second) (returns-in-Err-clause-sound g c path tells sound)
