use Rattle.std.proofs.Common.{Option, inl, refl, subst}
use Rattle.std.specs.Prelude.{MatchOption}
use Rattle.pfc_base.specs.Cinfo.{Cinfo}
use Rattle.pfc_world.specs.Disk.{IsImage}
use Rattle.pfc_store.specs.Claims.{Says}
use Rattle.pfc_store.specs.Volume.{SaysNothing}
use Rattle.pfc_store.proofs.Volumes.{keeps_takes, keeps_then_takes, sound_with_old, sound_in_order}
use Rattle.pfc_store.proofs.found.survey.Goals as goal

pub returns-in-Err-clause-mains : goal.returns-in-Err-clause-mains
returns-in-Err-clause-mains g c tells = keeps_takes (g.I.InfoDev.seen c.args.second.now) (g.I.InfoDev.seen c.judge.new.second) (c.judge.ensures.mains tells)

pub returns-in-Err-clause-sound : goal.returns-in-Err-clause-sound
returns-in-Err-clause-sound g c path tells sound = sound_with_old g.W.World.files path (IsImage (g.D.DataDev.seen c.args.first.now).now) (g.I.InfoDev.seen c.args.second.now) (g.I.InfoDev.seen c.judge.new.second) (keeps_takes (g.I.InfoDev.seen c.args.second.now) (g.I.InfoDev.seen c.judge.new.second) (c.judge.ensures.mains tells)) sound

pub returns-in-Err-clause-sound_now : goal.returns-in-Err-clause-sound_now
returns-in-Err-clause-sound_now g c path tells sound = sound_in_order g.W.World.files path g.D.DataDev.seen c.args.first.now c.args.first.now (g.I.InfoDev.seen c.args.second.now) (g.I.InfoDev.seen c.judge.new.second) (keeps_takes (g.I.InfoDev.seen c.args.second.now) (g.I.InfoDev.seen c.judge.new.second) (c.judge.ensures.mains tells)) (inl refl) sound

pub returns-in-Some-clause-mains : goal.returns-in-Some-clause-mains
returns-in-Some-clause-mains g c tells = keeps_takes (g.I.InfoDev.seen c.args.second.now) (g.I.InfoDev.seen c.judge.new.second) (c.judge.ensures.mains tells)

pub returns-in-Some-clause-sound : goal.returns-in-Some-clause-sound
returns-in-Some-clause-sound g c path tells sound = sound_with_old g.W.World.files path (IsImage (g.D.DataDev.seen c.args.first.now).now) (g.I.InfoDev.seen c.args.second.now) (g.I.InfoDev.seen c.judge.new.second) (keeps_takes (g.I.InfoDev.seen c.args.second.now) (g.I.InfoDev.seen c.judge.new.second) (c.judge.ensures.mains tells)) sound

pub returns-in-Some-clause-sound_now : goal.returns-in-Some-clause-sound_now
returns-in-Some-clause-sound_now g c path tells sound = sound_in_order g.W.World.files path g.D.DataDev.seen c.args.first.now c.args.first.now (g.I.InfoDev.seen c.args.second.now) (g.I.InfoDev.seen c.judge.new.second) (keeps_takes (g.I.InfoDev.seen c.args.second.now) (g.I.InfoDev.seen c.judge.new.second) (c.judge.ensures.mains tells)) (inl refl) sound

pub returns-in-Ok-empty-clause-mains : goal.returns-in-Ok-empty-clause-mains
returns-in-Ok-empty-clause-mains g c tells = keeps_then_takes (g.I.InfoDev.seen c.args.second.now) (g.I.InfoDev.seen c.judge.new.second) (g.I.InfoDev.seen c.empty.new.second) (c.judge.ensures.mains tells) (c.empty.ensures.mains tells)

pub returns-in-Ok-empty-clause-sound : goal.returns-in-Ok-empty-clause-sound
returns-in-Ok-empty-clause-sound g c path tells sound = sound_with_old g.W.World.files path (IsImage (g.D.DataDev.seen c.args.first.now).now) (g.I.InfoDev.seen c.args.second.now) (g.I.InfoDev.seen c.empty.new.second) (keeps_then_takes (g.I.InfoDev.seen c.args.second.now) (g.I.InfoDev.seen c.judge.new.second) (g.I.InfoDev.seen c.empty.new.second) (c.judge.ensures.mains tells) (c.empty.ensures.mains tells)) sound

pub returns-in-Ok-empty-clause-sound_now : goal.returns-in-Ok-empty-clause-sound_now
returns-in-Ok-empty-clause-sound_now g c path tells sound = sound_in_order g.W.World.files path g.D.DataDev.seen c.args.first.now c.empty.new.first (g.I.InfoDev.seen c.args.second.now) (g.I.InfoDev.seen c.empty.new.second) (keeps_then_takes (g.I.InfoDev.seen c.args.second.now) (g.I.InfoDev.seen c.judge.new.second) (g.I.InfoDev.seen c.empty.new.second) (c.judge.ensures.mains tells) (c.empty.ensures.mains tells)) (c.empty.ensures.order tells) sound

pub returns-in-Err-empty-clause-mains : goal.returns-in-Err-empty-clause-mains
returns-in-Err-empty-clause-mains g c tells = keeps_then_takes (g.I.InfoDev.seen c.args.second.now) (g.I.InfoDev.seen c.judge.new.second) (g.I.InfoDev.seen c.empty.new.second) (c.judge.ensures.mains tells) (c.empty.ensures.mains tells)

pub returns-in-Err-empty-clause-sound : goal.returns-in-Err-empty-clause-sound
returns-in-Err-empty-clause-sound g c path tells sound = sound_with_old g.W.World.files path (IsImage (g.D.DataDev.seen c.args.first.now).now) (g.I.InfoDev.seen c.args.second.now) (g.I.InfoDev.seen c.empty.new.second) (keeps_then_takes (g.I.InfoDev.seen c.args.second.now) (g.I.InfoDev.seen c.judge.new.second) (g.I.InfoDev.seen c.empty.new.second) (c.judge.ensures.mains tells) (c.empty.ensures.mains tells)) sound

pub returns-in-Err-empty-clause-sound_now : goal.returns-in-Err-empty-clause-sound_now
returns-in-Err-empty-clause-sound_now g c path tells sound = sound_in_order g.W.World.files path g.D.DataDev.seen c.args.first.now c.empty.new.first (g.I.InfoDev.seen c.args.second.now) (g.I.InfoDev.seen c.empty.new.second) (keeps_then_takes (g.I.InfoDev.seen c.args.second.now) (g.I.InfoDev.seen c.judge.new.second) (g.I.InfoDev.seen c.empty.new.second) (c.judge.ensures.mains tells) (c.empty.ensures.mains tells)) (c.empty.ensures.order tells) sound

pub returns-in-Some-clause-found : goal.returns-in-Some-clause-found
returns-in-Some-clause-found g c tells =
    let shown = (g.I.InfoDev.seen c.args.second.now).now.shown in
    let found = c.in-Ok.ensures.found tells in
    (subst (λ (o : Option Cinfo). MatchOption o (SaysNothing shown) (λ d. Says shown d)) c.in-Some.is found.2, found.0)

pub returns-in-Ok-empty-clause-found : goal.returns-in-Ok-empty-clause-found
returns-in-Ok-empty-clause-found g c tells =
    let shown = (g.I.InfoDev.seen c.args.second.now).now.shown in
    let found = c.in-Ok.ensures.found tells in
    (subst (λ (o : Option Cinfo). MatchOption o (SaysNothing shown) (λ d. Says shown d)) c.in_default.is found.2, c.in-Ok-empty.ensures.gone refl tells)
