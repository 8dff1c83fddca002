use Rattle.std.proofs.Common.{[], refl, ap}
use Rattle.pfc_actor.proofs.BackingHomes.{sound_now}
use Rattle.pfc_actor.proofs.Leaving.{left_after, opens_found, starts_found}
use Rattle.pfc_actor.proofs.volume.opened_volume.Goals as goal

pub new-requires-after_bounds : goal.new-requires-after_bounds
new-requires-after_bounds g c κs within = λ told told_data.
    sound_now g.W.World.files c.volume.inside.known.path c.copy-kept.result.path (g.D.DataDev.seen c.volume.inside.first) (g.D.DataDev.seen c.in-Err-Device.first) (g.I.InfoDev.seen c.volume.inside.second) (g.I.InfoDev.seen c.in-Err-Device.second)
    c.copy-kept.ensures.path ((rw c.in-Err-Device.field-0-is at c.in-Err-Device.ensures.sound) told told_data)

pub new-requires-in-Err-Memory-after_bounds : goal.new-requires-in-Err-Memory-after_bounds
new-requires-in-Err-Memory-after_bounds g c κs within = λ told told_data.
    sound_now g.W.World.files c.volume.inside.known.path c.copy-kept.result.path (g.D.DataDev.seen c.volume.inside.first) (g.D.DataDev.seen c.in-Err-Memory.first) (g.I.InfoDev.seen c.volume.inside.second) (g.I.InfoDev.seen c.in-Err-Memory.second)
    c.copy-kept.ensures.path ((rw c.in-Err-Memory.field-0-is at c.in-Err-Memory.ensures.sound) told told_data)

pub returns-in-Ok-clause-found : goal.returns-in-Ok-clause-found
returns-in-Ok-clause-found g c =
    let size = c.volume.inside.known.size in let old = (g.I.InfoDev.seen c.volume.inside.second).now in let new = (g.I.InfoDev.seen c.in-Ok.store.second).now in
    rw (← c.volume.view_is)
    (opens_found g.I.InfoDev.told size c.args.block_size old new _ c.in-Ok.store.claimed c.in-Ok.store.durable (ap (λ s. s.durable) c.in-Ok.ensures.opens)
    (λ told. record {
      left = λ found. left_after size c.args.block_size found old new (c.in-Ok.ensures.mains told).now (λ ours. (c.in-Ok.ensures.kept told ours).now);
      starts = λ is_open found. starts_found size c.args.block_size found old new c.args.created c.in-Ok.store.head c.in-Ok.store.claimed (c.in-Ok.ensures.restart told);
      durable_is = ap (λ s. s.durable) c.in-Ok.ensures.opens;
    }))

pub returns-in-Err-Device-clause-found : goal.returns-in-Err-Device-clause-found
returns-in-Err-Device-clause-found g c =
    let size = c.volume.inside.known.size in let old = (g.I.InfoDev.seen c.volume.inside.second).now in let new = (g.I.InfoDev.seen c.in-Err-Device.second).now in
    let ensures = rw c.in-Err-Device.field-0-is at c.in-Err-Device.ensures in
    rw (← c.volume.view_is, c.new.ensures)
    (opens_found g.I.InfoDev.told size c.args.block_size old new _ [] [] refl
    (λ told. record { left = λ found. left_after size c.args.block_size found old new (ensures.mains told).now (λ ours. (ensures.kept told ours).now); starts = λ is_open. absurd is_open; durable_is = refl }))

pub returns-in-Err-Memory-clause-found : goal.returns-in-Err-Memory-clause-found
returns-in-Err-Memory-clause-found g c =
    let size = c.volume.inside.known.size in let old = (g.I.InfoDev.seen c.volume.inside.second).now in let new = (g.I.InfoDev.seen c.in-Err-Memory.second).now in
    let ensures = rw c.in-Err-Memory.field-0-is at c.in-Err-Memory.ensures in
    rw (← c.volume.view_is, c.new-in-Err-Memory.ensures)
    (opens_found g.I.InfoDev.told size c.args.block_size old new _ [] [] refl
    (λ told. record { left = λ found. left_after size c.args.block_size found old new (ensures.mains told).now (λ ours. (ensures.kept told ours).now); starts = λ is_open. absurd is_open; durable_is = refl }))
