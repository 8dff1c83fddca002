use Rattle.std.proofs.Common.{subst}
use Rattle.pfc_store.specs.Opens.{Restarts}
use Rattle.pfc_store.proofs.Opened.{restart_stands, restart_within}
use Rattle.pfc_store.proofs.Volumes.{sound_pairs}
use Rattle.pfc_store.proofs.store.FileStore.open_store.Goals as goal

pub assemble-requires-clause-stand : goal.assemble-requires-clause-stand
assemble-requires-clause-stand g c _ _ =
    let start = c.in-Ok.start in
    restart_stands g.W.World.told g.D.DataDev.told g.W.World.files c.args.known.path c.args.known.size c.args.block_size c.args.created start.head start.claimed (g.D.DataDev.seen c.args.first) (g.D.DataDev.seen c.ready.new.first) (g.I.InfoDev.seen c.args.second) (g.I.InfoDev.seen c.ready.new.second)
    c.args.known.right c.ready.ensures.images c.requires.sound
    (λ tells. subst (λ n. Restarts n c.args.block_size c.args.created (g.I.InfoDev.seen c.args.second).now.shown start.head start.claimed (g.I.InfoDev.seen c.ready.new.second).now) c.size.ensures (c.in-Ok.ensures.restart (c.requires.alike tells)))

pub assemble-requires-clause-mains : goal.assemble-requires-clause-mains
assemble-requires-clause-mains g c _ _ tells =
    let start = c.in-Ok.start in
    restart_within c.args.known.size c.args.block_size c.args.created start.head start.claimed (g.I.InfoDev.seen c.args.second).now.shown (g.I.InfoDev.seen c.ready.new.second).now
    (subst (λ n. Restarts n c.args.block_size c.args.created (g.I.InfoDev.seen c.args.second).now.shown start.head start.claimed (g.I.InfoDev.seen c.ready.new.second).now) c.size.ensures (c.in-Ok.ensures.restart tells))

pub returns-in-Ok-clause-sound : goal.returns-in-Ok-clause-sound
returns-in-Ok-clause-sound g c = rw c.assemble.ensures (λ told tells. sound_pairs g.W.World.files c.args.known.path (g.D.DataDev.seen c.args.first) (g.D.DataDev.seen c.ready.new.first) (g.I.InfoDev.seen c.args.second) (g.I.InfoDev.seen c.ready.new.second) (c.ready.ensures.images tells) (c.ready.ensures.mains (c.requires.alike tells)) (c.requires.sound told tells))

pub returns-in-Err-Device-clause-sound : goal.returns-in-Err-Device-clause-sound
returns-in-Err-Device-clause-sound g c told tells = sound_pairs g.W.World.files c.args.known.path (g.D.DataDev.seen c.args.first) (g.D.DataDev.seen c.ready.new.first) (g.I.InfoDev.seen c.args.second) (g.I.InfoDev.seen c.ready.new.second) (c.ready.ensures.images tells) (c.ready.ensures.mains (c.requires.alike tells)) (c.requires.sound told tells)

pub returns-in-Err-Memory-clause-sound : goal.returns-in-Err-Memory-clause-sound
returns-in-Err-Memory-clause-sound g c told tells = sound_pairs g.W.World.files c.args.known.path (g.D.DataDev.seen c.args.first) (g.D.DataDev.seen c.ready.new.first) (g.I.InfoDev.seen c.args.second) (g.I.InfoDev.seen c.ready.new.second) (c.ready.ensures.images tells) (c.ready.ensures.mains (c.requires.alike tells)) (c.requires.sound told tells)
