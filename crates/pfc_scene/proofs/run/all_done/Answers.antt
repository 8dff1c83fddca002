use Rattle.std.proofs.Common.{rules}
use Rattle.pfc_actor.specs.Clients.{ClientView, IsDone}
use Rattle.pfc_scene.proofs.Casts.{more_rows}
use Rattle.pfc_scene.proofs.run.all_done.Goals as goal

pub loop-j-preserved : goal.loop-j-preserved
loop-j-preserved g c = more_rows (λ (a : ClientView). IsDone g.W.World.told g.W.World.files a.book a.line a.stage) c.args.clients.now c.loop-j.j c.index-clients-j.result (search rules) (search rules) (search rules) c.loop-j.invariant
