use Rattle.std.proofs.Common.{rules}
use Rattle.pfc_scene.proofs.Moving.{moves_not, moves_on}
use Rattle.pfc_scene.proofs.Scenes.{holds_low}
use Rattle.pfc_scene.proofs.scene.Scene.shut.Goals as goal

pub loop-descriptor-init : goal.loop-descriptor-init
loop-descriptor-init g c = record { moves = moves_not _; low = search rules }

pub loop-descriptor-preserved : goal.loop-descriptor-preserved
loop-descriptor-preserved g c = record { moves = moves_on _ _ _ c.loop-descriptor.invariant.moves c.shut_at.ensures; low = search rules }

pub shut_at-requires-clause-i : goal.shut_at-requires-clause-i
shut_at-requires-clause-i g c κs within = holds_low _ _ c.args.j c.in-Some.i c.index.result.now c.self.view_is c.self.invariant (search rules) c.index.ensures c.in-Some.ensures.holds
