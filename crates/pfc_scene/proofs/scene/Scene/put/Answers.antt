use Rattle.std.proofs.Common.{rules}
use Rattle.pfc_scene.proofs.Moving.{moves_from}
use Rattle.pfc_scene.proofs.Scenes.{put_moves, put_scene}
use Rattle.pfc_scene.proofs.scene.Scene.put.Goals as goal

pub invariant_of-self : goal.invariant_of-self
invariant_of-self g c = put_scene _ c.args.j c.index_mut.result.now c.put.new.self c.put.new.queue c.self.invariant (search rules) c.index_mut.ensures.value c.put.ensures

pub returns : goal.returns
returns g c = moves_from _ _ _ c.self.view_is (put_moves _ c.args.j c.index_mut.result.now c.put.new.self c.put.new.queue c.index_mut.ensures.value c.put.ensures)
