use Rattle.std.proofs.Common.{rules}
use Rattle.pfc_scene.proofs.Casts.{no_core}
use Rattle.pfc_scene.proofs.Moving.{moves_from, moves_on}
use Rattle.pfc_scene.proofs.Scenes.{backing_moves, backing_scene, client_moves, client_scene}
use Rattle.pfc_scene.proofs.scene.Scene.read_at.Goals as goal

pub invariant_of-self : goal.invariant_of-self
invariant_of-self g c =
    client_scene _ c.args.j c.index_mut-2.result.now c.read.new.client
    (backing_scene _ c.args.i c.index_mut.result.now c.read.new.self c.self.invariant (search rules) c.index_mut.ensures.value c.read.ensures.keeps c.read.ensures.written) (search rules) c.index_mut-2.ensures.value c.read.ensures.own

pub returns : goal.returns
returns g c =
    moves_from _ _ _ c.self.view_is
    (moves_on _ _ _ (backing_moves _ c.args.i no_core c.index_mut.result.now c.read.new.self c.self.invariant (search rules) c.index_mut.ensures.value c.read.ensures.keeps)
    (client_moves _ c.args.j c.index_mut-2.result.now c.read.new.client c.index_mut-2.ensures.value c.read.ensures.own))
