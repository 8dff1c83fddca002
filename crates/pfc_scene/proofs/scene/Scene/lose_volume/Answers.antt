use Rattle.std.proofs.Common.{◌≡◌, ◌<◌, length, subst, sym}
use Rattle.std.specs.Prelude.{slice_index_or}
use Rattle.pfc_actor.specs.Backings.{BackingView, Bare}
use Rattle.pfc_scene.specs.Scenes.{SceneView}
use Rattle.pfc_scene.proofs.Opening.{lost_owes, lost_scene, owes_from}
use Rattle.pfc_scene.proofs.Unused.{block_size_at, unused_at}
use Rattle.pfc_scene.proofs.scene.Scene.lose_volume.Goals as goal

pub without_volume-requires-clause-unused : goal.without_volume-requires-clause-unused
without_volume-requires-clause-unused g c κs within = unused_at _ _ c.args.i c.index.result.now c.self.view_is c.index.ensures c.requires.unused

pub without_volume-requires-clause-block_size : goal.without_volume-requires-clause-block_size
without_volume-requires-clause-block_size g c κs within = block_size_at _ _ c.args.i c.index.result.now c.self.view_is c.self.invariant c.requires.i c.index.ensures

pub invariant_of-self : goal.invariant_of-self
invariant_of-self g c =
    let low = subst (λ (v : SceneView). c.args.i < length v.cores) (sym c.self.view_is) c.requires.i in
    let none = subst (λ (v : SceneView). (e : BackingView) → (slice_index_or v.backings c.args.i e).stand ≡ Bare) (sym c.self.view_is) c.requires.bare in
    lost_scene _ c.args.i c.index.result.now c.in_ok-core.core _ c.put_core.ensures c.self.invariant low c.index.ensures none c.in_ok-core.ensures.renews c.in_ok-core.ensures.first

pub returns : goal.returns
returns g c =
    let low = subst (λ (v : SceneView). c.args.i < length v.cores) (sym c.self.view_is) c.requires.i in
    let none = subst (λ (v : SceneView). (e : BackingView) → (slice_index_or v.backings c.args.i e).stand ≡ Bare) (sym c.self.view_is) c.requires.bare in
    owes_from _ _ _ c.self.view_is (lost_owes _ c.args.i c.index.result.now c.in_ok-core.core _ c.put_core.ensures c.self.invariant low c.index.ensures none c.in_ok-core.ensures.renews c.in_ok-core.ensures.first)
