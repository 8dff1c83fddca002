use Rattle.std.proofs.Common.{◌≡◌, ◌<◌, length, subst, sym}
use Rattle.std.specs.Prelude.{slice_index_or, slice_set}
use Rattle.pfc_core.specs.View.{CoreView}
use Rattle.pfc_actor.specs.Backings.{BackingView, Bare, IsBackingOf}
use Rattle.pfc_scene.specs.Scenes.{SceneView, IsScene}
use Rattle.pfc_scene.proofs.Opening.{stood_scene}
use Rattle.pfc_scene.proofs.scene.Scene.stand.Goals as goal

pub invariant_of-self : goal.invariant_of-self
invariant_of-self g c =
    let low = subst (λ (v : SceneView). c.args.i < length v.cores) (sym c.self.view_is) c.requires.i in
    let none = subst (λ (v : SceneView). (e : BackingView) → (slice_index_or v.backings c.args.i e).stand ≡ Bare) (sym c.self.view_is) c.requires.bare in
    let backs = subst (λ (v : SceneView). (e : CoreView) → IsBackingOf (slice_index_or v.cores c.args.i e) c.args.backing) (sym c.self.view_is) c.requires.backs in
    subst (λ (b : BackingView). IsScene (record {
      clients = c.self.inside.clients.items;
      cores = c.self.inside.cores.items;
      backings = slice_set c.self.inside.backings.items c.args.i b;
      writers = c.self.inside.writers.items;
      jobs = c.self.inside.queue.jobs;
      capacity = c.self.inside.queue.capacity;
      block_size = c.self.inside.block_size;
    })) (sym c.replace.ensures.after) (stood_scene _ c.args.i c.args.backing c.self.invariant low none c.requires.unlent backs)
