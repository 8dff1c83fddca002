use Rattle.std.proofs.Common.{◌≡◌, ap, refl, subst, sym, ◌∙◌, arith}
use Rattle.std.specs.Prelude.{slice_index_or}
use Rattle.std.proofs.lemmas.List.{get_or_default}
use Rattle.pfc_actor.specs.declared.backing.Standing.TheVariants as standing
use Rattle.pfc_actor.specs.Backings.{BackingView, standing_of}
use Rattle.pfc_core.specs.View.{CoreView}
use Rattle.pfc_scene.specs.Scenes.{SceneView, IsScene, IsUnused}
use Rattle.pfc_scene.proofs.Volumes.{stand_bare}
use Rattle.pfc_scene.proofs.scene.Scene.prepare.Goals as goal

pub take_volume-requires-clause-unused : goal.take_volume-requires-clause-unused
take_volume-requires-clause-unused g c κs within e =
    let core = subst (λ (v : SceneView). c.index.result.now ≡ slice_index_or v.cores c.args.i c.index.result.now) c.self.view_is c.index.ensures in
    subst (λ (x : CoreView). IsUnused x) (core ∙ get_or_default c.args.self.now.cores c.args.i c.index.result.now e c.requires.i) (c.if-not-is_unused.ensures refl)

pub take_volume-requires-clause-bare : goal.take_volume-requires-clause-bare
take_volume-requires-clause-bare g c κs within e =
    let scene = subst IsScene c.self.view_is c.self.invariant in
    let low = c.requires.i in
    let long = scene.backed.long in
    let back = subst (λ (v : SceneView). c.index-2.result.now ≡ slice_index_or v.backings c.args.i c.index-2.result.now) c.self.view_is c.index-2.ensures in
    let same = back ∙ get_or_default c.args.self.now.backings c.args.i c.index-2.result.now e (omega (arith, low, long)) in
    sym (ap (λ (b : BackingView). b.stand) same) ∙ stand_bare c.index-2.result.now.stand (sym c.in-Bare.ensures)

pub open_store-requires-clause-unused : goal.open_store-requires-clause-unused
open_store-requires-clause-unused g c κs within e =
    let core = subst (λ (v : SceneView). c.index.result.now ≡ slice_index_or v.cores c.args.i c.index.result.now) c.self.view_is c.index.ensures in
    subst (λ (x : CoreView). IsUnused x) (core ∙ get_or_default c.args.self.now.cores c.args.i c.index.result.now e c.requires.i) (c.if-not-is_unused.ensures refl)

pub open_store-requires-clause-taken : goal.open_store-requires-clause-taken
open_store-requires-clause-taken g c κs within e =
    let scene = subst IsScene c.self.view_is c.self.invariant in
    let low = c.requires.i in
    let long = scene.backed.long in
    let back = subst (λ (v : SceneView). c.index-2.result.now ≡ slice_index_or v.backings c.args.i c.index-2.result.now) c.self.view_is c.index-2.ensures in
    let same = back ∙ get_or_default c.args.self.now.backings c.args.i c.index-2.result.now e (omega (arith, low, long)) in
    subst (λ (b : BackingView). standing_of b.stand ≡ standing.Taken) same (sym c.in-Taken.ensures)
