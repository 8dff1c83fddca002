use Rattle.std.proofs.Common.{◌≡◌, ◌<◌, length, subst, sym, ap, ◌∙◌, arith}
use Rattle.std.specs.Prelude.{slice_index_or}
use Rattle.pfc_core.specs.View.{CoreView}
use Rattle.std.proofs.lemmas.List.{get_or-set_same}
use Rattle.pfc_actor.specs.declared.backing.Standing.TheVariants as standing
use Rattle.pfc_actor.specs.Backings.{BackingView, IsOutAs, depot_of, path_in, standing_of}
use Rattle.pfc_scene.specs.Scenes.{SceneView, IsUnused}
use Rattle.pfc_scene.proofs.Finding.{found_home}
use Rattle.pfc_scene.proofs.Following.{persists_from}
use Rattle.pfc_scene.proofs.Opening.{lent_from, home_lent, home_pays, home_plays, home_scene, pays_from, plays_from, unlent_at}
use Rattle.pfc_scene.proofs.Volumes.{taken_unlent}
use Rattle.pfc_scene.proofs.scene.Scene.return_volume.Goals as goal

pub invariant_of-self : goal.invariant_of-self
invariant_of-self g c =
    let low = subst (λ (v : SceneView). c.args.i < length v.cores) (sym c.self.view_is) c.requires.i in
    let taken = subst (λ (v : SceneView). (e : BackingView) → standing_of (slice_index_or v.backings c.args.i e).stand ≡ standing.Taken) (sym c.self.view_is) c.requires.taken in
    let unlent = λ (e : BackingView). taken_unlent (slice_index_or c.self.inside.backings.items c.args.i e).stand (taken e) in
    home_scene _ c.args.i c.index_mut.result.now c.put_back.new.self c.put_back.ensures.bare c.self.invariant low c.index_mut.ensures.value (unlent_at _ c.args.i c.index_mut.result.now c.index_mut.ensures.value unlent)

pub returns-clause-lent : goal.returns-clause-lent
returns-clause-lent g c =
    let low = subst (λ (v : SceneView). c.args.i < length v.cores) (sym c.self.view_is) c.requires.i in
    let taken = subst (λ (v : SceneView). (e : BackingView) → standing_of (slice_index_or v.backings c.args.i e).stand ≡ standing.Taken) (sym c.self.view_is) c.requires.taken in
    let unlent = λ (e : BackingView). taken_unlent (slice_index_or c.self.inside.backings.items c.args.i e).stand (taken e) in
    let lent = lent_from _ _ _ c.self.view_is c.requires.lent in
    home_lent _ _ _ c.args.i c.index_mut.result.now c.put_back.new.self c.put_back.ensures.bare c.self.invariant low c.index_mut.ensures.value (unlent_at _ c.args.i c.index_mut.result.now c.index_mut.ensures.value unlent) c.put_back.ensures.back lent

pub returns-clause-plays : goal.returns-clause-plays
returns-clause-plays g c =
    let low = subst (λ (v : SceneView). c.args.i < length v.cores) (sym c.self.view_is) c.requires.i in
    let unused = subst (λ (v : SceneView). (e : CoreView) → IsUnused (slice_index_or v.cores c.args.i e)) (sym c.self.view_is) c.requires.unused in
    let taken = subst (λ (v : SceneView). (e : BackingView) → standing_of (slice_index_or v.backings c.args.i e).stand ≡ standing.Taken) (sym c.self.view_is) c.requires.taken in
    let unlent = λ (e : BackingView). taken_unlent (slice_index_or c.self.inside.backings.items c.args.i e).stand (taken e) in
    plays_from _ _ _ _ _ c.self.view_is
    (home_plays _ _ _ c.args.i c.index_mut.result.now c.put_back.new.self c.put_back.ensures.bare c.self.invariant low c.index_mut.ensures.value unused (unlent_at _ c.args.i c.index_mut.result.now c.index_mut.ensures.value unlent)
    c.put_back.ensures.back)

pub returns-clause-pays : goal.returns-clause-pays
returns-clause-pays g c =
    let low = subst (λ (v : SceneView). c.args.i < length v.cores) (sym c.self.view_is) c.requires.i in
    let unused = subst (λ (v : SceneView). (e : CoreView) → IsUnused (slice_index_or v.cores c.args.i e)) (sym c.self.view_is) c.requires.unused in
    let taken = subst (λ (v : SceneView). (e : BackingView) → standing_of (slice_index_or v.backings c.args.i e).stand ≡ standing.Taken) (sym c.self.view_is) c.requires.taken in
    let unlent = λ (e : BackingView). taken_unlent (slice_index_or c.self.inside.backings.items c.args.i e).stand (taken e) in
    pays_from _ _ c.args.i _ _ _ c.self.view_is
    (home_pays _ _ _ c.args.i c.index_mut.result.now c.put_back.new.self c.put_back.ensures.bare c.self.invariant low c.index_mut.ensures.value unused (unlent_at _ c.args.i c.index_mut.result.now c.index_mut.ensures.value unlent)
    c.put_back.ensures.back)

pub put_back-requires-clause-out : goal.put_back-requires-clause-out
put_back-requires-clause-out g c κs within =
    let low = subst (λ (v : SceneView). c.args.i < length v.cores) (sym c.self.view_is) c.requires.i in
    let lent = lent_from _ _ _ c.self.view_is c.requires.lent in
    let long = c.self.invariant.backed.long in
    subst (λ (b : BackingView). IsOutAs (path_in b.stand) b (depot_of g.P.Depot.out g.P.Depot.lent g.P.Depot.faults c.args.depot.now)) (sym c.index_mut.ensures.value) (lent.each c.args.i c.index_mut.result.now (omega (arith, low, long)))

pub returns-clause-bare : goal.returns-clause-bare
returns-clause-bare g c e =
    let low = subst (λ (v : SceneView). c.args.i < length v.cores) (sym c.self.view_is) c.requires.i in
    let long = c.self.invariant.backed.long in
    ap (λ (b : BackingView). b.stand) (get_or-set_same c.self.inside.backings.items c.args.i c.put_back.new.self e (omega (arith, low, long)) ∙ c.put_back.ensures.bare)

pub returns-clause-persists : goal.returns-clause-persists
returns-clause-persists g c told tells =
    let low = subst (λ (v : SceneView). c.args.i < length v.cores) (sym c.self.view_is) c.requires.i in
    let all_taken = subst (λ (v : SceneView). (e : BackingView) → standing_of (slice_index_or v.backings c.args.i e).stand ≡ standing.Taken) (sym c.self.view_is) c.requires.taken in
    let taken = subst (λ (b : BackingView). standing_of b.stand ≡ standing.Taken) (sym c.index_mut.ensures.value) (all_taken c.index_mut.result.now) in
    let sized = rw (c.known-known.ensures.path, c.known-known.ensures.size) at c.known-known.result.now.right told in
    persists_from _ _ _ _ _ _ c.self.view_is
    (found_home _ _ c.args.i c.index.result.now c.index_mut.result.now c.put_back.new.self _ _ c.put_back.ensures.bare c.self.invariant low c.index.ensures c.index_mut.ensures.value taken sized (c.put_back.ensures.mains tells))
