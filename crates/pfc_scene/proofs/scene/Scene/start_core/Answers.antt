use Rattle.std.proofs.Common.{◌≡◌, ◌<◌, ◌∙◌, ap, arith, length, subst, sym, ℕ}
use Rattle.std.specs.Prelude.{Err, slice_index_or}
use Rattle.pfc_actor.specs.declared.backing.Standing.TheVariants as standing
use Rattle.pfc_actor.specs.Backings.{BackingView, standing_of}
use Rattle.pfc_scene.specs.Scenes.{SceneView, StartsCore, StartsNot}
use Rattle.pfc_scene.proofs.Moving.{moves_from}
use Rattle.pfc_scene.proofs.Opening.{opened_covers, started_moves, started_scene, taken_there, unopened_moves, unopened_scene}
use Rattle.pfc_scene.proofs.Unused.{block_size_at, core_right, few_at, stands_at, unused_at}
use Rattle.pfc_scene.proofs.Volumes.{taken_unlent}
use Rattle.pfc_scene.proofs.scene.Scene.start_core.Goals as goal

pub open_beside-requires-clause-unused : goal.open_beside-requires-clause-unused
open_beside-requires-clause-unused g c κs within = unused_at _ _ c.args.i c.index.result.now c.self.view_is c.index.ensures c.requires.unused

pub open_beside-requires-clause-block_size : goal.open_beside-requires-clause-block_size
open_beside-requires-clause-block_size g c κs within = block_size_at _ _ c.args.i c.index.result.now c.self.view_is c.self.invariant c.requires.i c.index.ensures

pub open_beside-requires-clause-few : goal.open_beside-requires-clause-few
open_beside-requires-clause-few g c κs within =
    let unused = unused_at _ _ c.args.i c.index.result.now c.self.view_is c.index.ensures c.requires.unused in
    few_at _ _ c.args.i c.index.result.now c.self.view_is c.self.invariant c.requires.i c.index.ensures unused.0

pub open_beside-requires-clause-stands : goal.open_beside-requires-clause-stands
open_beside-requires-clause-stands g c κs within = stands_at _ _ c.args.i c.index.result.now c.index_mut.result.now c.self.view_is c.self.invariant c.requires.i c.index.ensures c.index_mut.ensures.value

pub open_beside-requires-clause-taken : goal.open_beside-requires-clause-taken
open_beside-requires-clause-taken g c κs within =
    let all_taken = subst (λ (v : SceneView). (e : BackingView) → standing_of (slice_index_or v.backings c.args.i e).stand ≡ standing.Taken) (sym c.self.view_is) c.requires.taken in
    subst (λ (b : BackingView). standing_of b.stand ≡ standing.Taken) (sym c.index_mut.ensures.value) (all_taken c.index_mut.result.now)

pub invariant_of-self-in-Err : goal.invariant_of-self-in-Err
invariant_of-self-in-Err g c =
    let low = subst (λ (v : SceneView). c.args.i < length v.cores) (sym c.self.view_is) c.requires.i in
    let all_taken = subst (λ (v : SceneView). (e : BackingView) → standing_of (slice_index_or v.backings c.args.i e).stand ≡ standing.Taken) (sym c.self.view_is) c.requires.taken in
    let taken = subst (λ (b : BackingView). standing_of b.stand ≡ standing.Taken) (sym c.index_mut.ensures.value) (all_taken c.index_mut.result.now) in
    unopened_scene _ c.args.i c.index.result.now c.index_mut.result.now c.open_beside.new.backing c.self.invariant low c.index.ensures c.index_mut.ensures.value (taken_unlent c.index_mut.result.now.stand taken) c.in-Err.ensures.err.stand_is
    c.open_beside.ensures.before c.open_beside.ensures.unspent c.open_beside.ensures.later

pub returns-in-Err-clause-moves : goal.returns-in-Err-clause-moves
returns-in-Err-clause-moves g c =
    let low = subst (λ (v : SceneView). c.args.i < length v.cores) (sym c.self.view_is) c.requires.i in
    let all_taken = subst (λ (v : SceneView). (e : BackingView) → standing_of (slice_index_or v.backings c.args.i e).stand ≡ standing.Taken) (sym c.self.view_is) c.requires.taken in
    let taken = subst (λ (b : BackingView). standing_of b.stand ≡ standing.Taken) (sym c.index_mut.ensures.value) (all_taken c.index_mut.result.now) in
    let block = (core_right _ _ c.args.i c.index.result.now c.self.view_is c.self.invariant c.requires.i c.index.ensures).block_size_is in
    let not = subst (λ (k : ℕ). StartsNot k c.index.result.now c.index_mut.result.now c.open_beside.new.backing) block c.in-Err.ensures.err in
    moves_from _ _ _ c.self.view_is
    (unopened_moves _ c.args.i c.index.result.now c.index_mut.result.now c.open_beside.new.backing c.self.invariant low c.index.ensures c.index_mut.ensures.value (taken_unlent c.index_mut.result.now.stand taken) not c.open_beside.ensures.before)

pub returns-in-Err-clause-taken : goal.returns-in-Err-clause-taken
returns-in-Err-clause-taken g c =
    let low = subst (λ (v : SceneView). c.args.i < length v.cores) (sym c.self.view_is) c.requires.i in
    let long = c.self.invariant.backed.long in
    let all_taken = subst (λ (v : SceneView). (e : BackingView) → standing_of (slice_index_or v.backings c.args.i e).stand ≡ standing.Taken) (sym c.self.view_is) c.requires.taken in
    let taken = subst (λ (b : BackingView). standing_of b.stand ≡ standing.Taken) (sym c.index_mut.ensures.value) (all_taken c.index_mut.result.now) in
    (taken_there c.self.inside.backings.items c.args.i c.open_beside.new.backing (omega (arith, low, long)) (ap standing_of c.in-Err.ensures.err.stand_is ∙ taken))

pub returns-in-Err-clause-covers : goal.returns-in-Err-clause-covers
returns-in-Err-clause-covers g c =
    let low = subst (λ (v : SceneView). c.args.i < length v.cores) (sym c.self.view_is) c.requires.i in
    let all_taken = subst (λ (v : SceneView). (e : BackingView) → standing_of (slice_index_or v.backings c.args.i e).stand ≡ standing.Taken) (sym c.self.view_is) c.requires.taken in
    let taken = subst (λ (b : BackingView). standing_of b.stand ≡ standing.Taken) (sym c.index_mut.ensures.value) (all_taken c.index_mut.result.now) in
    opened_covers {T = Unit {0}} (Err c.in-Err.refusal) _ c.args.i c.index_mut.result.now c.open_beside.new.backing c.self.invariant low c.index_mut.ensures.value (taken_unlent c.index_mut.result.now.stand taken) c.open_beside.ensures.before c.open_beside.ensures.later
    c.in-Err.ensures.cause

pub invariant_of-self : goal.invariant_of-self
invariant_of-self g c =
    let low = subst (λ (v : SceneView). c.args.i < length v.cores) (sym c.self.view_is) c.requires.i in
    let all_taken = subst (λ (v : SceneView). (e : BackingView) → standing_of (slice_index_or v.backings c.args.i e).stand ≡ standing.Taken) (sym c.self.view_is) c.requires.taken in
    let taken = subst (λ (b : BackingView). standing_of b.stand ≡ standing.Taken) (sym c.index_mut.ensures.value) (all_taken c.index_mut.result.now) in
    let block = (core_right _ _ c.args.i c.index.result.now c.self.view_is c.self.invariant c.requires.i c.index.ensures).block_size_is in
    let starts = subst (λ (k : ℕ). StartsCore k c.index.result.now c.index_mut.result.now c.in-Ok.core c.open_beside.new.backing) block c.in-Ok.ensures.ok in
    started_scene _ c.args.i c.index.result.now c.in-Ok.core c.index_mut.result.now c.open_beside.new.backing _ c.put_core.ensures c.self.invariant low c.index.ensures c.index_mut.ensures.value (taken_unlent c.index_mut.result.now.stand taken) starts
    c.open_beside.ensures.before c.open_beside.ensures.unspent c.open_beside.ensures.later

pub returns-in-Ok-clause-moves : goal.returns-in-Ok-clause-moves
returns-in-Ok-clause-moves g c =
    let low = subst (λ (v : SceneView). c.args.i < length v.cores) (sym c.self.view_is) c.requires.i in
    let all_taken = subst (λ (v : SceneView). (e : BackingView) → standing_of (slice_index_or v.backings c.args.i e).stand ≡ standing.Taken) (sym c.self.view_is) c.requires.taken in
    let taken = subst (λ (b : BackingView). standing_of b.stand ≡ standing.Taken) (sym c.index_mut.ensures.value) (all_taken c.index_mut.result.now) in
    let block = (core_right _ _ c.args.i c.index.result.now c.self.view_is c.self.invariant c.requires.i c.index.ensures).block_size_is in
    let starts = subst (λ (k : ℕ). StartsCore k c.index.result.now c.index_mut.result.now c.in-Ok.core c.open_beside.new.backing) block c.in-Ok.ensures.ok in
    moves_from _ _ _ c.self.view_is
    (started_moves _ c.args.i c.index.result.now c.in-Ok.core c.index_mut.result.now c.open_beside.new.backing _ c.put_core.ensures c.self.invariant low c.index.ensures c.index_mut.ensures.value (taken_unlent c.index_mut.result.now.stand taken) starts
    c.open_beside.ensures.before)
