use Rattle.std.proofs.Common.{◌≡◌, refl, subst, ◌∙◌, arith}
use Rattle.std.specs.Prelude.{slice_index_or}
use Rattle.pfc_scene.specs.Scenes.{SceneView, IsScene}
use Rattle.pfc_scene.proofs.Finding.{taken_persists}
use Rattle.pfc_scene.proofs.Following.{goes_persists, goes_still, owes_persists}
use Rattle.pfc_scene.proofs.Moving.{counts_plays, owes_plays}
use Rattle.pfc_scene.proofs.Opening.{is_home, lent_from, plays_to, stood_plays, taken_backs, taken_stands}
use Rattle.pfc_scene.proofs.Volumes.{lent_stays, lent_taken}
use Rattle.pfc_scene.proofs.scene.Scene.take_volume.Goals as goal

pub take-requires-clause-home : goal.take-requires-clause-home
take-requires-clause-home g c κs within =
    let scene = subst IsScene c.self.view_is c.self.invariant in
    let core = subst (λ (v : SceneView). c.index.result.now ≡ slice_index_or v.cores c.args.i c.index.result.now) c.self.view_is c.index.ensures in
    is_home _ _ c.args.i c.index.result.now c.copy.result.path scene c.requires.lent c.requires.i core (c.copy.ensures.path ∙ c.known.ensures.path) c.requires.unused c.requires.bare

pub stand-requires-clause-unlent : goal.stand-requires-clause-unlent
stand-requires-clause-unlent g c κs within = taken_stands _ _ _ _ _ c.in-Ok.ensures.taken

pub stand-requires-clause-backs : goal.stand-requires-clause-backs
stand-requires-clause-backs g c κs within =
    let core = subst (λ (v : SceneView). c.index.result.now ≡ slice_index_or v.cores c.args.i c.index.result.now) c.self.view_is c.index.ensures in
    taken_backs c.args.self.now.cores c.args.i c.index.result.now _ _ _ _ _ c.requires.i core (c.copy.ensures.path ∙ c.known.ensures.path) (c.copy.ensures.size ∙ c.known.ensures.size) c.requires.unused c.in-Ok.ensures.taken

pub returns-in-Ok-clause-lent : goal.returns-in-Ok-clause-lent
returns-in-Ok-clause-lent g c =
    let scene = subst IsScene c.self.view_is c.self.invariant in
    let core = subst (λ (v : SceneView). c.index.result.now ≡ slice_index_or v.cores c.args.i c.index.result.now) c.self.view_is c.index.ensures in
    let home = is_home _ _ c.args.i c.index.result.now c.copy.result.path scene c.requires.lent c.requires.i core (c.copy.ensures.path ∙ c.known.ensures.path) c.requires.unused c.requires.bare in
    let low = c.requires.i in
    let long = scene.backed.long in
    lent_from _ _ _ c.stand.ensures (lent_taken _ _ _ c.args.i _ _ _ (omega (arith, low, long)) c.requires.bare home c.in-Ok.ensures.taken c.requires.lent)

pub returns-in-Ok-clause-plays : goal.returns-in-Ok-clause-plays
returns-in-Ok-clause-plays g c =
    let scene = subst IsScene c.self.view_is c.self.invariant in
    plays_to _ _ _ _ _ c.stand.ensures (stood_plays _ _ _ c.args.i _ scene c.requires.i (taken_stands _ _ _ _ _ c.in-Ok.ensures.taken) c.in-Ok.ensures.cause)

pub returns-in-Err-Fault-clause-lent : goal.returns-in-Err-Fault-clause-lent
returns-in-Err-Fault-clause-lent g c = lent_stays _ _ _ c.in-Err-Fault.ensures.stays (c.lose_volume.ensures.lent _ c.requires.lent)

pub returns-in-Err-Fault-clause-plays : goal.returns-in-Err-Fault-clause-plays
returns-in-Err-Fault-clause-plays g c =
    let cause = rw c.in-Err-Fault.field-0-is at c.in-Err-Fault.ensures.cause in
    owes_plays _ _ _ _ c.lose_volume.ensures cause.0 cause.1

pub returns-in-Err-Memory-clause-lent : goal.returns-in-Err-Memory-clause-lent
returns-in-Err-Memory-clause-lent g c = lent_stays _ _ _ c.in-Err-Memory.ensures.stays c.requires.lent

pub returns-in-Err-Memory-clause-plays : goal.returns-in-Err-Memory-clause-plays
returns-in-Err-Memory-clause-plays g c = counts_plays _ _ _ (rw c.in-Err-Memory.field-0-is at c.in-Err-Memory.ensures.cause)

pub returns-in-Ok-clause-persists : goal.returns-in-Ok-clause-persists
returns-in-Ok-clause-persists g c told tells =
    let scene = subst IsScene c.self.view_is c.self.invariant in
    let core = subst (λ (v : SceneView). c.index.result.now ≡ slice_index_or v.cores c.args.i c.index.result.now) c.self.view_is c.index.ensures in
    let path = c.copy.ensures.path ∙ c.known.ensures.path in
    let sized = rw (c.known.ensures.path, c.known.ensures.size) at c.known.result.now.right told in
    taken_persists _ _ _ c.args.i c.index.result.now _ _ _ _ _ c.stand.ensures scene c.requires.i core c.in-Ok.ensures.taken.stand_is path sized (c.in-Ok.ensures.mains tells) (c.in-Ok.ensures.found tells)

pub returns-in-Err-Fault-clause-persists : goal.returns-in-Err-Fault-clause-persists
returns-in-Err-Fault-clause-persists g c told tells = owes_persists _ _ _ _ _ c.lose_volume.ensures (c.in-Err-Fault.ensures.mains tells)

pub returns-in-Err-Memory-clause-persists : goal.returns-in-Err-Memory-clause-persists
returns-in-Err-Memory-clause-persists g c told tells = goes_persists _ _ _ _ _ refl (goes_still _ _ refl refl refl) (c.in-Err-Memory.ensures.mains tells)
