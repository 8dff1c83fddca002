use Rattle.std.proofs.Common.{List, [], ◌∷◌, ◌++◌, ap, ◌∙◌, refl, arith, rules}
use Rattle.pfc_actor.specs.Backings.{BackingView}
use Rattle.pfc_scene.proofs.Following.{asked_at}
use Rattle.pfc_scene.proofs.Moving.{moves_from}
use Rattle.pfc_scene.proofs.Opening.{made_moves, made_scene}
use Rattle.pfc_scene.proofs.Unused.{at_ok, unchanged_moves}
use Rattle.pfc_scene.proofs.scene.Scene.add_core.Goals as goal

pub returns-then-is_err : goal.returns-then-is_err
returns-then-is_err g c = unchanged_moves _ _ _ _ c.self.view_is refl c.reserve.ensures.items

pub push_reserved-requires : goal.push_reserved-requires
push_reserved-requires g c = let room = at_ok c.reserve.result c.is_err.result _ c.is_err.ensures.value c.if-is_err.false c.reserve.ensures.ok in omega (arith, room)

pub returns-in-None : goal.returns-in-None
returns-in-None g c = unchanged_moves _ _ _ _ c.self.view_is c.in-None.ensures.none c.reserve.ensures.items

pub invariant_of-self-in-Some-make_core : goal.invariant_of-self-in-Some-make_core
invariant_of-self-in-Some-make_core g c =
    let behind = c.push_reserved.ensures.items ∙ ap (λ (bs : List BackingView). bs ++ c.bare.result ∷ []) c.reserve.ensures.items ∙ ap (λ (b : BackingView). c.self.inside.backings.items ++ b ∷ []) c.bare.ensures in
    made_scene _ _ _ _ behind c.self.invariant c.in-Some-make_core.ensures.some

pub returns-in-Some-make_core : goal.returns-in-Some-make_core
returns-in-Some-make_core g c =
    let behind = c.push_reserved.ensures.items ∙ ap (λ (bs : List BackingView). bs ++ c.bare.result ∷ []) c.reserve.ensures.items ∙ ap (λ (b : BackingView). c.self.inside.backings.items ++ b ∷ []) c.bare.ensures in
    let asked = asked_at c.self.inside.clients.items c.args.j c.index.result.now c.in-Some.wanted.now.path (search rules) c.index.ensures c.in-Some.ensures.asked in
    moves_from _ _ _ c.self.view_is (made_moves _ _ _ _ behind c.self.invariant c.in-Some-make_core.ensures.some asked)
