use Rattle.std.proofs.Common.{rules, ◌≡◌, ◌<◌, ◌++◌, ◌∷◌, [], ℕ, List, length, ap, subst, ◌∙◌, map, ◌==◌, false}
use Rattle.std.specs.Prelude.{slice_index_or}
use Rattle.std.proofs.Math.Seq.{map-set_same}
use Rattle.std.proofs.lemmas.List.{get_or_default, length-set}
use Rattle.pfc_actor.specs.Books.{BookView}
use Rattle.pfc_actor.specs.Clients.{ClientView}
use Rattle.pfc_scene.specs.Scenes.{SceneView, who, number_of, asked_more}
use Rattle.pfc_scene.proofs.Scenes.{asked_scene}
use Rattle.pfc_scene.proofs.Asking.{none_asked, one_asked}
use Rattle.pfc_scene.proofs.scene.Scene.ask.Goals as goal

pub returns-in_default-clause-asked : goal.returns-in_default-clause-asked
returns-in_default-clause-asked g c =
    subst (λ (v : SceneView). map who v.clients ≡ map (asked_more c.args.number c.args.line.now) (map who v.clients)) c.self.view_is
    (none_asked c.args.number c.args.line.now c.self.inside.clients.items
    (subst (λ (cs : List ClientView). (j : ℕ) (d : ClientView) → j < length cs → ((slice_index_or cs j d).book.number == c.args.number) ≡ false) c.deref.ensures.value c.in_default.ensures.none))

pub invariant_of-self : goal.invariant_of-self
invariant_of-self g c = asked_scene _ c.in-Some.j c.index_mut.result.now c.ask.new.self c.self.invariant (search rules) c.index_mut.ensures.value c.ask.ensures.moves

pub invariant_of-self-2 : goal.invariant_of-self-2
invariant_of-self-2 g c = asked_scene _ c.in-Some.j c.index_mut.result.now c.ask.new.self c.self.invariant (search rules) c.index_mut.ensures.value c.ask.ensures.moves

pub returns-clause-asked : goal.returns-clause-asked
returns-clause-asked g c =
    let low = subst (λ (cs : List ClientView). c.in-Some.j < length cs) c.deref.ensures.value c.in-Some.ensures.some.0 in
    let number : (d : ClientView) → (slice_index_or c.self.inside.clients.items c.in-Some.j d).book.number ≡ c.args.number = λ d. subst (λ (cs : List ClientView). (slice_index_or cs c.in-Some.j d).book.number ≡ c.args.number) c.deref.ensures.value (c.in-Some.ensures.some.1 d) in
    one_asked c.args.number c.args.line.now c.self.inside.clients.items c.in-Some.j c.ask.new.self c.self.invariant.cast.numbers low number
    (λ d. let same = c.index_mut.ensures.value ∙ get_or_default c.self.inside.clients.items c.in-Some.j c.index_mut.result.now d low in
    ap (λ (v : BookView). (v.number, v.asked)) c.in_ok-ask.ensures.ok ∙ ap (λ (v : ClientView). (v.book.number, v.book.asked ++ c.args.line.now ∷ [])) same
    ∙ ap (λ n. (n, (slice_index_or c.self.inside.clients.items c.in-Some.j d).book.asked ++ c.args.line.now ∷ [])) (number d))
    ∙ ap (λ (v : SceneView). map (asked_more c.args.number c.args.line.now) (map who v.clients)) c.self.view_is

pub returns-clause-numbers : goal.returns-clause-numbers
returns-clause-numbers g c =
    map-set_same number_of c.self.inside.clients.items c.in-Some.j c.ask.new.self c.index_mut.result.now (c.ask.ensures.moves.number ∙ ap number_of c.index_mut.ensures.value)
    ∙ ap (λ (v : SceneView). map number_of v.clients) c.self.view_is

pub returns-in_err-ask-clause-numbers : goal.returns-in_err-ask-clause-numbers
returns-in_err-ask-clause-numbers g c =
    map-set_same number_of c.self.inside.clients.items c.in-Some.j c.ask.new.self c.index_mut.result.now (c.ask.ensures.moves.number ∙ ap number_of c.index_mut.ensures.value)
    ∙ ap (λ (v : SceneView). map number_of v.clients) c.self.view_is

pub returns-in_err-ask-clause-length : goal.returns-in_err-ask-clause-length
returns-in_err-ask-clause-length g c = length-set c.self.inside.clients.items c.in-Some.j c.ask.new.self ∙ ap (λ (v : SceneView). length v.clients) c.self.view_is

pub returns-clause-length : goal.returns-clause-length
returns-clause-length g c = length-set c.self.inside.clients.items c.in-Some.j c.ask.new.self ∙ ap (λ (v : SceneView). length v.clients) c.self.view_is
