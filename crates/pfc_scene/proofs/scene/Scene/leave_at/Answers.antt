use Rattle.std.proofs.Common.{rules, ◌≡◌, ◌<◌, ◌++◌, ◌∷◌, [], ℕ, length, ap, sym, subst, ◌∙◌}
use Rattle.std.specs.Prelude.{Option, Some, IfSome, slice_index_or}
use Rattle.pfc_log.specs.declared.entry.Entry.TheVariants.{Direct}
use Rattle.pfc_log.specs.declared.entry.Way.TheVariants.{Device}
use Rattle.pfc_core.specs.View.{CoreView}
use Rattle.pfc_actor.specs.Backings.{AllowsLeave}
use Rattle.pfc_actor.specs.Clients.{ClientView, leaving_of}
use Rattle.pfc_actor.specs.Stages.{Here}
use Rattle.pfc_scene.specs.Scenes.{SceneView}
use Rattle.pfc_scene.proofs.Casts.{knows, same_at}
use Rattle.pfc_scene.proofs.Moving.{moves_from}
use Rattle.pfc_scene.proofs.Scenes.{jobs_at, leave_moves, leave_scene, same_moves, same_scene}
use Rattle.pfc_scene.proofs.scene.Scene.leave_at.Goals as goal

pub leave_at-requires-clause-knows : goal.leave_at-requires-clause-knows
leave_at-requires-clause-knows g c κs within =
    knows _ _ _ _ c.args.j c.args.i c.index_mut-then-allows.result.now c.index_mut-then-allows-2.result.now c.self.invariant.cast (search rules) (search rules) c.index_mut-then-allows.ensures.value c.index_mut-then-allows-2.ensures.value

pub leave_at-requires-clause-here : goal.leave_at-requires-clause-here
leave_at-requires-clause-here g c κs within =
    let a = c.index_mut-then-allows.result.now in let core = c.index_mut-then-allows-2.result.now in
    let here = subst (λ (v : SceneView). (d : ClientView) (e : CoreView) → Here (slice_index_or v.clients c.args.j d).book (slice_index_or v.clients c.args.j d).stage (slice_index_or v.cores c.args.i e)) (sym c.self.view_is) c.requires.here in
    subst (λ (x : ClientView). Here x.book x.stage core) (sym c.index_mut-then-allows.ensures.value)
    (subst (λ (v : CoreView). Here (slice_index_or c.self.inside.clients.items c.args.j a).book (slice_index_or c.self.inside.clients.items c.args.j a).stage v) (sym c.index_mut-then-allows-2.ensures.value) (here a core))

pub invariant_of-self : goal.invariant_of-self
invariant_of-self g c =
    let lj : c.args.j < length c.self.inside.clients.items = search rules in
    let li : c.args.i < length c.self.inside.cores.items = search rules in
    let a = c.index_mut-then-allows.result.now in let core = c.index_mut-then-allows-2.result.now in
    let leaves : leaving_of a.stage ≡ Some c.in-Some.block =
    ap (λ (v : ClientView). leaving_of v.stage) (same_at c.self.inside.clients.items c.args.j a c.index.result.now lj c.index_mut-then-allows.ensures.value c.index.ensures) ∙ sym c.leaving.ensures ∙ c.in-Some.is in
    let enters : c.leave_at.new.core.entries ≡ core.entries ++ Direct c.in-Some.block a.book.number Device ∷ [] =
    subst (λ (o : Option ℕ). IfSome o (λ i. c.leave_at.new.core.entries ≡ core.entries ++ Direct i a.book.number Device ∷ [])) leaves c.leave_at.ensures.enters in
    let allows = subst (λ (v : CoreView). AllowsLeave c.in-Some.block v c.index_mut.result.now c.allows.new.self)
    (same_at c.self.inside.cores.items c.args.i c.index-2.result.now core li c.index-2.ensures c.index_mut-then-allows-2.ensures.value) (c.allows.ensures.yes c.if-allows.true) in
    leave_scene _ c.args.j c.args.i c.in-Some.block a c.leave_at.new.self core c.leave_at.new.core c.index_mut.result.now c.allows.new.self c.self.invariant lj li
    c.index_mut-then-allows.ensures.value c.index_mut-then-allows-2.ensures.value c.index_mut.ensures.value c.leave_at.ensures.step enters allows (search rules)
    (jobs_at c.self.inside.cores.items c.args.i c.leave_at.new.core c.index-then-allows.result.now li c.index-then-allows.ensures c.own.ensures.jobs)

pub invariant_of-self-else-allows : goal.invariant_of-self-else-allows
invariant_of-self-else-allows g c = same_scene _ c.args.i c.index_mut.result.now c.allows.new.self c.self.invariant c.index_mut.ensures.value (c.allows.ensures.no c.if-allows.false)

pub returns-then-allows : goal.returns-then-allows
returns-then-allows g c =
    let lj : c.args.j < length c.self.inside.clients.items = search rules in
    let li : c.args.i < length c.self.inside.cores.items = search rules in
    let a = c.index_mut-then-allows.result.now in let core = c.index_mut-then-allows-2.result.now in
    let leaves : leaving_of a.stage ≡ Some c.in-Some.block =
    ap (λ (v : ClientView). leaving_of v.stage) (same_at c.self.inside.clients.items c.args.j a c.index.result.now lj c.index_mut-then-allows.ensures.value c.index.ensures) ∙ sym c.leaving.ensures ∙ c.in-Some.is in
    let enters : c.leave_at.new.core.entries ≡ core.entries ++ Direct c.in-Some.block a.book.number Device ∷ [] =
    subst (λ (o : Option ℕ). IfSome o (λ i. c.leave_at.new.core.entries ≡ core.entries ++ Direct i a.book.number Device ∷ [])) leaves c.leave_at.ensures.enters in
    let allows = subst (λ (v : CoreView). AllowsLeave c.in-Some.block v c.index_mut.result.now c.allows.new.self)
    (same_at c.self.inside.cores.items c.args.i c.index-2.result.now core li c.index-2.ensures c.index_mut-then-allows-2.ensures.value) (c.allows.ensures.yes c.if-allows.true) in
    moves_from _ _ _ c.self.view_is
    (leave_moves _ c.args.j c.args.i c.in-Some.block a c.leave_at.new.self core c.leave_at.new.core c.index_mut.result.now c.allows.new.self c.self.invariant li
    c.index_mut-then-allows.ensures.value c.index_mut-then-allows-2.ensures.value c.index_mut.ensures.value c.leave_at.ensures.step enters allows)

pub returns-else-allows : goal.returns-else-allows
returns-else-allows g c = moves_from _ _ _ c.self.view_is (same_moves _ c.args.i c.index_mut.result.now c.allows.new.self c.index_mut.ensures.value (c.allows.ensures.no c.if-allows.false))
