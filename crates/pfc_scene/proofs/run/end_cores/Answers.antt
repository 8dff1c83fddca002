use Rattle.std.proofs.Common.{ℕ, List, subst, ◌∙◌, length, ap, arith}
use Rattle.std.proofs.lemmas.List.{length_push}
use Rattle.pfc_world.specs.Files.{HasSize}
use Rattle.pfc_scene.proofs.Reports.{sections_push}
use Rattle.pfc_scene.proofs.run.end_cores.Goals as goal

pub loop-core-preserved : goal.loop-core-preserved
loop-core-preserved g c = record {
  sections = rw c.push_reserved.ensures.items (sections_push _ _ _ _ _ _ c.loop-core.invariant.sections (record {
    path_is = c.copy-path.ensures ∙ c.path.ensures ∙ c.known.ensures.path;
    first_is = c.in-Ok.ensures.ok.0;
    entries_are = c.in-Ok.ensures.ok.1;
    complete = c.in-Ok.ensures.ok.3;
    settled = c.if-not-settled.ensures;
    durables = c.keeps.ensures.durable;
    claims = c.keeps.ensures.claimed;
    sized = let known = c.known.result.now in
        subst (λ (p : List ℕ). HasSize g.W.World.told g.W.World.files p c.in-Some.core.size) c.known.ensures.path (subst (λ (n : ℕ). HasSize g.W.World.told g.W.World.files known.path n) c.known.ensures.size known.right);
  }));
  same_length = let long = ap length c.push_reserved.ensures.items in omega (arith, long, length_push c.loop-core.logs.items (record { path = c.copy-path.result; log = c.in-Ok.retired.log }), length_push c.loop-core.yielded c.in-Some.core, c.loop-core.invariant.same_length);
  room = omega (arith, c.push_reserved.ensures.capacity, c.loop-core.invariant.room);
}
