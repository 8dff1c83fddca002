use Rattle.std.proofs.Common.{rules, length, ◌≡◌, ◌++◌, ◌∷◌, [], ℕ, List, ap, sym, subst, ◌∙◌, refl}
use Rattle.pfc_base.specs.Block.{count_of}
use Rattle.pfc_core.specs.View.{CoreView}
use Rattle.pfc_scene.specs.Scenes.{IsCore, IsAlone}
use Rattle.pfc_scene.proofs.cores.make_core.Goals as goal

pub returns-in-Ok-clause-some : goal.returns-in-Ok-clause-some
returns-in-Ok-clause-some g c =
    let core = c.in-Ok.core in let k = c.args.block_size in
    let last : c.len-i.result ≡ length c.args.cores.now.items = search rules in
    let here = subst (λ (cs : List CoreView). IsAlone cs c.path.result.now c.block_count.result) c.deref.ensures.value (c.if-not-is_alone.ensures refl) in
    let wanted : c.path.result.now ≡ c.args.wanted.now.path = c.path.ensures ∙ c.known-known.ensures.path in
    let blocks : c.block_count.result ≡ count_of core.size k = c.block_count.ensures ∙ ap (λ (n : ℕ). count_of n k) (c.size.ensures ∙ sym c.in-Ok.ensures.size) in
    record {
      core = core;
      behind = c.push_reserved.ensures.items ∙ ap (λ (cs : List CoreView). cs ++ core ∷ []) c.reserve.ensures.items;
      right = subst (λ (i : ℕ). IsCore k i core) last c.in-Ok.ensures.core;
      path_is = c.in-Ok.ensures.path ∙ c.known-known.ensures.path;
      unpaid = c.in-Ok.ensures.unpaid;
      entries = c.in-Ok.ensures.fresh.0;
      out = c.in-Ok.ensures.fresh.1;
      alone = subst (λ (n : ℕ). IsAlone c.args.cores.now.items c.args.wanted.now.path n) blocks (subst (λ (p : List ℕ). IsAlone c.args.cores.now.items p c.block_count.result) wanted here);
    }
