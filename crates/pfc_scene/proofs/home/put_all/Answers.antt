use Rattle.std.proofs.Common.{◌≡◌, ◌∙◌, List, [], length, refl, rules, subst}
use Rattle.pfc_world.specs.Counts.{RoseBy}
use Rattle.pfc_actor.specs.Backings.{BackingView, depot_of}
use Rattle.pfc_scene.specs.Scenes.{IsLentBy, settled}
use Rattle.pfc_scene.specs.Ends.{PutsFrom}
use Rattle.pfc_scene.proofs.Homes.{all_first, fewer_first, last_out, none_out, none_put, pop_lent, pop_mains, pop_paid, settled_all}
use Rattle.pfc_scene.proofs.home.put_all.Goals as goal

pub loop-backing-init : goal.loop-backing-init
loop-backing-init g c = record {
  sound = c.requires.sound;
  lent = c.requires.lent;
  first = all_first _;
  paid = λ cores backed f rose. rose;
  mains = λ told. none_put _ _;
  unlisted = refl;
}

pub put_back-requires-clause-out : goal.put_back-requires-clause-out
put_back-requires-clause-out g c κs within = last_out _ _ _ _ c.in-Some.ensures.items c.loop-backing.invariant.lent

pub loop-backing-preserved : goal.loop-backing-preserved
loop-backing-preserved g c = record {
  sound = c.put_back.ensures.sound;
  lent = pop_lent _ _ _ _ _ c.in-Some.ensures.items c.loop-backing.invariant.lent c.put_back.ensures.back;
  first = fewer_first _ _ _ _ c.in-Some.ensures.items c.loop-backing.invariant.first;
  paid = λ cores backed f rose. pop_paid cores _ _ _ _ _ _ f backed c.loop-backing.invariant.first c.in-Some.ensures.items c.put_back.ensures.back (c.loop-backing.invariant.paid cores backed f rose);
  mains = λ told. pop_mains _ _ _ _ _ _ _ c.loop-backing.invariant.first c.in-Some.ensures.items (c.put_back.ensures.mains told) (c.loop-backing.invariant.mains told);
  unlisted = c.put_back.ensures.unlisted ∙ c.loop-backing.invariant.unlisted;
}

pub returns-clause-home : goal.returns-clause-home
returns-clause-home g c =
    let d = depot_of g.P.Depot.out g.P.Depot.lent g.P.Depot.faults c.loop-backing.depot in
    let none : c.loop-backing.backings.items ≡ [] = search rules in
    none_out d (subst (IsLentBy d) none c.loop-backing.invariant.lent)

pub returns-clause-paid : goal.returns-clause-paid
returns-clause-paid g c cores backed f rose =
    let none : c.loop-backing.backings.items ≡ [] = search rules in
    let left = subst (λ (l : List BackingView). RoseBy f (settled cores l) (g.P.Depot.faults c.loop-backing.depot)) none (c.loop-backing.invariant.paid cores backed f rose) in
    subst (λ n. RoseBy f n (g.P.Depot.faults c.loop-backing.depot)) (settled_all cores) left

pub returns-clause-mains : goal.returns-clause-mains
returns-clause-mains g c told =
    let none : c.loop-backing.backings.items ≡ [] = search rules in
    subst (λ (l : List BackingView). PutsFrom (length l) c.args.backings.items (g.P.Depot.home_main c.args.depot.now) (g.P.Depot.home_main c.loop-backing.depot)) none (c.loop-backing.invariant.mains told)
