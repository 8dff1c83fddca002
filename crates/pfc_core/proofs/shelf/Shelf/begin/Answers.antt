use Rattle.std.proofs.Common.{rules, ◌≡◌, Some, None, sym, ◌∙◌, nat_eq, arith}
use Rattle.std.specs.Map.{lookup}
use Rattle.pfc_core.proofs.Entries.{sum_put}
use Rattle.pfc_core.proofs.Shelves.{slot_look, kept_after, changed, none_is}
use Rattle.pfc_core.proofs.shelf.Shelf.begin.Goals as goal

pub invariant_of-self-2 : goal.invariant_of-self-2
invariant_of-self-2 g c = let s = c.self.inside in let b = c.args.slot.block in record {
  kept = kept_after s.known.path s.known.size s.block_size b (Some _) s.places.entries _ c.self.invariant.kept c.in_ok-insert.ensures.updates.0
      (λ p h. record { number = search rules; block = search rules });
  unique = c.insert.ensures.unique;
}

pub returns-clause-ok : goal.returns-clause-ok
returns-clause-ok g c = let s = c.self.inside in let b = c.args.slot.block in
    let none : lookup (nat_eq b) s.places.entries ≡ None = none_is _ (sym (slot_look b s.places.entries c.self.invariant.unique (λ j p h. (c.self.invariant.kept j p h).number)) ∙ (rw (← c.self.view_is) at c.requires.absent)) in
    rw (← c.self.view_is) (changed s.known.path s.known.size s.block_size b (Some _) s.places.entries _ c.self.invariant.kept c.in_ok-insert.ensures.updates.0
    (λ p h. record { number = search rules; block = search rules }) None c.self.invariant.unique c.insert.ensures.unique
    (λ v. let i = sum_put v s.places b _ _ c.in_ok-insert.ensures.entries none in omega (arith, i)))
