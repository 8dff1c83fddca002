use Rattle.std.proofs.Common.{Some, None, sym, ◌∙◌, subst, nat_eq, arith}
use Rattle.std.specs.Map.{lookup}
use Rattle.pfc_core.specs.declared.slot.Slot.{Slot}
use Rattle.pfc_core.specs.Slots.{Changes}
use Rattle.pfc_core.specs.Shelf.{shelf_of}
use Rattle.pfc_core.proofs.Entries.{sum_swapped}
use Rattle.pfc_core.proofs.Shelves.{slot_look, kept_after, changed, some_is}
use Rattle.pfc_core.proofs.shelf.Shelf.remove.Goals as goal

pub invariant_of-self : goal.invariant_of-self
invariant_of-self g c = let s = c.self.inside in let b = c.args.was.block in record {
  kept = kept_after s.known.path s.known.size s.block_size b None s.places.entries _ c.self.invariant.kept c.swap_remove.ensures.updates.0 (λ p h. absurd cc);
  unique = c.swap_remove.ensures.unique;
}

pub returns : goal.returns
returns g c = let s = c.self.inside in let b = c.args.was.block in
    let there = some_is (lookup (nat_eq b) s.places.entries) c.args.was (sym (slot_look b s.places.entries c.self.invariant.unique (λ j p h. (c.self.invariant.kept j p h).number)) ∙ (rw (← c.self.view_is) at c.requires.there)) in
    rw (← c.self.view_is) (subst (λ (x : Slot). Changes b (Some x) None (shelf_of s) (shelf_of (record s { places = c.swap_remove.new.self }))) there.2
    (changed s.known.path s.known.size s.block_size b None s.places.entries _ c.self.invariant.kept c.swap_remove.ensures.updates.0
    (λ p h. absurd cc) (Some there.0) c.self.invariant.unique c.swap_remove.ensures.unique
    (λ v. rw c.swap_remove.ensures.entries (let i = sum_swapped v (nat_eq b) s.places.entries there.0 there.1 in omega (arith, i)))))
