use Rattle.std.proofs.Common.{refl, rules, ◌≡◌, Some, None, ap, sym, ◌∙◌, nat_eq}
use Rattle.std.specs.Map.{lookup}
use Rattle.std.proofs.lemmas.Map.Entries.{sum_by-set_value}
use Rattle.pfc_core.specs.declared.slot.Slot.{Slot}
use Rattle.pfc_core.proofs.Shelves.{slot_look, kept_after, changed, placed_one, slot_there, not_there, some_yes}
use Rattle.pfc_core.proofs.shelf.Shelf.change.Goals as goal

pub returns-in_default : goal.returns-in_default
returns-in_default g c = let s = c.self.inside in let b = c.args.slot.block in
    let none : lookup (nat_eq b) s.places.entries ≡ None = search rules in
    absurd (not_there _ c.args.was none (sym (slot_look b s.places.entries c.self.invariant.unique (λ j p h. (c.self.invariant.kept j p h).number)) ∙ (rw (← c.self.view_is) at c.requires.there)))

pub invariant_of-self-2 : goal.invariant_of-self-2
invariant_of-self-2 g c = let s = c.self.inside in let b = c.args.slot.block in
    let found : lookup (nat_eq b) s.places.entries ≡ Some c.in-Some.place.now = search rules in
    let is = slot_there _ c.in-Some.place.now c.args.was found (sym (slot_look b s.places.entries c.self.invariant.unique (λ j p h. (c.self.invariant.kept j p h).number)) ∙ (rw (← c.self.view_is) at c.requires.there)) in
    let writes = c.get_mut.follows.holds (record { slot = c.args.slot; block = c.in-Some.place.now.block }) in record {
      kept = kept_after s.known.path s.known.size s.block_size b (Some _) s.places.entries _ c.self.invariant.kept (writes.3 (some_yes _ _ found)).0
          (placed_one s.known.path s.known.size s.block_size b _ record { number = refl; block = λ h. (c.self.invariant.kept b c.in-Some.place.now found).block (ap (λ (x : Slot). x.landed) is ∙ sym c.requires.landed ∙ h) });
      unique = writes.4;
    }

pub returns : goal.returns
returns g c = let s = c.self.inside in let b = c.args.slot.block in
    let found : lookup (nat_eq b) s.places.entries ≡ Some c.in-Some.place.now = search rules in
    let is = slot_there _ c.in-Some.place.now c.args.was found (sym (slot_look b s.places.entries c.self.invariant.unique (λ j p h. (c.self.invariant.kept j p h).number)) ∙ (rw (← c.self.view_is) at c.requires.there)) in
    let writes = c.get_mut.follows.holds (record { slot = c.args.slot; block = c.in-Some.place.now.block }) in
    rw (← c.self.view_is, ← is) (changed s.known.path s.known.size s.block_size b (Some _) s.places.entries _ c.self.invariant.kept (writes.3 (some_yes _ _ found)).0
    (placed_one s.known.path s.known.size s.block_size b _ record { number = refl; block = λ h. (c.self.invariant.kept b c.in-Some.place.now found).block (ap (λ (x : Slot). x.landed) is ∙ sym c.requires.landed ∙ h) })
    (Some c.in-Some.place.now) c.self.invariant.unique writes.4
    (λ v. rw writes.0 (sum_by-set_value v (nat_eq b) s.places.entries c.in-Some.place.now _ found)))
