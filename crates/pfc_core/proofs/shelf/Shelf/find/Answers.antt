use Rattle.std.proofs.Common.{rules, ◌≡◌, Some, None, ap, sym, ◌∙◌, nat_eq}
use Rattle.std.specs.Prelude.{option_map}
use Rattle.std.specs.Map.{lookup}
use Rattle.pfc_core.specs.Shelf.{slot_in}
use Rattle.pfc_core.proofs.Shelves.{single, slot_look}
use Rattle.pfc_core.proofs.shelf.Shelf.find.Goals as goal

pub returns-in-Some-clause-slot : goal.returns-in-Some-clause-slot
returns-in-Some-clause-slot g c =
    let found : lookup (nat_eq c.args.block) c.self.inside.places.entries ≡ Some c.in-Some.place.now = search rules in
    rw (← c.self.view_is) (sym (slot_look c.args.block c.self.inside.places.entries c.self.invariant.unique (λ j p h. (c.self.invariant.kept j p h).number) ∙ ap (option_map slot_in) found))

pub returns-in-Some-clause-single : goal.returns-in-Some-clause-single
returns-in-Some-clause-single g c = rw (← c.self.view_is) (single _ c.self.invariant.unique (λ j p h. (c.self.invariant.kept j p h).number))

pub returns-in-None-clause-slot : goal.returns-in-None-clause-slot
returns-in-None-clause-slot g c =
    let found : lookup (nat_eq c.args.block) c.self.inside.places.entries ≡ None = search rules in
    rw (← c.self.view_is) (sym (slot_look c.args.block c.self.inside.places.entries c.self.invariant.unique (λ j p h. (c.self.invariant.kept j p h).number) ∙ ap (option_map slot_in) found))

pub returns-in-None-clause-single : goal.returns-in-None-clause-single
returns-in-None-clause-single g c = rw (← c.self.view_is) (single _ c.self.invariant.unique (λ j p h. (c.self.invariant.kept j p h).number))
