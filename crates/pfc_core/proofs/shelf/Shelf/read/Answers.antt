use Rattle.std.proofs.Common.{rules, ◌≡◌, Some, None, ap, sym, ◌∙◌, nat_eq}
use Rattle.std.specs.Map.{lookup}
use Rattle.pfc_core.specs.declared.slot.Slot.{Slot}
use Rattle.pfc_core.proofs.Shelves.{slot_look, slot_there, not_there}
use Rattle.pfc_core.proofs.Parts.{block_there, no_block}
use Rattle.pfc_core.proofs.shelf.Shelf.read.Goals as goal

pub returns-in_default-clause-bytes : goal.returns-in_default-clause-bytes
returns-in_default-clause-bytes g c = let s = c.self.inside in let b = c.args.part.block in
    let none : lookup (nat_eq b) s.places.entries ≡ None = search rules in
    absurd (not_there _ c.args.slot none (sym (slot_look b s.places.entries c.self.invariant.unique (λ j p h. (c.self.invariant.kept j p h).number)) ∙ (rw (← c.self.view_is) at c.requires.there)))

pub returns-in_default-block-clause-bytes : goal.returns-in_default-block-clause-bytes
returns-in_default-block-clause-bytes g c = let s = c.self.inside in let b = c.args.part.block in
    let found : lookup (nat_eq b) s.places.entries ≡ Some c.in-Some.place.now = search rules in
    let is = slot_there _ c.in-Some.place.now c.args.slot found (sym (slot_look b s.places.entries c.self.invariant.unique (λ j p h. (c.self.invariant.kept j p h).number)) ∙ (rw (← c.self.view_is) at c.requires.there)) in
    absurd (no_block _ _ _ _ c.in-Some.place.now.block (search rules) ((c.self.invariant.kept b c.in-Some.place.now found).block (ap (λ (x : Slot). x.landed) is ∙ c.requires.landed)))

pub copy_part-requires-clause-block : goal.copy_part-requires-clause-block
copy_part-requires-clause-block g c κs within = let s = c.self.inside in let b = c.args.part.block in
    let found : lookup (nat_eq b) s.places.entries ≡ Some c.in-Some.place.now = search rules in
    let is = slot_there _ c.in-Some.place.now c.args.slot found (sym (slot_look b s.places.entries c.self.invariant.unique (λ j p h. (c.self.invariant.kept j p h).number)) ∙ (rw (← c.self.view_is) at c.requires.there)) in
    let there = block_there _ _ _ _ c.in-Some.place.now.block c.in-Some-block.block (search rules) ((c.self.invariant.kept b c.in-Some.place.now found).block (ap (λ (x : Slot). x.landed) is ∙ c.requires.landed)) in
    rw c.deref.ensures there.number

pub copy_part-requires-clause-part : goal.copy_part-requires-clause-part
copy_part-requires-clause-part g c κs within = let s = c.self.inside in let b = c.args.part.block in
    let found : lookup (nat_eq b) s.places.entries ≡ Some c.in-Some.place.now = search rules in
    let is = slot_there _ c.in-Some.place.now c.args.slot found (sym (slot_look b s.places.entries c.self.invariant.unique (λ j p h. (c.self.invariant.kept j p h).number)) ∙ (rw (← c.self.view_is) at c.requires.there)) in
    let there = block_there _ _ _ _ c.in-Some.place.now.block c.in-Some-block.block (search rules) ((c.self.invariant.kept b c.in-Some.place.now found).block (ap (λ (x : Slot). x.landed) is ∙ c.requires.landed)) in
    rw (c.deref.ensures, there.size_is, there.block_size) (rw (← c.self.view_is) at c.requires.part)

pub returns-clause-bytes : goal.returns-clause-bytes
returns-clause-bytes g c = let s = c.self.inside in let b = c.args.part.block in
    let found : lookup (nat_eq b) s.places.entries ≡ Some c.in-Some.place.now = search rules in
    let is = slot_there _ c.in-Some.place.now c.args.slot found (sym (slot_look b s.places.entries c.self.invariant.unique (λ j p h. (c.self.invariant.kept j p h).number)) ∙ (rw (← c.self.view_is) at c.requires.there)) in
    let there = block_there _ _ _ _ c.in-Some.place.now.block c.in-Some-block.block (search rules) ((c.self.invariant.kept b c.in-Some.place.now found).block (ap (λ (x : Slot). x.landed) is ∙ c.requires.landed)) in
    rw (← c.self.view_is, ← there.path_is, ← there.block_size, ← c.deref.ensures) c.copy_part.ensures.bytes
