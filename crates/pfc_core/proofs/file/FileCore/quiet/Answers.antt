use Rattle.std.proofs.Common.{◌∙◌, sym, ap, length}
use Rattle.pfc_core.specs.declared.held.Held.{Held}
use Rattle.pfc_core.specs.declared.slot.Slot.{Slot}
use Rattle.pfc_core.proofs.Lent.{not_some, some_lent}
use Rattle.pfc_core.proofs.Outs.{zeros_of, all_zeros, nil_of, nothing_of, nothing_out, complete_of}
use Rattle.pfc_core.proofs.file.FileCore.quiet.Goals as goal

pub returns-then-is_some-clause-exact : goal.returns-then-is_some-clause-exact
returns-then-is_some-clause-exact g c = let s = c.self.inside in let was = c.self.invariant in
    rw (← c.self.view_is) (λ f. absurd cc, λ none. absurd (some_lent s.loan c.if-is_some.ensures (nothing_out _ _ _ _ s.stays.list s.readings.list s.pins.list s.disks.list s.loan s.shelf.slots was.held none).4))

pub returns-then-len-ne0-clause-exact : goal.returns-then-len-ne0-clause-exact
returns-then-len-ne0-clause-exact g c = let s = c.self.inside in let was = c.self.invariant in
    rw (← c.self.view_is) (λ f. absurd cc, λ none. absurd (c.if-len-ne0.true (c.len.ensures.len ∙ ap (length {A = Slot}) (nothing_out _ _ _ _ s.stays.list s.readings.list s.pins.list s.disks.list s.loan s.shelf.slots was.held none).5)))

pub returns-clause-exact : goal.returns-clause-exact
returns-clause-exact g c = let s = c.self.inside in let was = c.self.invariant in
    rw (← c.self.view_is) (
      λ yes. (let z = zeros_of c.len-2.result c.len-3.result c.len-4.result c.len-5.result (sym c.all_zero.ensures ∙ yes) in
          nothing_of _ s.stays.list s.readings.list s.pins.list s.disks.list s.loan s.shelf.slots (nil_of _ (sym c.len-2.ensures.len ∙ z.0)) (nil_of _ (sym c.len-3.ensures.len ∙ z.1)) (nil_of _ (sym c.len-4.ensures.len ∙ z.2)) (nil_of _ (sym c.len-5.ensures.len ∙ z.3)) (not_some s.loan c.if-is_some.ensures) (nil_of _ (sym c.len.ensures.len ∙ c.if-len-ne0.false))),
      λ none. (let e = nothing_out _ _ _ _ s.stays.list s.readings.list s.pins.list s.disks.list s.loan s.shelf.slots was.held none in
          c.all_zero.ensures ∙ all_zeros c.len-2.result c.len-3.result c.len-4.result c.len-5.result (c.len-2.ensures.len ∙ ap (length {A = Held}) e.0) (c.len-3.ensures.len ∙ ap (length {A = Held}) e.1) (c.len-4.ensures.len ∙ ap (length {A = Held}) e.2) (c.len-5.ensures.len ∙ ap (length {A = Held}) e.3)),
    )

pub returns-clause-complete : goal.returns-clause-complete
returns-clause-complete g c = let s = c.self.inside in let was = c.self.invariant in
    rw (← c.self.view_is) (λ yes. let z = zeros_of c.len-2.result c.len-3.result c.len-4.result c.len-5.result (sym c.all_zero.ensures ∙ yes) in
    complete_of _ _ _ s.shelf.slots s.pins.list s.stays.list was.held was.guests (nil_of _ (sym c.len.ensures.len ∙ c.if-len-ne0.false)) (nil_of _ (sym c.len-2.ensures.len ∙ z.0)))
