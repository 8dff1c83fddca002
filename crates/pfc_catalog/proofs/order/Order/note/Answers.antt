use Rattle.std.proofs.Common.{◌≡◌, sym, ◌∙◌, ap, Bool, true, ℕ, List}
use Rattle.std.specs.Prelude.{if◌then◌else◌}
use Rattle.pfc_catalog.specs.Entry.{is_candidate}
use Rattle.pfc_catalog.specs.Order.{has, is_key}
use Rattle.pfc_catalog.proofs.Orders.{of-ok}
use Rattle.pfc_catalog.proofs.order.Order.note.Goals as goal

pub returns-else-is_err-clause-keys : goal.returns-else-is_err-clause-keys
returns-else-is_err-clause-keys c = λ _. λ key.
    let can : is_candidate c.args.entry ≡ true = sym c.is_candidate.ensures ∙ c.if-not-is_candidate.false in
    let went = of-ok c.insert.result (sym c.is_err.ensures.value ∙ c.if-is_err.false) c.insert.ensures.updates in
    rw (← c.self.view_is) (went.0 key
    ∙ ap (λ (p : List ℕ). if is_key (c.args.entry.last, p) key then true else has key c.self.inside.keys.keys) c.copy.ensures
    ∙ sym (ap (λ (b : Bool). if b then (if is_key (c.args.entry.last, c.args.path.now) key then true else has key c.self.inside.keys.keys) else has key c.self.inside.keys.keys) can))
