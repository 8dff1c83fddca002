use Rattle.std.proofs.Common.{◌≡◌, sym, ◌∙◌, ap, Bool, true, false, ℕ, List}
use Rattle.std.specs.Prelude.{if◌then◌else◌}
use Rattle.pfc_catalog.specs.Entry.{is_candidate}
use Rattle.pfc_catalog.specs.Order.{has, is_key}
use Rattle.pfc_catalog.proofs.order.Order.forget.Goals as goal

pub returns-clause-keys : goal.returns-clause-keys
returns-clause-keys c = λ key.
    let can : is_candidate c.args.entry ≡ true = sym c.is_candidate.ensures ∙ c.if-not-is_candidate.false in
    rw (← c.self.view_is) (c.remove.ensures.updates.0 key
    ∙ ap (λ (p : List ℕ). if is_key (c.args.entry.last, p) key then false else has key c.self.inside.keys.keys) c.copy.ensures
    ∙ sym (ap (λ (b : Bool). if b then (if is_key (c.args.entry.last, c.args.path.now) key then false else has key c.self.inside.keys.keys) else has key c.self.inside.keys.keys) can))
