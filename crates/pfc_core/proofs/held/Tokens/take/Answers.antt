use Rattle.std.proofs.Common.{rules, ◌≡◌, true, false, Some, None, ap, ◌∙◌, nat_eq}
use Rattle.std.specs.Map.{lookup}
use Rattle.pfc_core.specs.declared.held.Held.{Held}
use Rattle.pfc_core.specs.Held.{is_held}
use Rattle.pfc_core.proofs.Entries.{sum_swapped}
use Rattle.pfc_core.proofs.Numbered.{held_unlisted, held_absent, held_apart, held_listed, held_is}
use Rattle.pfc_core.proofs.held.Tokens.take.Goals as goal

pub returns-in_default-clause-no : goal.returns-in_default-clause-no
returns-in_default-clause-no c =
    let none : lookup (nat_eq c.args.held.number) c.self.inside.held.entries ≡ None = search rules in
    rw (← c.self.view_is) (λ _. held_unlisted _ c.args.held c.self.invariant.unique c.self.invariant.numbered (held_absent _ c.args.held none))

pub returns-clause-no : goal.returns-clause-no
returns-clause-no c =
    let found : lookup (nat_eq c.args.held.number) c.self.inside.held.entries ≡ Some c.in-Some.found.now = search rules in
    let apart : is_held c.args.held c.in-Some.found.now ≡ false = search rules in
    rw (← c.self.view_is) (λ _. held_unlisted _ c.args.held c.self.invariant.unique c.self.invariant.numbered (held_apart _ c.args.held c.in-Some.found.now found apart))

pub returns-then-is_same-clause-yes : goal.returns-then-is_same-clause-yes
returns-then-is_same-clause-yes c =
    let found : lookup (nat_eq c.args.held.number) c.self.inside.held.entries ≡ Some c.in-Some.found.now = search rules in
    let same : is_held c.args.held c.in-Some.found.now ≡ true = search rules in
    let there = found ∙ ap (λ (p : Held). Some p) (held_is c.args.held c.in-Some.found.now same) in
    rw (← c.self.view_is) (λ _. record { each = λ w. rw c.swap_remove.ensures.entries (sum_swapped w (nat_eq c.args.held.number) c.self.inside.held.entries c.args.held there) })

pub returns-then-is_same-clause-listed : goal.returns-then-is_same-clause-listed
returns-then-is_same-clause-listed c =
    let found : lookup (nat_eq c.args.held.number) c.self.inside.held.entries ≡ Some c.in-Some.found.now = search rules in
    let same : is_held c.args.held c.in-Some.found.now ≡ true = search rules in
    rw (← c.self.view_is) (λ _. held_listed _ c.args.held (found ∙ ap (λ (p : Held). Some p) (held_is c.args.held c.in-Some.found.now same)))
