use Rattle.std.proofs.Common.{ap, List, ℕ, ◌∙◌}
use Rattle.pfc_catalog.specs.declared.entry.Entry.{Entry}
use Rattle.pfc_catalog.proofs.Places.{push_is_put}
use Rattle.pfc_catalog.proofs.catalog.Catalog.learn.Goals as goal

pub returns-clause-ok : goal.returns-clause-ok
returns-clause-ok c = c.in_ok-add.ensures.ok ∙ ap (λ (fs : List (List ℕ × Entry)). record { entries = fs; next = c.args.self.now.next }) (push_is_put c.args.self.now.entries c.args.path.now _ c.requires)
