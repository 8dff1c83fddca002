use Rattle.std.proofs.Common.{subst, sym, ℕ, List}
use Rattle.std.specs.List.{IsDistinct}
use Rattle.indexmap.proofs.CallerLemmas.{keys-with_value_at}
use Rattle.pfc_catalog.specs.Files.{same_path}
use Rattle.pfc_catalog.proofs.files.Files.set.Goals as goal

pub invariant_of-self : goal.invariant_of-self
invariant_of-self c = subst (λ (ks : List (List ℕ)). IsDistinct same_path ks) (sym (keys-with_value_at c.self.inside.map c.args.place c.args.entry)) c.self.invariant
