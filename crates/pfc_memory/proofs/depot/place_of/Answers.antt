use Rattle.std.specs.Cmp.Lexicographic.{slice_cmp}
use Rattle.std.specs.Ordering.{nat_cmp}
use Rattle.std.proofs.Common.{rules}
use Rattle.std.proofs.lemmas.Fn.{always_returns_same}
use Rattle.pfc_memory.proofs.Searches.{found}
use Rattle.pfc_memory.proofs.depot.place_of.Goals as goal

pub returns : goal.returns
returns c =
    let facts = c.binary_search_by.ensures in
    let by_path = facts.position (λ volume. slice_cmp nat_cmp volume.path c.args.path.now) (always_returns_same _ _ _ (λ a r f called. search rules)) in
    let both = found c.args.volumes.now c.args.path.now _ c.requires facts.bound by_path in
    record { ok = both.0; err = both.1 }
