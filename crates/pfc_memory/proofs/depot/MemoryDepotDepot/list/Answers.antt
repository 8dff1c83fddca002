use Rattle.std.proofs.Common.{inl, subst}
use Rattle.pfc_memory.specs.Depot.{Lists}
use Rattle.pfc_memory.proofs.depot.MemoryDepotDepot.list.Goals as goal

pub returns-clause-all : goal.returns-clause-all
returns-clause-all g c =
    let listed = subst (λ l. Lists l c.in_ok-held_paths.field-0.items) c.deref.ensures.value c.in_ok-held_paths.ensures.held in
    λ path has. (listed path).1 has

pub returns-clause-only : goal.returns-clause-only
returns-clause-only g c =
    let listed = subst (λ l. Lists l c.in_ok-held_paths.field-0.items) c.deref.ensures.value c.in_ok-held_paths.ensures.held in
    λ path held. inl ((listed path).0 held)

pub returns-clause-held : goal.returns-clause-held
returns-clause-held g c = subst (λ l. Lists l c.in_ok-held_paths.field-0.items) c.deref.ensures.value c.in_ok-held_paths.ensures.held
