use Rattle.std.proofs.Common.{◌≡◌, ◌<◌, ◌-◌, ◌^◌, None, nat_eq, arith}
use Rattle.std.specs.Prelude.{min}
use Rattle.std.specs.Map.{lookup}
use Rattle.indexmap.specs.IndexMap.{spare}
use Rattle.pfc_core.proofs.Entries.{sum_inserted, of_ok}
use Rattle.pfc_core.proofs.held.Tokens.add.Goals as goal

pub returns-clause-added : goal.returns-clause-added
returns-clause-added c =
    let room : 0 < min (spare c.self.inside.held) (2 ^ 64 - 1 - c.self.inside.next) = rw (← c.self.view_is) at c.requires in
    let fresh : lookup (nat_eq c.self.inside.next) c.self.inside.held.entries ≡ None = c.self.invariant.fresh c.self.inside.next (omega arith) in
    let entries = of_ok c.insert.result _ (c.insert.ensures.succeeds (omega (arith, room))) c.insert.ensures.entries in
    rw (← c.self.view_is) (record { each = λ w. rw entries (sum_inserted w c.self.inside.held c.self.inside.next _ fresh) })
