use Rattle.std.proofs.Common.{◌≡◌, Some, sym}
use Rattle.pfc_catalog.specs.Files.{entry_at}
use Rattle.pfc_catalog.proofs.Orders.{first-noted, none-noted}
use Rattle.pfc_catalog.proofs.catalog.purge.first_noted.Goals as goal

pub returns-in_err-key-clause-none : goal.returns-in_err-key-clause-none
returns-in_err-key-clause-none c =
    rw c.from_residual.ensures (none-noted c.args.files.now c.args.order.now c.requires.noted c.requires.whole c.in_err-key.ensures.none)

pub returns-clause-some : goal.returns-clause-some
returns-clause-some c =
    let found : entry_at c.in_ok-key.key.now.1 c.args.files.now ≡ Some c.in_ok-place.entry = sym c.in_ok-place.ensures.entry in
    rw c.copy.ensures (c.in_ok-place.ensures.place, first-noted c.args.files.now c.args.order.now c.requires.noted c.requires.whole c.in_ok-key.key.now c.in_ok-place.entry c.in_ok-key.ensures.there c.in_ok-key.ensures.first found)
