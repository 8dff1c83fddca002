use Rattle.std.proofs.Common.{sym, subst}
use Rattle.std.specs.BTreeSet.{keys}
use Rattle.pfc_world.specs.Depot.{InByteOrder}
use Rattle.pfc_folder.proofs.PathSets.{in-order}
use Rattle.pfc_folder.proofs.paths.in_order.Goals as goal

pub returns-clause-order : goal.returns-clause-order
returns-clause-order c = subst InByteOrder (sym c.in_ok-list.ensures.all) (in-order (keys c.args.paths) c.listed.ensures.sorted)
