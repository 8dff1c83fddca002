use Rattle.std.proofs.Common.{length, refl}
use Rattle.pfc_memory.specs.Rows.{row_sizes, row_sizes-small}
use Rattle.pfc_memory.proofs.RowFiles.{rows-hold}
use Rattle.pfc_memory.proofs.rows.RowWorldMemoryWorld.fill.Goals as goal

pub fill_rows-requires : goal.fill_rows-requires
fill_rows-requires c = (rows-hold row_sizes c.args.path.now c.args.at (length c.args.into.now) row_sizes-small (c.requires refl)).0

pub returns : goal.returns
returns c = rw c.fill_rows.ensures (λ _. (rows-hold row_sizes c.args.path.now c.args.at (length c.args.into.now) row_sizes-small (c.requires refl)).1)
