use Rattle.std.proofs.Common.{arith, refl}
use Rattle.std.proofs.lemmas.Grind.{common_steps}
use Rattle.pfc_memory.specs.Rows.{row_bytes}
use Rattle.pfc_memory.proofs.RowFiles.{row_bytes-more}
use Rattle.pfc_memory.proofs.rows.fill_rows.Goals as goal

pub loop-j-init : goal.loop-j-init
unfolding row_bytes
loop-j-init c = refl

pub loop-j-preserved : goal.loop-j-preserved
loop-j-preserved c = let more = row_bytes-more c.loop-j.j c.args.at in grind (arith, common_steps, more)
