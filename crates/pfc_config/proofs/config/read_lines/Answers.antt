use Rattle.std.proofs.Common.{[], refl, arith}
use Rattle.pfc_config.proofs.Settled.{none_set}
use Rattle.pfc_config.proofs.config.read_lines.Goals as goal

pub lines-init : goal.lines-init
lines-init c = record {
  before = [];
  count = refl;
  lines = refl;
  settled = none_set c.args.capacity c.new-settings.result c.new-settings.ensures;
  bad = refl;
  few = omega arith;
}
