use Rattle.std.proofs.Common.{◌≡◌, ◌+◌, ◌++◌, ◌∙◌, ap, sym, take, drop, arith, take-add, append_assoc}
use Rattle.std.proofs.lemmas.Grind.{common_steps}
use Rattle.pfc_world.proofs.text.write_text.Goals as goal

pub loop-at-preserved : goal.loop-at-preserved
loop-at-preserved g c = record {
  written = λ told. grind (arith, common_steps, take-add c.loop-at.at c.in_ok-at.field-0 c.args.bytes.now, c.loop-at.invariant.written told, c.in_ok-at.ensures.ok told);
  faults = omega (arith, c.in_ok-at.ensures.cause);
  within = omega (arith, c.in_ok-at.ensures.count.0);
}
