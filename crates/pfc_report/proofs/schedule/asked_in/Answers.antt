use Rattle.std.proofs.Common.{rules, refl, false}
use Rattle.std.proofs.lemmas.List.{get_or-replicate, get_or_default}
use Rattle.pfc_report.specs.Plan.{line_of}
use Rattle.pfc_report.proofs.Asked.{marked-next}
use Rattle.pfc_report.proofs.schedule.asked_in.Goals as goal

pub loop-step-init : goal.loop-step-init
loop-step-init c = record { count = refl; marked = λ n low. get_or-replicate 65 n false false low }

pub loop-step-preserved : goal.loop-step-preserved
loop-step-preserved c = record {
  count = search rules;
  marked = λ n low. marked-next line_of c.args.steps.now c.loop-step.step-index _ n _ _ c.loop-step-test.true (get_or_default _ _ _ _ c.loop-step-test.true) (c.loop-step.invariant.marked n low) (c.mark_asked.ensures n low);
}
