use Rattle.std.proofs.Common.{◌≡◌, ◌∙◌, ap, true, rules}
use Rattle.std.specs.Prelude.{IsTrue, option_map}
use Rattle.pfc_core.specs.declared.loan.Did.TheVariants as did
use Rattle.pfc_writer.specs.Writer.{turned}
use Rattle.pfc_actor.proofs.Backings.{writes_block, writes_by}
use Rattle.pfc_actor.proofs.BackingLoans.{with_task}
use Rattle.pfc_actor.proofs.volume.write_by.Goals as goal

pub returns-in-Some-clause-loan : goal.returns-in-Some-clause-loan
returns-in-Some-clause-loan g c =
    let idle : c.args.loan.now.did ≡ did.Nothing = search rules in
    let yes : IsTrue true = search rules in
    with_task c.args.writer.now (c.if-not-fits.ensures.some yes) (λ task is. writes_by c.args.loan.now c.write.new.loan task.job.block c.in-Some.field-0 (c.in-Some.ensures.loan task is) idle)

pub returns-in-Some-clause-yes : goal.returns-in-Some-clause-yes
returns-in-Some-clause-yes g c = λ yes.
    with_task c.args.writer.now (c.if-not-fits.ensures.some yes)
    (λ task is. (task, is, c.in-Some.ensures.job ∙ ap (option_map turned) is, writes_block c.args.loan.now c.write.new.loan task.job.block c.in-Some.field-0 (c.in-Some.ensures.loan task is)))
