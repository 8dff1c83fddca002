use Rattle.std.proofs.Common.{◌≤◌, Result, length, sym, ◌∙◌, subst, arith}
use Rattle.std.specs.Prelude.{IfOk}
use Rattle.std.proofs.lemmas.Result.{err_from_is_err_and}
use Rattle.pfc_config.specs.Config.{IsWithinRanges}
use Rattle.pfc_config.specs.declared.config.Config.{Config}
use Rattle.pfc_config.specs.declared.refusal.ConfigRefusal.{ConfigRefusal}
use Rattle.pfc_config.proofs.Ranges.{configured-within}
use Rattle.pfc_config.proofs.Reading.{configured-long, configured-bad, configured-good}
use Rattle.pfc_config.proofs.config.read_config.Goals as goal

pub returns-then-bytes-gt-MOST_BYTES-clause-value : goal.returns-then-bytes-gt-MOST_BYTES-clause-value
returns-then-bytes-gt-MOST_BYTES-clause-value c = sym (configured-long c.args.bytes.now c.args.capacity (omega (arith, c.if-bytes-gt-MOST_BYTES.true)))

pub returns-in_err-read_lines-clause-value : goal.returns-in_err-read_lines-clause-value
returns-in_err-read_lines-clause-value c =
    let short : length c.args.bytes.now ≤ 1048576 = omega (arith, c.if-bytes-gt-MOST_BYTES.false) in
    let p = err_from_is_err_and c.from_residual.result c.from_residual.ensures.1 in
    rw (p.1, p.2) (sym (configured-bad c.args.bytes.now c.args.capacity c.in_err-read_lines.field-0.0 short c.in_err-read_lines.ensures))

pub returns-clause-value : goal.returns-clause-value
returns-clause-value c =
    let short : length c.args.bytes.now ≤ 1048576 = omega (arith, c.if-bytes-gt-MOST_BYTES.false) in
    c.config.ensures ∙ sym (configured-good c.args.bytes.now c.args.capacity c.in_ok-read_lines.field-0 short c.in_ok-read_lines.ensures.0 c.in_ok-read_lines.ensures.1)

pub returns-clause-ranges : goal.returns-clause-ranges
returns-clause-ranges c =
    subst (λ (r : Result Config ConfigRefusal). IfOk r (IsWithinRanges c.args.capacity)) (sym (returns-clause-value c)) (configured-within c.args.bytes.now c.args.capacity)
