use Rattle.std.proofs.Common.{rules, ap, ap₂, Option, Some, None, IsSomeAnd, ◌≡◌, ◌∙◌}
use Rattle.std.proofs.lemmas.Result.{IfOk-weaker}
use Rattle.clap.specs.Lexer.{usize_max}
use Rattle.clap.specs.Words.{rule_of, with_rule}
use Rattle.pfc_print.specs.Words.{verbose_rule, cinfo_rule, print_command}
use Rattle.pfc_print.proofs.words.command.Goals as goal

-- a value that equals this one
is_from_and : {T : Type 0} (o : Option T) (x : T) → IsSomeAnd o (λ y. y ≡ x) → o ≡ Some x
is_from_and None x h = absurd h
is_from_and (Some y) x h = ap Some h

pub returns : goal.returns
unfolding print_command
returns c =
    let verbose_is : rule_of c.action-verbose.result ≡ verbose_rule = search rules in
    let vals : c.num_args-cinfo.result.num_vals ≡ Some (record { start_inclusive = 1; end_inclusive = usize_max }) = is_from_and c.num_args-cinfo.result.num_vals _ c.num_args-cinfo.ensures.1 in
    let cinfo_is : rule_of c.num_args-cinfo.result ≡ cinfo_rule = search (rules, vals) in
    IfOk-weaker c.arg-2.result _ _ (λ made adds. adds.shape (search rules) ∙ ap₂ with_rule (c.in_ok-arg.ensures.shape (search rules) ∙ ap₂ with_rule c.new-3.ensures.app verbose_is) cinfo_is) c.arg-2.ensures
