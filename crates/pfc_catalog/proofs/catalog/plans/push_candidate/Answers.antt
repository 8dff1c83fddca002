use Rattle.std.proofs.Common.{sym, ◌∙◌}
use Rattle.pfc_catalog.proofs.Firsts.{candidates-more, candidates-same}
use Rattle.pfc_catalog.proofs.catalog.plans.push_candidate.Goals as goal

pub returns-in_ok-push : goal.returns-in_ok-push
returns-in_ok-push c =
    rw (c.in_ok-push.ensures.items, c.copy.ensures, c.requires.before)
    (sym (candidates-more c.args.files.now c.args.place (c.in-Some.path.now, c.in-Some.entry) (sym c.in-Some.ensures) (sym c.is_candidate.ensures ∙ c.if-is_candidate.true)))

pub returns-else-is_candidate : goal.returns-else-is_candidate
returns-else-is_candidate c =
    c.requires.before ∙ sym (candidates-same c.args.files.now c.args.place (c.in-Some.path.now, c.in-Some.entry) (sym c.in-Some.ensures) (sym c.is_candidate.ensures ∙ c.if-is_candidate.false))
