use Rattle.std.proofs.Common.{rules, sym, ◌∙◌, ◌≡◌, false}
use Rattle.pfc_config.specs.Line.{kind_alone, is_ours}
use Rattle.pfc_config.proofs.Names.{not_ours}
use Rattle.pfc_config.proofs.line.read_line.Goals as goal

pub returns-then-not-starts_with : goal.returns-then-not-starts_with
unfolding kind_alone
returns-then-not-starts_with c =
    let words = c.in-Some.ensures in
    let ours : is_ours c.in-Some.first.now ≡ false = sym c.starts_with.ensures.value ∙ c.if-not-starts_with.true in
    (search rules, λ directive sets. rw words.0 (not_ours directive c.in-Some.first.now ours))
