use Rattle.std.proofs.Common.{◌≡◌, ◌++◌, subst}
use Rattle.std.specs.Prelude.{codes, OnOk}
use Rattle.pfc_log.specs.declared.counts.Counts.{Counts}
use Rattle.pfc_stats.specs.Statistics.{counts_text, count_line, statistics_text}
use Rattle.pfc_stats.proofs.Texts.{three_ok}
use Rattle.pfc_stats.proofs.tally.Tally.push_text.Goals as goal

pub returns : goal.returns
returns c =
    let out = c.push_count-2.new.out.items in let same : c.self.inside.counts ≡ c.args.self.now = c.self.view_is in
    subst (λ (n : Counts). OnOk c.push_count-2.result (out ≡ c.args.out.now.items ++ statistics_text n c.args.purged c.args.usage)) same
    (three_ok c.push_count-2.result (counts_text c.self.inside.counts) (count_line (codes "purged") c.args.purged) (count_line (codes "usage") c.args.usage)
    c.args.out.now.items c.push_counts.new.out.items c.push_count.new.out.items out c.in_ok-push_counts.ensures c.in_ok-push_count.ensures c.push_count-2.ensures)
