use Rattle.std.specs.Prelude.{codes}
use Rattle.pfc_stats.specs.Statistics.{reads_text, flights_text}
use Rattle.pfc_stats.proofs.Texts.{three_ok}
use Rattle.pfc_stats.proofs.tally.push_own_counts.Goals as goal

pub returns : goal.returns
returns c = let n = c.args.counts.now in
    three_ok c.push_flights.result (codes "statistics\n") (reads_text n) (flights_text n) c.args.out.now.items c.push_word.new.out.items c.push_reads.new.out.items c.push_flights.new.out.items
    c.in_ok-push_word.ensures.ok c.in_ok-push_reads.ensures c.push_flights.ensures
