use Rattle.std.proofs.Common.{rules}
use Rattle.pfc_base.specs.Pieces.{pieces_of}
use Rattle.pfc_report.proofs.Lines.{extended-more}
use Rattle.pfc_report.proofs.schedule.read_lines.Goals as goal

pub lines-preserved : goal.lines-preserved
lines-preserved c =
    let begins = rw c.in-Some.is at c.next_piece.ensures in
    record {
      said = extended-more c.args.writers _ _ c.lines.number c.lines.rest.now c.next_piece.result.0.now (pieces_of 10 c.in-Some.after.now) _ begins.0 c.in_ok-read_line.ensures.ok c.lines.invariant.said;
      small = search rules;
    }
