use Rattle.std.proofs.Common.{sym}
use Rattle.pfc_base.specs.Pieces.{pieces_of}
use Rattle.pfc_report.proofs.Words.{stepping-long}
use Rattle.pfc_report.proofs.schedule.read_times.Goals as goal

pub returns-in-Some : goal.returns-in-Some
returns-in-Some c line n =
    let begins = rw c.in-Some.is at c.next_piece.ensures in
    sym (stepping-long line n (pieces_of 32 c.args.behind.now) c.next_piece.result.0.now c.in-Some.field-0.now begins.0)
