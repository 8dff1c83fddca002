use Rattle.std.proofs.Common.{sym}
use Rattle.pfc_report.specs.Report.{told_text}
use Rattle.pfc_replay.proofs.Fronts.{front-of_part, front-empty, flat_map-at, flat_map-all}
use Rattle.pfc_replay.proofs.write.write_clients.Goals as goal

pub returns-in_err-write_told-clause-front : goal.returns-in_err-write_told-clause-front
returns-in_err-write_told-clause-front g c =
    front-of_part _ _ _ _ _ _ _ _ (flat_map-at told_text c.args.clients.now c.loop-told.told-index c.told-item.result c.loop-told-test.true (sym c.told-item.is))
    c.loop-told.invariant.written c.in_err-write_told.ensures.front

pub returns-clause-front : goal.returns-clause-front
returns-clause-front g c =
    front-of_part _ _ _ _ _ _ _ _ (flat_map-all told_text c.args.clients.now c.loop-told.told-index c.loop-told-test.false) c.loop-told.invariant.written (front-empty _ _)
