use Rattle.std.proofs.Common.{sym}
use Rattle.pfc_report.specs.Report.{section_text}
use Rattle.pfc_replay.proofs.Fronts.{front-of_part, front-empty, flat_map-at, flat_map-all}
use Rattle.pfc_replay.proofs.write.write_logs.Goals as goal

pub returns-in_err-write_section-clause-front : goal.returns-in_err-write_section-clause-front
returns-in_err-write_section-clause-front g c =
    front-of_part _ _ _ _ _ _ _ _ (flat_map-at section_text c.args.logs.now c.loop-section.section-index c.section-item.result c.loop-section-test.true (sym c.section-item.is))
    c.loop-section.invariant.written c.in_err-write_section.ensures.front

pub returns-clause-front : goal.returns-clause-front
returns-clause-front g c =
    front-of_part _ _ _ _ _ _ _ _ (flat_map-all section_text c.args.logs.now c.loop-section.section-index c.loop-section-test.false) c.loop-section.invariant.written (front-empty _ _)
