use Rattle.std.proofs.Common.{◌≤◌, take}
use Rattle.std.specs.List.{flat_map}
use Rattle.pfc_world.specs.Texts.{Appends}
use Rattle.pfc_report.specs.Report.{section_text}
use Rattle.pfc_replay.proofs.write.write_logs.Given as goal

abbrev pub invariant-loop-section : goal.invariant-loop-section
invariant-loop-section g l = record {
  written : Appends g.S.Sink.told (g.S.Sink.written l.fn.out) (g.S.Sink.written l.out) (flat_map section_text (take l.section-index l.logs));
  faults : g.S.Sink.faults l.fn.out ≤ g.S.Sink.faults l.out;
}
