use Rattle.std.proofs.Common.{◌≤◌, take}
use Rattle.std.specs.List.{flat_map}
use Rattle.pfc_world.specs.Texts.{Appends}
use Rattle.pfc_report.specs.Report.{told_text}
use Rattle.pfc_replay.proofs.write.write_clients.Given as goal

abbrev pub invariant-loop-told : goal.invariant-loop-told
invariant-loop-told g l = record {
  written : Appends g.S.Sink.told (g.S.Sink.written l.fn.out) (g.S.Sink.written l.out) (flat_map told_text (take l.told-index l.clients));
  faults : g.S.Sink.faults l.fn.out ≤ g.S.Sink.faults l.out;
}
