use Rattle.std.proofs.Common.{◌≡◌, ◌≤◌, map, take}
use Rattle.pfc_print.specs.Shown.{AreShown, Writes}
use Rattle.pfc_print.proofs.printing.print_files.Given as goal

abbrev pub invariant-loop-file : goal.invariant-loop-file
invariant-loop-file g l = record {
  written : Writes (λ text. AreShown g.H.Sources.told (g.H.Sources.texts l.fn.host) l.verbose (map (λ file. file.now) (take l.file-index l.files)) text l.damaged) g.S.Sink.told (g.S.Sink.written l.fn.out) (g.S.Sink.written l.out);
  texts : g.H.Sources.texts l.host ≡ g.H.Sources.texts l.fn.host;
  host_faults : g.H.Sources.faults l.fn.host ≤ g.H.Sources.faults l.host;
  sink_faults : g.S.Sink.faults l.fn.out ≤ g.S.Sink.faults l.out;
}
