use Rattle.std.proofs.Common.{◌≤◌, ◌++◌, take}
use Rattle.std.specs.List.{flat_map}
use Rattle.pfc_world.specs.Texts.{Appends}
use Rattle.pfc_client.specs.Replies.{head_text, line_text}
use Rattle.pfc_replay.proofs.write.write_client.Given as goal

abbrev pub invariant-loop-reply : goal.invariant-loop-reply
invariant-loop-reply g l = record {
  written : Appends g.S.Sink.told (g.S.Sink.written l.fn.out) (g.S.Sink.written l.out) (head_text l.number ++ flat_map line_text (take l.reply-index l.replies));
  faults : g.S.Sink.faults l.fn.out ≤ g.S.Sink.faults l.out;
}
