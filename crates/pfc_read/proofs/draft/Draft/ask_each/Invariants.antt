use Rattle.std.proofs.Common.{◌≡◌, ◌≤◌, length, map, sum_by, take}
use Rattle.std.specs.Prelude.{vec_capacity}
use Rattle.pfc_span.specs.Tiling.{part_len}
use Rattle.pfc_read.specs.Draft.{AreAsked}
use Rattle.pfc_read.proofs.draft.Draft.ask_each.Given as goal

abbrev pub invariant-loop-part : goal.invariant-loop-part
invariant-loop-part g l = record {
  asked : AreAsked l.fn.core l.n (map (λ x. x.1) l.parts) l.part-index l.self l.core;
  at : l.at ≡ sum_by part_len (take l.part-index (map (λ x. x.1) l.parts));
  ticket_room : length l.parts ≤ vec_capacity l.self.tickets;
  pending_room : length l.parts ≤ vec_capacity l.self.pendings;
  disk_room : length l.parts ≤ vec_capacity l.self.disks;
  owed_room : length l.parts ≤ vec_capacity l.self.owed;
}
