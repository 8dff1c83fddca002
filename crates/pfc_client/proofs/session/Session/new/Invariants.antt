use Rattle.std.proofs.Common.{◌≡◌, ◌≤◌, replicate, None, vec_capacity}
use Rattle.pfc_client.proofs.session.Session.new.Given as goal

abbrev pub invariant-loop-place : goal.invariant-loop-place
invariant-loop-place g l = record {
  items : l.places.items ≡ replicate l._place None;
  room : 16 ≤ vec_capacity l.places;
}
