use Rattle.std.proofs.Common.{◌≡◌, ◌*◌, ◌≤◌, ◌-◌, length}
use Rattle.pfc_cinfo.specs.Damage.{are_clear}
use Rattle.pfc_cinfo.proofs.checks.reserved_are_clear.Given as goal

abbrev pub invariant-loop : goal.invariant-loop
invariant-loop l = record {
  clear : are_clear (l.count - l.counter) l.rest ≡ are_clear l.count l.records;
  room : 64 * (l.count - l.counter) ≤ length l.rest;
}
