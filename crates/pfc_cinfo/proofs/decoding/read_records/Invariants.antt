use Rattle.std.proofs.Common.{◌≡◌, ◌*◌, ◌≤◌, ◌-◌, ◌++◌, length}
use Rattle.pfc_base.specs.Cinfo.{records_in}
use Rattle.pfc_cinfo.proofs.decoding.read_records.Given as goal

abbrev pub invariant-loop : goal.invariant-loop
invariant-loop l = record {
  whole : l.records.items ++ records_in (l.count - l.counter) l.rest ≡ records_in l.count l.bytes;
  room : 64 * (l.count - l.counter) ≤ length l.rest;
}
