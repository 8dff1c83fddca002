use Rattle.std.proofs.Common.{◌≡◌, ◌++◌, take, All}
use Rattle.std.specs.List.{flat_map}
use Rattle.pfc_base.specs.Cinfo.{FitsRecord, record_of}
use Rattle.pfc_cinfo.proofs.encoding.put_records.Given as goal

abbrev pub invariant-loop-record : goal.invariant-loop-record
invariant-loop-record l = record {
  written : l.out.items ≡ l.initial.out.items ++ flat_map record_of (take l.record-index l.records);
  fits : All FitsRecord (take l.record-index l.records);
}
