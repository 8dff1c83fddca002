use Rattle.std.proofs.Common.{◌≡◌, ◌+◌, min, length, rules}
use Rattle.pfc_memory.specs.Places.{Marked}
use Rattle.pfc_memory.specs.Data.{Laid}
use Rattle.pfc_memory.proofs.Disks.{write_done, write_unsettles, write_failed, write_both}
use Rattle.pfc_memory.proofs.lay.write.Goals as goal

pub returns : goal.returns
returns c =
    let at = c.args.at in
    let from = c.args.from.now in
    let old = c.args.old.now in
    let bytes = c.in_ok-laid.field-0.items in
    let first = c.in_ok-marked.field-0.items in
    let second = c.in_ok-marked-2.field-0.items in
    let same : c.in_ok-to_vec.field-0.items ≡ old.bytes.items = search rules in
    let laid : Laid at from old.bytes.items bytes = search rules in
    let one : Marked (min at (length old.bytes.items)) (at + length from) old.places.items first = search rules in
    let two : Marked (min at (length old.bytes.items)) (at + length from) old.places.items second = search rules in
    record {
      done = write_done at from old.bytes.items bytes old.places.items first laid one;
      unsettles = write_unsettles at (length from) old.bytes.items bytes old.places.items first one;
      failed = rw same (write_failed at from old.bytes.items old.places.items second two);
      both = rw same (write_both at from old.bytes.items old.places.items second two);
    }
