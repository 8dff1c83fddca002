use Rattle.std.proofs.Common.{◌≡◌, [], length, refl, rules}
use Rattle.pfc_memory.specs.Places.{Loses}
use Rattle.pfc_memory.proofs.Disks.{clear_failed, clear_both}
use Rattle.pfc_memory.proofs.lay.clear.Goals as goal

pub returns : goal.returns
returns c =
    let bytes = c.args.old.now.bytes.items in
    let places = c.args.old.now.places.items in
    let same : c.in_ok-to_vec.field-0.items ≡ bytes = search rules in
    let lost : Loses (length bytes) places c.in_ok-all_lost.field-0.items = search rules in
    let none : c.new-2.result.items ≡ [] = search rules in
    record {
      empty = search rules;
      clean = λ p. rw none refl;
      failed = rw same (clear_failed bytes places c.in_ok-all_lost.field-0.items lost);
      both = rw same (clear_both bytes places c.in_ok-all_lost.field-0.items lost);
    }
