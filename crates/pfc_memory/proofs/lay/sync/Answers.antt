use Rattle.std.proofs.Common.{◌≡◌, map, rules}
use Rattle.pfc_memory.specs.Places.{after_sync, after_loss}
use Rattle.pfc_memory.proofs.Disks.{sync_done, sync_settles, sync_failed, sync_both}
use Rattle.pfc_memory.proofs.lay.sync.Goals as goal

pub returns : goal.returns
returns c =
    let bytes = c.args.old.now.bytes.items in
    let places = c.args.old.now.places.items in
    let one : c.in_ok-to_vec.field-0.items ≡ bytes = search rules in
    let two : c.in_ok-to_vec-2.field-0.items ≡ bytes = search rules in
    let settled : c.in_ok-synced.field-0.items ≡ map after_sync places = search rules in
    let lost : c.in_ok-lost.field-0.items ≡ map after_loss places = search rules in
    record {
      done = rw (one, settled) (sync_done bytes places);
      settles = λ p. rw settled (sync_settles bytes places p);
      failed = rw (two, lost) (sync_failed bytes places);
      both = rw (two, lost) (sync_both bytes places);
    }
