use Rattle.std.proofs.Common.{◌≡◌, None, false, rules}
use Rattle.pfc_memory.specs.Mains.{info_of, certain_of, uncertain_of}
use Rattle.pfc_memory.proofs.Mains.{remove_done, remove_failed, may_remove}
use Rattle.pfc_memory.proofs.main_file.remove.Goals as goal

pub returns : goal.returns
returns c =
    let old = info_of c.args.old.now in
    let done : info_of c.certain.result ≡ certain_of None false old.temporary = search rules in
    let doubtful : info_of c.in_ok-uncertain.field-0 ≡ uncertain_of old None old.torn old.temporary = search rules in
    record {
      done = rw done (remove_done old old.temporary);
      failed = rw doubtful (remove_failed old old.temporary);
      both = rw doubtful (may_remove old old.temporary);
    }
