use Rattle.std.proofs.Common.{subst, sym, ◌≡◌, ◌||◌, not, Some, List, ℕ, rules}
use Rattle.pfc_world.specs.Info.{Info}
use Rattle.pfc_world.specs.Info as info
use Rattle.pfc_memory.specs.Mains.{info_of, Brings, certain_of, uncertain_of, is_stable}
use Rattle.pfc_memory.proofs.Mains.{rename_done, rename_brings, rename_failed, may_rename}
use Rattle.pfc_memory.proofs.main_file.rename.Goals as goal

pub returns : goal.returns
returns c =
    let old = info_of c.args.old.now in
    let first = c.in_ok-first.first.items in
    let second = c.in_ok-second.second.items in
    let brought : (other : List ℕ) → old.temporary ≡ info.stable other → first ≡ other = search rules in
    let again : (other : List ℕ) → old.temporary ≡ info.stable other → second ≡ other = search rules in
    let done : info_of c.certain.result ≡ certain_of (Some first) (not (is_stable old.temporary)) info.ragged = search rules in
    let doubtful : info_of c.in_ok-uncertain.field-0 ≡ uncertain_of old (Some second) (old.torn || not (is_stable old.temporary)) info.ragged = search rules in
    record {
      done = rw done (rename_done old first brought);
      brings = subst (λ (state : Info). Brings old state) (sym done) (rename_brings old first brought);
      failed = rw doubtful (rename_failed old second again);
      both = rw doubtful (may_rename old second again);
    }
