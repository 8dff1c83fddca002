use Rattle.std.proofs.Common.{◌≡◌, List, ℕ, Bool, ap, sym, ◌∙◌, arith}
use Rattle.pfc_log.specs.declared.counts.Counts.{Counts}
use Rattle.pfc_log.specs.Owners.{owners, owning, is_landed_of}
use Rattle.pfc_log.specs.Counts.{counts_of, one_more}
use Rattle.pfc_log.proofs.More.{owners_more}
use Rattle.pfc_log.proofs.Counting.{counts_more}
use Rattle.pfc_log.proofs.log.FileLog.push.Goals as goal

pub invariant_of-self : goal.invariant_of-self
invariant_of-self c =
    let es = c.self.inside.entries.items in
    let e = c.args.entry in
    let was = c.self.invariant in
    let test : c.is_prefetch-prefetched.result ≡ is_landed_of 0 (owners es) e =
    c.is_prefetch-prefetched.ensures ∙ ap (λ (ns : List ℕ). is_landed_of 0 ns e) (c.deref.ensures.value ∙ was.owned) in
    record {
      owned = c.keep_owner.ensures.owners ∙ ap (λ (ns : List ℕ). owning ns e) was.owned ∙ sym (owners_more es e) ∙ sym (ap owners c.push_reserved.ensures.items);
      counted = c.with-self-inside.ensures ∙ ap (λ (n : Counts). one_more n e c.is_prefetch-prefetched.result) was.counted ∙ ap (λ (b : Bool). one_more (counts_of es) e b) test ∙ sym (counts_more es e) ∙ sym (ap counts_of c.push_reserved.ensures.items);
      room = omega (arith, was.room, c.push_reserved.ensures.len, c.push_reserved.ensures.capacity);
      owner_room = omega (arith, was.owner_room, c.keep_owner.ensures.len, c.keep_owner.ensures.capacity);
    }
