use Rattle.std.proofs.Common.{◌≡◌, List, Bool, true, length, ◌∙◌, ap, subst}
use Rattle.pfc_base.specs.BlockSet.{is_member, IsWithin}
use Rattle.pfc_cinfo.specs.Cinfo.{IsTiled}
use Rattle.pfc_store.proofs.Mains.{may_claim_more}
use Rattle.pfc_store.proofs.info.InfoHalf.raise.Goals as goal

pub invariant_of-self : goal.invariant_of-self
invariant_of-self g c =
    let s = c.self.inside in
    let due = c.args.due.now in
    let was = c.self.invariant in
    let same = ap (λ v. v.due) c.self.view_is in
    let long : length s.due ≡ length due = ap length same ∙ c.requires.bound in
    let more : IsWithin s.due due = λ i in_due. c.requires.more i (subst (λ (l : List Bool). is_member l i ≡ true) same in_due) in
    rw c.copy_from.ensures (record {
      tiled = subst (λ n. IsTiled s.block_size s.known.size n) long was.tiled;
      bounds = was.bounds ∙ long;
      nested = λ i in_claimed. more i (was.nested i in_claimed);
      settled = was.settled;
      mains = λ tells. may_claim_more s.known.size s.block_size s.claimed s.due due (g.I.InfoDev.seen s.device).now more (was.mains tells);
    })
