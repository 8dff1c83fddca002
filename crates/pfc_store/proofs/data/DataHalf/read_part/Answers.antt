use Rattle.std.proofs.Common.{◌≡◌, ◌⊎◌, inl, inr, ◌≤◌, ◌+◌, None, true, length, sym, ◌∙◌, ap, subst, arith}
use Rattle.pfc_base.specs.BlockSet.{is_member}
use Rattle.pfc_base.specs.Block.{block_len_of}
use Rattle.pfc_world.specs.Disk.{Read}
use Rattle.pfc_store.proofs.Stored.{part_holds}
use Rattle.pfc_store.proofs.data.DataHalf.read_part.Goals as goal
use Rattle.pfc_store.proofs.data.DataHalf.read_part.Goals.{in-Some+else-not-test-2, in_default}

pub returns-clause-bytes : goal.returns-clause-bytes
returns-clause-bytes g c =
    let s = c.self.inside in
    let part = c.args.part in
    let may : (s.frozen ≡ None) ⊎ (is_member s.durable part.block ≡ true) = elim c.match-self.branch [ in-Some+else-not-test-2 w ↦ inr (sym w.test-in-Some.ensures ∙ w.if-not-test-2.false) | in_default w ↦ inl w.in_default.is ] in
    let long : length c.read_at.new.into ≡ part.len = omega (arith, c.requires.into, c.read_at.auto.into) in
    let size = sym (ap (λ v. v.size) c.self.view_is) in
    let block_size = sym (ap (λ v. v.block_size) c.self.view_is) in
    let within : part.from + part.len ≤ block_len_of s.known.size s.block_size part.block = subst (λ n. part.from + part.len ≤ block_len_of n s.block_size part.block) size (subst (λ n. part.from + part.len ≤ block_len_of c.args.self.now.size n part.block) block_size c.requires.part.within) in
    rw (← c.self.view_is) (λ tells. part_holds g.W.World.told g.D.DataDev.told g.W.World.files s.known.path s.known.size s.block_size part.block part.from s.durable s.written s.frozen (g.D.DataDev.seen s.device) (g.D.DataDev.seen c.read_at.new.self) c.read_at.new.into
    s.known.right c.self.invariant.stored (sym c.test.ensures ∙ c.if-not-test.false) may (omega (arith, long, c.requires.part.some)) (subst (λ n. part.from + n ≤ block_len_of s.known.size s.block_size part.block) (sym long) within) tells
    (subst (λ n. Read n c.read_at.new.into true (g.D.DataDev.seen s.device) (g.D.DataDev.seen c.read_at.new.self)) c.place_of-at.ensures (c.in_default-read_at.ensures.read tells)))
