use Rattle.std.proofs.Common.{◌≡◌, ◌+◌, ◌*◌, ◌∙◌, length, sym, ap, subst}
use Rattle.pfc_base.specs.declared.block.Part.{Part}
use Rattle.pfc_world.specs.Files.{Holds}
use Rattle.pfc_core.specs.Marks.{Mark}
use Rattle.pfc_read.specs.declared.segment.Hand.TheVariants as hand
use Rattle.pfc_read.specs.OpView.{OpView, ToRead}
use Rattle.pfc_read.specs.Kept.{given_of}
use Rattle.pfc_read.proofs.Written.{part-long, written-part}
use Rattle.pfc_read.proofs.Moves.{given-disk, kept-came, kept-broken, placed-disk, same-read}
use Rattle.pfc_read.proofs.op.ReadOp.read.Goals as goal

pub invariant_of-self : goal.invariant_of-self
invariant_of-self g c =
    let s = c.self.inside in
    let seg = c.in-Disk.segment in
    let told = g.W.World.told in
    let files = g.W.World.files in
    let store = c.args.loan.now.store in
    let into = c.read_part.new.into in
    let placed = placed-disk told files s seg c.in-Disk.is c.self.invariant in
    let within = placed.within in
    let long : length into ≡ seg.part.len = part-long seg.at seg.part.len c.deref_mut.result.now s.bytes.items into c.deref_mut.ensures.value within c.in-Ok.ensures.length in
    let w = written-part s.bytes c.deref_mut.result.now seg.at seg.part.len into c.deref_mut.ensures.value within long in
    let reading : s.reading ≡ c.args.self.now.reading = ap (λ (v : OpView). v.reading) c.self.view_is in
    let given : ToRead seg.part ≡ ToRead c.args.part = ap given_of (sym c.in-Disk.is) ∙ ap (λ (v : OpView). v.given) c.self.view_is ∙ c.requires.given in
    let part : seg.part ≡ c.args.part = same-read seg.part c.args.part given in
    let path : store.path ≡ s.reading.path = c.requires.path ∙ ap (λ (m : Mark). m.path) (sym reading) in
    let k : store.block_size ≡ s.reading.block_size = c.requires.block_size ∙ ap (λ (m : Mark). m.block_size) (sym reading) in
    let holds : Holds told files s.reading.path (seg.part.block * s.reading.block_size + seg.part.from) into = λ t.
    subst (λ p. Holds told files p (seg.part.block * s.reading.block_size + seg.part.from) into) path
    (subst (λ b. Holds told files store.path (seg.part.block * b + seg.part.from) into) k
    (subst (λ (p : Part). Holds told files store.path (p.block * store.block_size + p.from) into) (sym part) (c.in-Ok.ensures.bytes (c.requires.told t)))) t in
    kept-came told files s (hand.Disk seg) seg _ into c.plus-self-inside.result c.in-Disk.is (given-disk seg) placed long w holds c.plus-self-inside.ensures c.self.invariant

pub invariant_of-self-in-Err : goal.invariant_of-self-in-Err
invariant_of-self-in-Err g c =
    let s = c.self.inside in
    let seg = c.in-Disk.segment in
    let told = g.W.World.told in
    let files = g.W.World.files in
    let into = c.read_part.new.into in
    let within = (placed-disk told files s seg c.in-Disk.is c.self.invariant).within in
    let long : length into ≡ seg.part.len = part-long seg.at seg.part.len c.deref_mut.result.now s.bytes.items into c.deref_mut.ensures.value within c.in-Err.ensures.length in
    let w = written-part s.bytes c.deref_mut.result.now seg.at seg.part.len into c.deref_mut.ensures.value within long in
    kept-broken told files s seg _ into c.in-Disk.is long w c.self.invariant
