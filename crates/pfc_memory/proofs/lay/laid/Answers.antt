use Rattle.std.proofs.Common.{◌≡◌, arith}
use Rattle.std.proofs.lemmas.Grind.{common_steps}
use Rattle.pfc_memory.proofs.Laying.{over, over-pieces, over-long, over-inside, over-outside}
use Rattle.pfc_memory.proofs.lay.laid.Goals as goal

pub returns : goal.returns
returns c =
    let at = c.args.at in
    let from = c.args.from.now in
    let old = c.args.old.now in
    let pieces = over-pieces 0 at from old in
    let e : c.extend_from_slice-3.new.self.items ≡ over 0 at from old = grind (arith, common_steps, pieces) in
    rw e (record {
      long = over-long 0 at from old;
      inside = λ p h. over-inside 0 0 at from old p h;
      outside = λ p h. over-outside 0 at from old p h;
    })
