use Rattle.std.proofs.Common.{◌≡◌, ◌++◌, min, map, replicate, drop, length, arith}
use Rattle.std.proofs.lemmas.Grind.{common_steps}
use Rattle.pfc_memory.specs.declared.place.Place.TheVariants.{LeftOver}
use Rattle.pfc_memory.specs.Places.{after_loss}
use Rattle.pfc_memory.proofs.Places.{loses}
use Rattle.pfc_memory.proofs.lay.all_lost.Goals as goal

pub returns : goal.returns
returns c =
    let count = c.args.count in
    let old = c.args.old.now in
    let e : c.extend_from_slice.new.self.items ≡ replicate count LeftOver ++ map after_loss (drop (min count (length old)) old) = grind (arith, common_steps) in
    rw e (loses count old)
