use Rattle.std.proofs.Common.{◌≡◌, ◌-◌, replicate, arith}
use Rattle.std.proofs.lemmas.Grind.{common_steps}
use Rattle.std.proofs.lemmas.List.{length-replicate}
use Rattle.pfc_memory.specs.declared.place.Place.TheVariants.{Settled, Unsettled}
use Rattle.pfc_memory.proofs.Laying.{over, over-pieces}
use Rattle.pfc_memory.proofs.Places.{marks}
use Rattle.pfc_memory.proofs.lay.marked.Goals as goal

pub returns : goal.returns
returns c =
    let from = c.args.from in
    let to = c.args.to in
    let old = c.args.old.now in
    let pieces = over-pieces Settled from (replicate (to - from) Unsettled) old in
    let n = length-replicate (to - from) Unsettled in
    let e : c.extend_from_slice-2.new.self.items ≡ over Settled from (replicate (to - from) Unsettled) old = grind (arith, common_steps, pieces, n) in
    rw e (marks from to old c.requires)
