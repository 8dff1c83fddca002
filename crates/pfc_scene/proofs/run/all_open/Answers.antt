use Rattle.std.proofs.Common.{◌<◌, ◌≤◌, length, rules, arith}
use Rattle.pfc_scene.proofs.Lasting.{open_here, open_more}
use Rattle.pfc_scene.proofs.run.all_open.Goals as goal

pub loop-i-preserved : goal.loop-i-preserved
loop-i-preserved g c =
    let low : c.loop-i.i < length c.args.cores.now = search rules in record {
      opened = open_more c.args.cores.now c.args.backings.now c.loop-i.i c.loop-i.invariant.opened
          (open_here c.args.cores.now c.args.backings.now c.loop-i.i c.index-cores-i.result c.index-backings-i.result c.standing.result low c.requires c.index-cores-i.is c.index-backings-i.is c.standing.ensures (c.is_open.ensures (search rules)));
    }

pub returns : goal.returns
returns g c = λ yes i d e low. let most : length c.args.cores.now ≤ c.loop-i.i = search rules in c.loop-i.invariant.opened i d e (omega (arith, low, most))
