use Rattle.std.proofs.Common.{◌∙◌}
use Rattle.pfc_report.specs.Caused.{disks_of}
use Rattle.pfc_report.specs.Spent.{rows_of, spent_by}
use Rattle.pfc_replay.proofs.Spending.{asked-small, given_back-asked}
use Rattle.pfc_replay.proofs.Lifted.{caused-added, caused-same}
use Rattle.pfc_replay.proofs.play.play_over.Goals as goal

pub give_back-requires-after_bounds : goal.give_back-requires-after_bounds
give_back-requires-after_bounds g c κs within =
    asked-small g.H.Link.Origin.number c.run_scene-links.result.0.items c.args.plan.now c.run_scene-links.ensures.numbers

pub returns-in-Ok-clause-caused : goal.returns-in-Ok-clause-caused
returns-in-Ok-clause-caused g c =
    let links = c.run_scene-links.result.0.items in
    let rows = rows_of g.H.Link.Origin.number g.H.Link.Origin.calls g.H.Link.Origin.faults links in
    let k = c.args.settings.block_size in let capacity = c.args.settings.capacity in
    let disks = disks_of g.P.Data.DataDev.told g.P.Depot.home_main g.P.Depot.faults c.args.depot.now in
    let since = disks_of g.P.Data.DataDev.told g.P.Depot.home_main g.P.Depot.faults c.run_scene-links.new.depot in
    caused-same g.W.World.told g.W.World.files k capacity c.args.plan.now (g.H.Sources.spent c.args.host.now) _ (g.H.Sources.spent c.give_back.new.host) disks since c.in-Ok.report
    (λ n. c.give_back.ensures.spent n ∙ given_back-asked g.H.Link.Origin.number g.H.Link.Origin.calls g.H.Link.Origin.faults links c.args.plan.now (g.H.Sources.spent c.args.host.now) n c.run_scene-links.ensures.numbers)
    (caused-added g.W.World.told g.W.World.files k capacity c.args.plan.now (g.H.Sources.spent c.args.host.now) (spent_by rows) disks since c.in-Ok.report (rw c.in-Ok.is at c.run_scene-links.ensures.caused))
