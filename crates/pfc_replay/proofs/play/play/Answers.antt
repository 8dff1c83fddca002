use Rattle.pfc_report.specs.Caused.{disks_of}
use Rattle.pfc_replay.proofs.Lifted.{caused-since}
use Rattle.pfc_replay.proofs.play.play.Goals as goal

pub returns-in-Ok-clause-caused : goal.returns-in-Ok-clause-caused
returns-in-Ok-clause-caused g c =
    caused-since g.W.World.told g.W.World.files c.args.settings.block_size c.args.settings.capacity c.args.plan.now (g.H.Sources.spent c.args.host.now) (g.H.Sources.spent c.add_links.new.host)
    (g.H.Sources.spent c.play_over.new.host) (disks_of g.P.Data.DataDev.told g.P.Depot.home_main g.P.Depot.faults c.args.depot.now) (disks_of g.P.Data.DataDev.told g.P.Depot.home_main g.P.Depot.faults c.play_over.new.depot) c.play_over.result
    c.add_links.ensures.spent c.play_over.ensures.caused
