use Rattle.std.proofs.Common.{◌∙◌, refl}
use Rattle.pfc_report.specs.Caused.{disks_of}
use Rattle.pfc_replay.proofs.Lifted.{caused-earlier}
use Rattle.pfc_replay.proofs.replay.run_plan.Goals as goal

pub returns-in-Ok-play-clause-goes : goal.returns-in-Ok-play-clause-goes
returns-in-Ok-play-clause-goes g c = (
  c.play.ensures.unlisted ∙ c.in-Ok.ensures.unlisted,
  caused-earlier g.W.World.told g.W.World.files c.args.settings.block_size c.args.settings.capacity c.args.plan.now (g.H.Sources.spent c.args.host.now) (g.H.Sources.spent c.play.new.host)
      (disks_of g.P.Data.DataDev.told g.P.Depot.home_main g.P.Depot.faults c.args.depot.now) (disks_of g.P.Data.DataDev.told g.P.Depot.home_main g.P.Depot.faults c.list_depot.new.depot)
      (disks_of g.P.Data.DataDev.told g.P.Depot.home_main g.P.Depot.faults c.play.new.depot) c.in-Ok-play.report refl c.list_depot.ensures.later c.list_depot.ensures.mains c.in-Ok-play.ensures.caused,
)
