use Rattle.pfc_replay.proofs.Homes.{sound-fewer}
use Rattle.pfc_replay.proofs.replay.list_depot.Goals as goal

pub returns-in-Ok-clause-sound : goal.returns-in-Ok-clause-sound
returns-in-Ok-clause-sound g c =
    sound-fewer g.W.World.told g.P.Data.DataDev.told g.W.World.files (g.P.Depot.home_data c.args.depot.now) (g.P.Depot.home_data c.list.new.self)
    (g.P.Depot.home_main c.args.depot.now) (g.P.Depot.home_main c.list.new.self) c.list.ensures.home c.requires.sound

pub returns-in-Err-clause-sound : goal.returns-in-Err-clause-sound
returns-in-Err-clause-sound g c =
    sound-fewer g.W.World.told g.P.Data.DataDev.told g.W.World.files (g.P.Depot.home_data c.args.depot.now) (g.P.Depot.home_data c.list.new.self)
    (g.P.Depot.home_main c.args.depot.now) (g.P.Depot.home_main c.list.new.self) c.list.ensures.home c.requires.sound

pub returns-in-Ok-clause-mains : goal.returns-in-Ok-clause-mains
returns-in-Ok-clause-mains g c told path = (c.list.ensures.home told path).1

pub returns-in-Err-clause-mains : goal.returns-in-Err-clause-mains
returns-in-Err-clause-mains g c told path = (c.list.ensures.home told path).1
