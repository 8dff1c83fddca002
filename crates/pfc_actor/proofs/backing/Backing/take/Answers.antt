use Rattle.std.proofs.Common.{sym}
use Rattle.pfc_world.specs.Disk.{IsImage}
use Rattle.pfc_world.specs.Info.{IsMain}
use Rattle.pfc_actor.proofs.BackingHomes.{at_each, sound_along, sound_away, sound_fewer, sound_less}
use Rattle.pfc_actor.proofs.Leaving.{mains_away, mains_fewer}
use Rattle.pfc_actor.proofs.backing.Backing.take.Goals as goal

pub new-requires-after_bounds : goal.new-requires-after_bounds
new-requires-after_bounds g c κs within = λ told told_data.
    sound_along g.W.World.files c.path.result.now c.args.known.path (IsImage (g.P.Data.DataDev.seen c.in-Volume.first).now) (IsMain (g.P.Info.InfoDev.seen c.in-Volume.second).now) (sym c.path.ensures)
    (sound_less g.W.World.files c.path.result.now (g.P.Depot.home_data c.args.depot.now c.path.result.now) (IsImage (g.P.Data.DataDev.seen c.in-Volume.first).now) (g.P.Depot.home_main c.args.depot.now c.path.result.now) (IsMain (g.P.Info.InfoDev.seen c.in-Volume.second).now)
    (c.requires.sound told told_data c.path.result.now) (c.in-Volume.ensures.images told_data))

pub returns-in-Volume-clause-sound : goal.returns-in-Volume-clause-sound
returns-in-Volume-clause-sound g c = sound_away g.W.World.told g.P.Data.DataDev.told g.W.World.files c.path.result.now (g.P.Depot.home_data c.args.depot.now) (g.P.Depot.home_data c.take.new.self) (g.P.Depot.home_main c.args.depot.now) (g.P.Depot.home_main c.take.new.self)
    c.requires.sound c.in-Volume.ensures.away c.in-Volume.ensures.elsewhere

pub returns-in-Fault-clause-sound : goal.returns-in-Fault-clause-sound
returns-in-Fault-clause-sound g c = sound_fewer g.W.World.told g.P.Data.DataDev.told g.W.World.files c.args.known.path (g.P.Depot.home_data c.args.depot.now) (g.P.Depot.home_data c.take.new.self) (g.P.Depot.home_main c.args.depot.now) (g.P.Depot.home_main c.take.new.self)
    c.requires.sound c.in-Fault.ensures.home

pub returns-in-Fault-clause-stays : goal.returns-in-Fault-clause-stays
returns-in-Fault-clause-stays g c = record {
  out_is = c.in-Fault.ensures.not_out;
  lent_is = at_each c.path.result.now (g.P.Depot.lent c.args.depot.now) (g.P.Depot.lent c.take.new.self) c.in-Fault.ensures.not_lent c.in-Fault.ensures.lent_elsewhere;
}

pub returns-in-Memory-clause-sound : goal.returns-in-Memory-clause-sound
returns-in-Memory-clause-sound g c = sound_fewer g.W.World.told g.P.Data.DataDev.told g.W.World.files c.args.known.path (g.P.Depot.home_data c.args.depot.now) (g.P.Depot.home_data c.take.new.self) (g.P.Depot.home_main c.args.depot.now) (g.P.Depot.home_main c.take.new.self)
    c.requires.sound c.in-Memory.ensures.home

pub returns-in-Memory-clause-stays : goal.returns-in-Memory-clause-stays
returns-in-Memory-clause-stays g c = record {
  out_is = c.in-Memory.ensures.not_out;
  lent_is = at_each c.path.result.now (g.P.Depot.lent c.args.depot.now) (g.P.Depot.lent c.take.new.self) c.in-Memory.ensures.not_lent c.in-Memory.ensures.lent_elsewhere;
}

pub returns-in-Volume-clause-mains : goal.returns-in-Volume-clause-mains
returns-in-Volume-clause-mains g c = mains_away g.P.Data.DataDev.told c.path.result.now (g.P.Depot.home_data c.args.depot.now) (g.P.Depot.home_data c.take.new.self) (g.P.Depot.home_main c.args.depot.now) (g.P.Depot.home_main c.take.new.self) c.in-Volume.ensures.away c.in-Volume.ensures.elsewhere

pub returns-in-Fault-clause-mains : goal.returns-in-Fault-clause-mains
returns-in-Fault-clause-mains g c = mains_fewer g.P.Data.DataDev.told c.path.result.now (g.P.Depot.home_data c.args.depot.now) (g.P.Depot.home_data c.take.new.self) (g.P.Depot.home_main c.args.depot.now) (g.P.Depot.home_main c.take.new.self) c.in-Fault.ensures.home

pub returns-in-Memory-clause-mains : goal.returns-in-Memory-clause-mains
returns-in-Memory-clause-mains g c = mains_fewer g.P.Data.DataDev.told c.path.result.now (g.P.Depot.home_data c.args.depot.now) (g.P.Depot.home_data c.take.new.self) (g.P.Depot.home_main c.args.depot.now) (g.P.Depot.home_main c.take.new.self) c.in-Memory.ensures.home
