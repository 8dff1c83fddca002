use Rattle.std.proofs.Common.{◌≡◌, ◌<◌, length}
use Rattle.pfc_actor.specs.Backings.{depot_of, IsSoundAtHome}
use Rattle.pfc_scene.specs.Scenes.{IsLentBy, PersistsBy, Plays}
use Rattle.pfc_scene.proofs.scene.Scene.settle.Given as goal

abbrev pub invariant-loop-turn : goal.invariant-loop-turn
invariant-loop-turn g l = record {
  sound : IsSoundAtHome g.W.World.told g.P.Data.DataDev.told g.W.World.files (g.P.Depot.home_data l.depot) (g.P.Depot.home_main l.depot);
  lent : IsLentBy (depot_of g.P.Depot.out g.P.Depot.lent g.P.Depot.faults l.depot) l.self.backings;
  plays : Plays l.fn.self (depot_of g.P.Depot.out g.P.Depot.lent g.P.Depot.faults l.fn.depot) l.self (depot_of g.P.Depot.out g.P.Depot.lent g.P.Depot.faults l.depot);
  persists : PersistsBy g.W.World.told g.P.Data.DataDev.told g.W.World.files l.fn.self (g.P.Depot.home_main l.fn.depot) l.self (g.P.Depot.home_main l.depot);
  unlisted : g.P.Depot.unlisted l.depot ≡ g.P.Depot.unlisted l.fn.depot;
  low : l.j < length l.self.clients;
}
