use Rattle.std.proofs.Common.{◌≡◌, ℕ, length, take, map}
use Rattle.pfc_world.specs.Counts.{RoseBy}
use Rattle.pfc_actor.specs.Backings.{depot_of, IsSoundAtHome}
use Rattle.pfc_scene.specs.Scenes.{IsLentBy, PersistsBy, settled, who, number_of}
use Rattle.pfc_scene.specs.Ends.{all_asked}
use Rattle.pfc_scene.proofs.run.play.Given as goal

abbrev pub invariant-loop-step : goal.invariant-loop-step
invariant-loop-step g l = record {
  sound : IsSoundAtHome g.W.World.told g.P.Data.DataDev.told g.W.World.files (g.P.Depot.home_data l.depot) (g.P.Depot.home_main l.depot);
  lent : IsLentBy (depot_of g.P.Depot.out g.P.Depot.lent g.P.Depot.faults l.depot) l.scene.backings;
  persists : PersistsBy g.W.World.told g.P.Data.DataDev.told g.W.World.files l.fn.scene (g.P.Depot.home_main l.fn.depot) l.scene (g.P.Depot.home_main l.depot);
  paid : (f : ℕ) → RoseBy f (settled l.fn.scene.cores l.fn.scene.backings) (g.P.Depot.faults l.fn.depot) → RoseBy f (settled l.scene.cores l.scene.backings) (g.P.Depot.faults l.depot);
  unlisted : g.P.Depot.unlisted l.depot ≡ g.P.Depot.unlisted l.fn.depot;
  asked : map who l.scene.clients ≡ map (all_asked (take l.step-index l.fn.plan)) (map who l.fn.scene.clients);
  numbers : map number_of l.scene.clients ≡ map number_of l.fn.scene.clients;
  same_length : length l.scene.clients ≡ length l.fn.scene.clients;
  block_size : l.scene.block_size ≡ l.fn.scene.block_size;
  capacity : l.scene.capacity ≡ l.fn.scene.capacity;
}
