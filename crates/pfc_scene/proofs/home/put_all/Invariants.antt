use Rattle.std.proofs.Common.{◌≡◌, ℕ, List, length}
use Rattle.std.specs.Prelude.{IsTrue}
use Rattle.pfc_world.specs.Counts.{RoseBy}
use Rattle.pfc_core.specs.View.{CoreView}
use Rattle.pfc_actor.specs.Backings.{depot_of, IsSoundAtHome}
use Rattle.pfc_scene.specs.Scenes.{AreBackings, IsLentBy, settled}
use Rattle.pfc_scene.specs.Ends.{PutsFrom}
use Rattle.pfc_scene.proofs.Homes.{AreFirst}
use Rattle.pfc_scene.proofs.home.put_all.Given as goal

abbrev pub invariant-loop-backing : goal.invariant-loop-backing
invariant-loop-backing g l = record {
  sound : IsSoundAtHome g.W.World.told g.P.Data.DataDev.told g.W.World.files (g.P.Depot.home_data l.depot) (g.P.Depot.home_main l.depot);
  lent : IsLentBy (depot_of g.P.Depot.out g.P.Depot.lent g.P.Depot.faults l.depot) l.backings.items;
  first : AreFirst l.backings.items l.fn.backings.items;
  paid : (cores : List CoreView) → AreBackings cores l.fn.backings.items → (f : ℕ) → RoseBy f (settled cores l.fn.backings.items) (g.P.Depot.faults l.fn.depot) → RoseBy f (settled cores l.backings.items) (g.P.Depot.faults l.depot);
  mains : IsTrue g.P.Data.DataDev.told → PutsFrom (length l.backings.items) l.fn.backings.items (g.P.Depot.home_main l.fn.depot) (g.P.Depot.home_main l.depot);
  unlisted : g.P.Depot.unlisted l.depot ≡ g.P.Depot.unlisted l.fn.depot;
}

abbrev pub decreases-loop-backing : goal.decreases-loop-backing
decreases-loop-backing g l = length l.backings.items
