use Rattle.std.proofs.Common.{◌≡◌, ◌≤◌, take}
use Rattle.std.specs.Prelude.{IsTrue}
use Rattle.pfc_catalog.specs.Scan.{IsSoundAtHome, StaysOut, KeepsMains, KeepsCached}
use Rattle.pfc_catalog.proofs.Scanned.{IsScanOf}
use Rattle.pfc_catalog.proofs.scanning.look_at_all.Given as goal

abbrev pub invariant-loop-path : goal.invariant-loop-path
invariant-loop-path g l = record {
  scan : IsScanOf g.P.Data.DataDev.told (g.P.Depot.home_main l.depot) (g.P.Depot.out l.fn.depot) (g.P.Depot.faults l.fn.depot) (g.P.Depot.faults l.depot) (take l.path-index l.paths) l.catalog;
  mains : IsTrue g.P.Data.DataDev.told → KeepsMains (g.P.Depot.home_main l.fn.depot) (g.P.Depot.home_main l.depot);
  kept : IsTrue g.P.Data.DataDev.told → KeepsCached (g.P.Depot.home_data l.fn.depot) (g.P.Depot.home_main l.fn.depot) (g.P.Depot.home_data l.depot) (g.P.Depot.home_main l.depot);
  sound : IsSoundAtHome g.W.World.told g.P.Data.DataDev.told g.W.World.files (g.P.Depot.home_data l.depot) (g.P.Depot.home_main l.depot);
  out : StaysOut (g.P.Depot.out l.fn.depot) (g.P.Depot.lent l.fn.depot) (g.P.Depot.out l.depot) (g.P.Depot.lent l.depot);
  faults : g.P.Depot.faults l.fn.depot ≤ g.P.Depot.faults l.depot;
  unlisted : g.P.Depot.unlisted l.depot ≡ g.P.Depot.unlisted l.fn.depot;
}
