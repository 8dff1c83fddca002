use Rattle.std.proofs.Common.{◌∙◌, arith}
use Rattle.pfc_catalog.proofs.Volumes.{mains_on, kept_on, stays_on}
use Rattle.pfc_catalog.proofs.Scanned.{absent, scan_more, found_at, free, look_later}
use Rattle.pfc_catalog.proofs.scanning.look_at_all.Goals as goal

pub returns-in_err-looked-clause-kept : goal.returns-in_err-looked-clause-kept
returns-in_err-looked-clause-kept g c told =
    let D = g.P.Depot.home_data in
    let M = g.P.Depot.home_main in
    kept_on (D c.args.depot.now) (D c.loop-path.depot) (D c.look.new.depot) (M c.args.depot.now) (M c.loop-path.depot) (M c.look.new.depot) (c.loop-path.invariant.kept told) (c.look.ensures.kept told)

pub returns-in_err-looked-clause-out : goal.returns-in_err-looked-clause-out
returns-in_err-looked-clause-out g c =
    let O = g.P.Depot.out in
    let L = g.P.Depot.lent in
    stays_on (O c.args.depot.now) (O c.loop-path.depot) (O c.look.new.depot) (L c.args.depot.now) (L c.loop-path.depot) (L c.look.new.depot) c.loop-path.invariant.out c.look.ensures.out

pub enter-requires : goal.enter-requires
enter-requires g c = absent c.args.paths.now c.loop-path.path-index c.path-item.result c.loop-path.catalog.entries c.requires.order c.loop-path-test.true c.path-item.is c.loop-path.invariant.scan.keys

pub returns-in_err-enter-clause-kept : goal.returns-in_err-enter-clause-kept
returns-in_err-enter-clause-kept g c told =
    let D = g.P.Depot.home_data in
    let M = g.P.Depot.home_main in
    kept_on (D c.args.depot.now) (D c.loop-path.depot) (D c.look.new.depot) (M c.args.depot.now) (M c.loop-path.depot) (M c.look.new.depot) (c.loop-path.invariant.kept told) (c.look.ensures.kept told)

pub returns-in_err-enter-clause-out : goal.returns-in_err-enter-clause-out
returns-in_err-enter-clause-out g c =
    let O = g.P.Depot.out in
    let L = g.P.Depot.lent in
    stays_on (O c.args.depot.now) (O c.loop-path.depot) (O c.look.new.depot) (L c.args.depot.now) (L c.loop-path.depot) (L c.look.new.depot) c.loop-path.invariant.out c.look.ensures.out

pub loop-path-preserved : goal.loop-path-preserved
loop-path-preserved g c =
    let D = g.P.Depot.home_data in
    let M = g.P.Depot.home_main in
    let O = g.P.Depot.out in
    let L = g.P.Depot.lent in
    let path = c.path-item.result in
    let away = c.in_ok-looked.ensures.away in
    let same = c.loop-path.invariant.out.same path in
    record {
      scan = scan_more g.P.Data.DataDev.told (M c.loop-path.depot) (M c.look.new.depot) (O c.args.depot.now) (g.P.Depot.faults c.args.depot.now) (g.P.Depot.faults c.loop-path.depot) (g.P.Depot.faults c.look.new.depot)
          c.args.paths.now c.loop-path.path-index path c.loop-path.catalog c.enter.new.catalog c.in_ok-looked.looked c.requires.order c.loop-path-test.true c.path-item.is c.loop-path.invariant.scan
          (λ told other apart main is. ((c.look.ensures.elsewhere told other apart).1 main).0 is)
          c.in_ok-looked.ensures.sees
          (λ is. same.0 (away.0 is), λ is. away.1 (same.1 is))
          c.in_ok-looked.ensures.cause c.in_ok-enter.ensures.ok;
      mains = λ told. mains_on (D c.args.depot.now) (D c.loop-path.depot) (D c.look.new.depot) (M c.args.depot.now) (M c.loop-path.depot) (M c.look.new.depot) (c.loop-path.invariant.mains told) (c.look.ensures.mains told);
      kept = λ told. kept_on (D c.args.depot.now) (D c.loop-path.depot) (D c.look.new.depot) (M c.args.depot.now) (M c.loop-path.depot) (M c.look.new.depot) (c.loop-path.invariant.kept told) (c.look.ensures.kept told);
      sound = c.look.ensures.sound;
      out = stays_on (O c.args.depot.now) (O c.loop-path.depot) (O c.look.new.depot) (L c.args.depot.now) (L c.loop-path.depot) (L c.look.new.depot) c.loop-path.invariant.out c.look.ensures.out;
      faults = omega (arith, c.loop-path.invariant.faults, look_later _ _ _ c.look.ensures.cause);
      unlisted = c.look.ensures.unlisted ∙ c.loop-path.invariant.unlisted;
    }

pub returns-clause-found : goal.returns-clause-found
returns-clause-found g c path e there = found_at g.P.Data.DataDev.told (g.P.Depot.home_main c.loop-path.depot) (g.P.Depot.out c.args.depot.now) c.loop-path.catalog.entries path e c.loop-path.invariant.scan.found there

pub returns-clause-instances : goal.returns-clause-instances
returns-clause-instances g c = (c.loop-path.invariant.scan.next, λ s. free g.P.Data.DataDev.told (g.P.Depot.home_main c.loop-path.depot) (g.P.Depot.out c.args.depot.now) c.loop-path.catalog.entries s c.loop-path.invariant.scan.found)

pub returns-in_err-looked-clause-faults : goal.returns-in_err-looked-clause-faults
returns-in_err-looked-clause-faults g c = omega (arith, c.loop-path.invariant.faults, look_later _ _ _ c.look.ensures.cause)

pub returns-in_err-enter-clause-faults : goal.returns-in_err-enter-clause-faults
returns-in_err-enter-clause-faults g c = omega (arith, c.loop-path.invariant.faults, look_later _ _ _ c.look.ensures.cause)
