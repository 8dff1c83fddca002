use Rattle.std.proofs.Common.{ℕ, List, subst, ◌∙◌, arith}
use Rattle.std.specs.Prelude.{Contains}
use Rattle.pfc_world.specs.Counts.{RoseBy}
use Rattle.pfc_catalog.specs.Scan.{IsFoundAs, broken_in}
use Rattle.pfc_catalog.proofs.Volumes.{mains_fewer, kept_fewer, sound_fewer, mains_on, kept_on, stays_on, nothing_out}
use Rattle.pfc_catalog.proofs.Scanned.{has_entry, is_listed, rose_by-earlier, list_later}
use Rattle.pfc_catalog.proofs.scanning.scan.Goals as goal

pub returns-in-Err-Fault-clause-mains : goal.returns-in-Err-Fault-clause-mains
returns-in-Err-Fault-clause-mains g c told = mains_fewer (g.P.Depot.home_data c.args.depot.now) (g.P.Depot.home_data c.list.new.self) (g.P.Depot.home_main c.args.depot.now) (g.P.Depot.home_main c.list.new.self) (c.list.ensures.home told)

pub returns-in-Err-Fault-clause-kept : goal.returns-in-Err-Fault-clause-kept
returns-in-Err-Fault-clause-kept g c told = kept_fewer (g.P.Depot.home_data c.args.depot.now) (g.P.Depot.home_data c.list.new.self) (g.P.Depot.home_main c.args.depot.now) (g.P.Depot.home_main c.list.new.self) (c.list.ensures.home told)

pub returns-in-Err-Fault-clause-sound : goal.returns-in-Err-Fault-clause-sound
returns-in-Err-Fault-clause-sound g c = sound_fewer (g.P.Depot.home_data c.args.depot.now) (g.P.Depot.home_data c.list.new.self) (g.P.Depot.home_main c.args.depot.now) (g.P.Depot.home_main c.list.new.self) g.W.World.told g.P.Data.DataDev.told g.W.World.files c.requires c.list.ensures.home

pub returns-in-Err-Fault-clause-out : goal.returns-in-Err-Fault-clause-out
returns-in-Err-Fault-clause-out g c = nothing_out (g.P.Depot.out c.args.depot.now) (g.P.Depot.out c.list.new.self) (g.P.Depot.lent c.args.depot.now) (g.P.Depot.lent c.list.new.self) c.list.ensures.out c.list.ensures.lent

pub returns-in-Err-Memory-clause-mains : goal.returns-in-Err-Memory-clause-mains
returns-in-Err-Memory-clause-mains g c told = mains_fewer (g.P.Depot.home_data c.args.depot.now) (g.P.Depot.home_data c.list.new.self) (g.P.Depot.home_main c.args.depot.now) (g.P.Depot.home_main c.list.new.self) (c.list.ensures.home told)

pub returns-in-Err-Memory-clause-kept : goal.returns-in-Err-Memory-clause-kept
returns-in-Err-Memory-clause-kept g c told = kept_fewer (g.P.Depot.home_data c.args.depot.now) (g.P.Depot.home_data c.list.new.self) (g.P.Depot.home_main c.args.depot.now) (g.P.Depot.home_main c.list.new.self) (c.list.ensures.home told)

pub returns-in-Err-Memory-clause-sound : goal.returns-in-Err-Memory-clause-sound
returns-in-Err-Memory-clause-sound g c = sound_fewer (g.P.Depot.home_data c.args.depot.now) (g.P.Depot.home_data c.list.new.self) (g.P.Depot.home_main c.args.depot.now) (g.P.Depot.home_main c.list.new.self) g.W.World.told g.P.Data.DataDev.told g.W.World.files c.requires c.list.ensures.home

pub returns-in-Err-Memory-clause-out : goal.returns-in-Err-Memory-clause-out
returns-in-Err-Memory-clause-out g c = nothing_out (g.P.Depot.out c.args.depot.now) (g.P.Depot.out c.list.new.self) (g.P.Depot.lent c.args.depot.now) (g.P.Depot.lent c.list.new.self) c.list.ensures.out c.list.ensures.lent

pub look_at_all-requires-clause-sound : goal.look_at_all-requires-clause-sound
look_at_all-requires-clause-sound g c κs within = sound_fewer (g.P.Depot.home_data c.args.depot.now) (g.P.Depot.home_data c.list.new.self) (g.P.Depot.home_main c.args.depot.now) (g.P.Depot.home_main c.list.new.self) g.W.World.told g.P.Data.DataDev.told g.W.World.files c.requires c.list.ensures.home

pub returns-in-Ok-look_at_all-clause-all : goal.returns-in-Ok-look_at_all-clause-all
returns-in-Ok-look_at_all-clause-all g c told path has = has_entry c.in-Ok-look_at_all.catalog.entries c.in-Ok.paths.items path (c.in-Ok-look_at_all.ensures.keys ∙ c.deref.ensures.value) (c.in-Ok.ensures.all told path has)

pub returns-in-Ok-look_at_all-clause-only : goal.returns-in-Ok-look_at_all-clause-only
returns-in-Ok-look_at_all-clause-only g c told path some = c.in-Ok.ensures.only told path (is_listed c.in-Ok-look_at_all.catalog.entries c.in-Ok.paths.items path (c.in-Ok-look_at_all.ensures.keys ∙ c.deref.ensures.value) some)

pub returns-in-Ok-look_at_all-clause-found : goal.returns-in-Ok-look_at_all-clause-found
returns-in-Ok-look_at_all-clause-found g c path e there =
    subst (λ (out : List (List ℕ)). IsFoundAs g.P.Data.DataDev.told (g.P.Depot.home_main c.look_at_all.new.depot path) (Contains out path) e) c.list.ensures.out (c.in-Ok-look_at_all.ensures.found path e there)

pub returns-in-Ok-look_at_all-clause-broken : goal.returns-in-Ok-look_at_all-clause-broken
returns-in-Ok-look_at_all-clause-broken g c =
    let entries = c.in-Ok-look_at_all.catalog.entries in
    let later = g.P.Depot.faults c.look_at_all.new.depot in
    rose_by-earlier (g.P.Depot.faults c.args.depot.now) (broken_in (g.P.Depot.out c.args.depot.now) entries) (g.P.Depot.faults c.list.new.self) later c.in-Ok.ensures.cause
    (subst (λ (out : List (List ℕ)). RoseBy (g.P.Depot.faults c.list.new.self) (broken_in out entries) later) c.list.ensures.out c.in-Ok-look_at_all.ensures.broken)

pub returns-in-Ok-look_at_all-clause-instances : goal.returns-in-Ok-look_at_all-clause-instances
returns-in-Ok-look_at_all-clause-instances g c = c.in-Ok-look_at_all.ensures.instances

pub returns-in-Ok-look_at_all-clause-mains : goal.returns-in-Ok-look_at_all-clause-mains
returns-in-Ok-look_at_all-clause-mains g c told =
    let D = g.P.Depot.home_data in
    let M = g.P.Depot.home_main in
    mains_on (D c.args.depot.now) (D c.list.new.self) (D c.look_at_all.new.depot) (M c.args.depot.now) (M c.list.new.self) (M c.look_at_all.new.depot)
    (mains_fewer (D c.args.depot.now) (D c.list.new.self) (M c.args.depot.now) (M c.list.new.self) (c.list.ensures.home told)) (c.look_at_all.ensures.mains told)

pub returns-in-Ok-look_at_all-clause-kept : goal.returns-in-Ok-look_at_all-clause-kept
returns-in-Ok-look_at_all-clause-kept g c told =
    let D = g.P.Depot.home_data in
    let M = g.P.Depot.home_main in
    kept_on (D c.args.depot.now) (D c.list.new.self) (D c.look_at_all.new.depot) (M c.args.depot.now) (M c.list.new.self) (M c.look_at_all.new.depot)
    (kept_fewer (D c.args.depot.now) (D c.list.new.self) (M c.args.depot.now) (M c.list.new.self) (c.list.ensures.home told)) (c.look_at_all.ensures.kept told)

pub returns-in-Ok-look_at_all-clause-out : goal.returns-in-Ok-look_at_all-clause-out
returns-in-Ok-look_at_all-clause-out g c =
    let O = g.P.Depot.out in
    let L = g.P.Depot.lent in
    stays_on (O c.args.depot.now) (O c.list.new.self) (O c.look_at_all.new.depot) (L c.args.depot.now) (L c.list.new.self) (L c.look_at_all.new.depot)
    (nothing_out (O c.args.depot.now) (O c.list.new.self) (L c.args.depot.now) (L c.list.new.self) c.list.ensures.out c.list.ensures.lent) c.look_at_all.ensures.out

pub returns-clause-mains : goal.returns-clause-mains
returns-clause-mains g c told =
    let D = g.P.Depot.home_data in
    let M = g.P.Depot.home_main in
    mains_on (D c.args.depot.now) (D c.list.new.self) (D c.look_at_all.new.depot) (M c.args.depot.now) (M c.list.new.self) (M c.look_at_all.new.depot)
    (mains_fewer (D c.args.depot.now) (D c.list.new.self) (M c.args.depot.now) (M c.list.new.self) (c.list.ensures.home told)) (c.look_at_all.ensures.mains told)

pub returns-clause-kept : goal.returns-clause-kept
returns-clause-kept g c told =
    let D = g.P.Depot.home_data in
    let M = g.P.Depot.home_main in
    kept_on (D c.args.depot.now) (D c.list.new.self) (D c.look_at_all.new.depot) (M c.args.depot.now) (M c.list.new.self) (M c.look_at_all.new.depot)
    (kept_fewer (D c.args.depot.now) (D c.list.new.self) (M c.args.depot.now) (M c.list.new.self) (c.list.ensures.home told)) (c.look_at_all.ensures.kept told)

pub returns-clause-out : goal.returns-clause-out
returns-clause-out g c =
    let O = g.P.Depot.out in
    let L = g.P.Depot.lent in
    stays_on (O c.args.depot.now) (O c.list.new.self) (O c.look_at_all.new.depot) (L c.args.depot.now) (L c.list.new.self) (L c.look_at_all.new.depot)
    (nothing_out (O c.args.depot.now) (O c.list.new.self) (L c.args.depot.now) (L c.list.new.self) c.list.ensures.out c.list.ensures.lent) c.look_at_all.ensures.out

pub returns-in-Err-Fault-clause-faults : goal.returns-in-Err-Fault-clause-faults
returns-in-Err-Fault-clause-faults g c = list_later _ _ _ c.list.ensures.cause

pub returns-in-Err-Memory-clause-faults : goal.returns-in-Err-Memory-clause-faults
returns-in-Err-Memory-clause-faults g c = list_later _ _ _ c.list.ensures.cause

pub returns-in-Ok-look_at_all-clause-faults : goal.returns-in-Ok-look_at_all-clause-faults
returns-in-Ok-look_at_all-clause-faults g c = omega (arith, list_later _ _ _ c.list.ensures.cause, c.look_at_all.ensures.faults)

pub returns-clause-faults : goal.returns-clause-faults
returns-clause-faults g c = omega (arith, list_later _ _ _ c.list.ensures.cause, c.look_at_all.ensures.faults)
