use Rattle.std.proofs.Common.{◌≡◌, true, false, inl, inr}
use Rattle.pfc_catalog.proofs.Volumes.{elsewhere_on, mains_at, kept_at, sound_at, mains_fewer, kept_fewer, sound_fewer, not_taken, taken_and_back}
use Rattle.pfc_catalog.proofs.scanning.look.Goals as goal

pub read_home-requires-clause-sound : goal.read_home-requires-clause-sound
read_home-requires-clause-sound g c κs within = λ told told_data file is image main is_image is_main.
    let images = c.in-Volume.ensures.images told_data in
    c.requires told told_data c.args.path.now file is image main (images.0 image is_image) (images.1 main is_main)

pub returns-in-Volume-clause-elsewhere : goal.returns-in-Volume-clause-elsewhere
returns-in-Volume-clause-elsewhere g c told =
    let D = g.P.Depot.home_data in
    let M = g.P.Depot.home_main in
    elsewhere_on c.args.path.now (D c.args.depot.now) (D c.take.new.self) (D c.read_home.new.depot) (M c.args.depot.now) (M c.take.new.self) (M c.read_home.new.depot) (c.in-Volume.ensures.elsewhere told) (c.read_home.ensures.elsewhere told)

pub returns-in-Volume-clause-mains : goal.returns-in-Volume-clause-mains
returns-in-Volume-clause-mains g c told =
    let D = g.P.Depot.home_data in
    let M = g.P.Depot.home_main in
    let images = c.in-Volume.ensures.images told in
    mains_at c.args.path.now (D c.args.depot.now) (D c.read_home.new.depot) (M c.args.depot.now) (M c.read_home.new.depot)
    (λ main is. elim (c.read_home.ensures.mains told main is) [ inl was ↦ inl (images.1 main was) | inr none ↦ inr none ])
    (elsewhere_on c.args.path.now (D c.args.depot.now) (D c.take.new.self) (D c.read_home.new.depot) (M c.args.depot.now) (M c.take.new.self) (M c.read_home.new.depot) (c.in-Volume.ensures.elsewhere told) (c.read_home.ensures.elsewhere told))

pub returns-in-Volume-clause-kept : goal.returns-in-Volume-clause-kept
returns-in-Volume-clause-kept g c told =
    let D = g.P.Depot.home_data in
    let M = g.P.Depot.home_main in
    let images = c.in-Volume.ensures.images told in
    kept_at c.args.path.now (D c.args.depot.now) (D c.read_home.new.depot) (M c.args.depot.now) (M c.read_home.new.depot)
    (λ cached.
    let kept = c.read_home.ensures.kept told (λ main is. cached main (images.1 main is)) in
    (λ image is. images.0 image (kept.0 image is), λ main is. images.1 main (kept.1 main is)))
    (elsewhere_on c.args.path.now (D c.args.depot.now) (D c.take.new.self) (D c.read_home.new.depot) (M c.args.depot.now) (M c.take.new.self) (M c.read_home.new.depot) (c.in-Volume.ensures.elsewhere told) (c.read_home.ensures.elsewhere told))

pub returns-in-Volume-clause-sound : goal.returns-in-Volume-clause-sound
returns-in-Volume-clause-sound g c =
    let D = g.P.Depot.home_data in
    let M = g.P.Depot.home_main in
    sound_at c.args.path.now (D c.args.depot.now) (D c.read_home.new.depot) (M c.args.depot.now) (M c.read_home.new.depot) g.W.World.told g.P.Data.DataDev.told g.W.World.files c.requires c.read_home.ensures.sound
    (λ told. elsewhere_on c.args.path.now (D c.args.depot.now) (D c.take.new.self) (D c.read_home.new.depot) (M c.args.depot.now) (M c.take.new.self) (M c.read_home.new.depot) (c.in-Volume.ensures.elsewhere told) (c.read_home.ensures.elsewhere told))

pub returns-in-Volume-clause-out : goal.returns-in-Volume-clause-out
returns-in-Volume-clause-out g c = taken_and_back c.args.path.now (g.P.Depot.out c.args.depot.now) (g.P.Depot.out c.take.new.self) (g.P.Depot.out c.read_home.new.depot) (g.P.Depot.lent c.args.depot.now) (g.P.Depot.lent c.take.new.self) (g.P.Depot.lent c.read_home.new.depot)
    (λ has. let clash : false ≡ true = c.in-Volume.ensures.out_already.1 has in cc)
    c.in-Volume.ensures.out c.read_home.ensures.out c.in-Volume.ensures.lent_elsewhere c.read_home.ensures.lent

pub returns-in-Out-clause-mains : goal.returns-in-Out-clause-mains
returns-in-Out-clause-mains g c told = mains_fewer (g.P.Depot.home_data c.args.depot.now) (g.P.Depot.home_data c.take.new.self) (g.P.Depot.home_main c.args.depot.now) (g.P.Depot.home_main c.take.new.self) (c.in-Out.ensures.home told)

pub returns-in-Out-clause-kept : goal.returns-in-Out-clause-kept
returns-in-Out-clause-kept g c told = kept_fewer (g.P.Depot.home_data c.args.depot.now) (g.P.Depot.home_data c.take.new.self) (g.P.Depot.home_main c.args.depot.now) (g.P.Depot.home_main c.take.new.self) (c.in-Out.ensures.home told)

pub returns-in-Out-clause-sound : goal.returns-in-Out-clause-sound
returns-in-Out-clause-sound g c = sound_fewer (g.P.Depot.home_data c.args.depot.now) (g.P.Depot.home_data c.take.new.self) (g.P.Depot.home_main c.args.depot.now) (g.P.Depot.home_main c.take.new.self) g.W.World.told g.P.Data.DataDev.told g.W.World.files c.requires c.in-Out.ensures.home

pub returns-in-Out-clause-out : goal.returns-in-Out-clause-out
returns-in-Out-clause-out g c = not_taken c.args.path.now (g.P.Depot.out c.args.depot.now) (g.P.Depot.out c.take.new.self) (g.P.Depot.out c.take.new.self) (g.P.Depot.lent c.args.depot.now) (g.P.Depot.lent c.take.new.self) (g.P.Depot.lent c.take.new.self) c.in-Out.ensures.not_out c.in-Out.ensures.not_lent c.in-Out.ensures.lent_elsewhere

pub returns-in-Fault-clause-mains : goal.returns-in-Fault-clause-mains
returns-in-Fault-clause-mains g c told = mains_fewer (g.P.Depot.home_data c.args.depot.now) (g.P.Depot.home_data c.take.new.self) (g.P.Depot.home_main c.args.depot.now) (g.P.Depot.home_main c.take.new.self) (c.in-Fault.ensures.home told)

pub returns-in-Fault-clause-kept : goal.returns-in-Fault-clause-kept
returns-in-Fault-clause-kept g c told = kept_fewer (g.P.Depot.home_data c.args.depot.now) (g.P.Depot.home_data c.take.new.self) (g.P.Depot.home_main c.args.depot.now) (g.P.Depot.home_main c.take.new.self) (c.in-Fault.ensures.home told)

pub returns-in-Fault-clause-sound : goal.returns-in-Fault-clause-sound
returns-in-Fault-clause-sound g c = sound_fewer (g.P.Depot.home_data c.args.depot.now) (g.P.Depot.home_data c.take.new.self) (g.P.Depot.home_main c.args.depot.now) (g.P.Depot.home_main c.take.new.self) g.W.World.told g.P.Data.DataDev.told g.W.World.files c.requires c.in-Fault.ensures.home

pub returns-in-Fault-clause-out : goal.returns-in-Fault-clause-out
returns-in-Fault-clause-out g c = not_taken c.args.path.now (g.P.Depot.out c.args.depot.now) (g.P.Depot.out c.take.new.self) (g.P.Depot.out c.take.new.self) (g.P.Depot.lent c.args.depot.now) (g.P.Depot.lent c.take.new.self) (g.P.Depot.lent c.take.new.self) c.in-Fault.ensures.not_out c.in-Fault.ensures.not_lent c.in-Fault.ensures.lent_elsewhere

pub returns-in-Memory-clause-mains : goal.returns-in-Memory-clause-mains
returns-in-Memory-clause-mains g c told = mains_fewer (g.P.Depot.home_data c.args.depot.now) (g.P.Depot.home_data c.take.new.self) (g.P.Depot.home_main c.args.depot.now) (g.P.Depot.home_main c.take.new.self) (c.in-Memory.ensures.home told)

pub returns-in-Memory-clause-kept : goal.returns-in-Memory-clause-kept
returns-in-Memory-clause-kept g c told = kept_fewer (g.P.Depot.home_data c.args.depot.now) (g.P.Depot.home_data c.take.new.self) (g.P.Depot.home_main c.args.depot.now) (g.P.Depot.home_main c.take.new.self) (c.in-Memory.ensures.home told)

pub returns-in-Memory-clause-sound : goal.returns-in-Memory-clause-sound
returns-in-Memory-clause-sound g c = sound_fewer (g.P.Depot.home_data c.args.depot.now) (g.P.Depot.home_data c.take.new.self) (g.P.Depot.home_main c.args.depot.now) (g.P.Depot.home_main c.take.new.self) g.W.World.told g.P.Data.DataDev.told g.W.World.files c.requires c.in-Memory.ensures.home

pub returns-in-Memory-clause-out : goal.returns-in-Memory-clause-out
returns-in-Memory-clause-out g c = not_taken c.args.path.now (g.P.Depot.out c.args.depot.now) (g.P.Depot.out c.take.new.self) (g.P.Depot.out c.take.new.self) (g.P.Depot.lent c.args.depot.now) (g.P.Depot.lent c.take.new.self) (g.P.Depot.lent c.take.new.self) c.in-Memory.ensures.not_out c.in-Memory.ensures.not_lent c.in-Memory.ensures.lent_elsewhere
