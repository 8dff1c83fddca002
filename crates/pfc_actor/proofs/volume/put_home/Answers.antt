use Rattle.std.proofs.Common.{◌≡◌, ◌∙◌, List, ℕ, ap, subst, sym}
use Rattle.std.specs.Prelude.{Contains, IsTrue}
use Rattle.pfc_world.specs.Depot.{Loses}
use Rattle.pfc_world.specs.Disk.{IsImage}
use Rattle.pfc_world.specs.Info.{Info, IsMain}
use Rattle.pfc_actor.specs.Backings.{VolumeView}
use Rattle.pfc_actor.specs.Standings.{PutsVolume}
use Rattle.pfc_actor.proofs.BackingHomes.{sound_along, sound_at, sound_less}
use Rattle.pfc_actor.proofs.Leaving.{mains_home}
use Rattle.pfc_actor.proofs.volume.put_home.Goals as goal

pub put_back-is_back-requires : goal.put_back-is_back-requires
put_back-is_back-requires g c = λ told told_data.
    sound_along g.W.World.files c.volume.inside.known.path c.path.result.now (IsImage (g.P.Data.DataDev.seen c.volume.inside.first).now) (IsMain (g.P.Info.InfoDev.seen c.volume.inside.second).now) c.path.ensures (c.volume.invariant told told_data)

pub returns-clause-sound : goal.returns-clause-sound
returns-clause-sound g c =
    let same : c.path.result.now ≡ c.args.volume.path = c.path.ensures ∙ ap (λ (v : VolumeView g.row.P-Data.Denot g.row.P-Info.Denot). v.path) c.volume.view_is in
    let yes : IsTrue c.put_back-is_back.result = c.put_back-is_back.ensures.answer.1 (subst (λ (q : List ℕ). Contains (g.P.Depot.out c.args.depot.now) q) (sym same) c.requires.out) in
    sound_at g.W.World.told g.P.Data.DataDev.told g.W.World.files c.path.result.now (g.P.Depot.home_data c.args.depot.now) (g.P.Depot.home_data c.put_back-is_back.new.self) (g.P.Depot.home_main c.args.depot.now) (g.P.Depot.home_main c.put_back-is_back.new.self)
    c.requires.sound
    (λ told told_data.
    sound_less g.W.World.files c.path.result.now (IsImage (g.P.Data.DataDev.seen c.volume.inside.first).now) (g.P.Depot.home_data c.put_back-is_back.new.self c.path.result.now) (IsMain (g.P.Info.InfoDev.seen c.volume.inside.second).now) (g.P.Depot.home_main c.put_back-is_back.new.self c.path.result.now)
    (sound_along g.W.World.files c.volume.inside.known.path c.path.result.now (IsImage (g.P.Data.DataDev.seen c.volume.inside.first).now) (IsMain (g.P.Info.InfoDev.seen c.volume.inside.second).now) c.path.ensures (c.volume.invariant told told_data))
    (c.put_back-is_back.ensures.images yes told_data))
    c.put_back-is_back.ensures.elsewhere

pub returns-clause-loses : goal.returns-clause-loses
returns-clause-loses g c =
    let same : c.path.result.now ≡ c.args.volume.path = c.path.ensures ∙ ap (λ (v : VolumeView g.row.P-Data.Denot g.row.P-Info.Denot). v.path) c.volume.view_is in
    let yes : IsTrue c.put_back-is_back.result = c.put_back-is_back.ensures.answer.1 (subst (λ (q : List ℕ). Contains (g.P.Depot.out c.args.depot.now) q) (sym same) c.requires.out) in
    subst (λ (q : List ℕ). Loses q (g.P.Depot.out c.args.depot.now) (g.P.Depot.out c.put_back-is_back.new.self)) same (c.put_back-is_back.ensures.out yes)

pub returns-clause-mains : goal.returns-clause-mains
returns-clause-mains g c told =
    let same : c.path.result.now ≡ c.args.volume.path = c.path.ensures ∙ ap (λ (v : VolumeView g.row.P-Data.Denot g.row.P-Info.Denot). v.path) c.volume.view_is in
    let info = ap (λ (v : VolumeView g.row.P-Data.Denot g.row.P-Info.Denot). (g.P.Info.InfoDev.seen v.second).now) c.volume.view_is in
    let yes : IsTrue c.put_back-is_back.result = c.put_back-is_back.ensures.answer.1 (subst (λ (q : List ℕ). Contains (g.P.Depot.out c.args.depot.now) q) (sym same) c.requires.out) in
    subst (λ (q : List ℕ). PutsVolume q (g.P.Info.InfoDev.seen c.args.volume.second).now (g.P.Depot.home_main c.args.depot.now) (g.P.Depot.home_main c.put_back-is_back.new.self)) same
    (subst (λ (i : Info). PutsVolume c.path.result.now i (g.P.Depot.home_main c.args.depot.now) (g.P.Depot.home_main c.put_back-is_back.new.self)) info
    (mains_home g.P.Data.DataDev.told c.path.result.now (g.P.Depot.home_data c.args.depot.now) (g.P.Depot.home_data c.put_back-is_back.new.self) (g.P.Depot.home_main c.args.depot.now) (g.P.Depot.home_main c.put_back-is_back.new.self)
    (g.P.Info.InfoDev.seen c.volume.inside.second).now (c.put_back-is_back.ensures.images yes told).1 (c.put_back-is_back.ensures.elsewhere told)))
