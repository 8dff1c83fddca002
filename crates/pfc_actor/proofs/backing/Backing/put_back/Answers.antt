use Rattle.std.proofs.Common.{◌≡◌, ◌∙◌, List, ap, subst, sym, ℕ}
use Rattle.std.specs.Prelude.{IsTrue, Option, Some}
use Rattle.pfc_actor.specs.declared.backing.Held.{Held}
use Rattle.pfc_actor.specs.Backings.{BackingView, Bare, ClaimsIn, IsMainIn, path_in}
use Rattle.pfc_actor.specs.Standings.{ClaimsRight, stand_of, now_of, info_of}
use Rattle.pfc_actor.proofs.BackingHomes.{put_nothing, put_volume, returned}
use Rattle.pfc_actor.proofs.Leaving.{put_mains, put_none}
use Rattle.pfc_actor.proofs.backing.Backing.put_back.Goals as goal
use Rattle.pfc_actor.proofs.backing.Backing.put_back.Goals.{in-None, in-Some}

pub returns-clause-back : goal.returns-clause-back
returns-clause-back g c = elim c.match-parted.branch [
  | in-None w ↦
      let bare : c.args.self.now.stand ≡ Bare = ap (λ (b : BackingView). b.stand) (sym c.self.view_is) ∙ ap (λ (h : Held g.row.W.Denot g.row.P-Data.Denot g.row.P-Info.Denot). stand_of h) (sym c.replace-held.ensures.value) ∙ w.in-None.ensures.parted in
      rw w.depot-is (put_nothing c.args.self.now _ bare)
  | in-Some w ↦
      let path : path_in c.args.self.now.stand ≡ Some w.in-Some.volume.path = ap (λ (b : BackingView). path_in b.stand) (sym c.self.view_is) ∙ ap (λ (h : Held g.row.W.Denot g.row.P-Data.Denot g.row.P-Info.Denot). path_in (stand_of h)) (sym c.replace-held.ensures.value) ∙ w.in-Some.ensures.parted.0 in
      let now : c.args.self.now.now ≡ (g.P.Data.DataDev.faults w.in-Some.volume.first, g.P.Info.InfoDev.faults w.in-Some.volume.second) =
      ap (λ (b : BackingView). b.now) (sym c.self.view_is) ∙ ap (λ (h : Held g.row.W.Denot g.row.P-Data.Denot g.row.P-Info.Denot). now_of g.P.Data.DataDev.faults g.P.Info.InfoDev.faults h) (sym c.replace-held.ensures.value) ∙ w.in-Some.ensures.parted.1 in
      rw w.depot-is
      (put_volume w.in-Some.volume.path c.args.self.now _ _ path
      (λ out. returned w.in-Some.volume.path c.args.self.now _ _ (g.P.Data.DataDev.faults w.in-Some.volume.first) (g.P.Info.InfoDev.faults w.in-Some.volume.second) w.put_home.ensures.loses w.put_home.ensures.elsewhere w.put_home.ensures.faults out.1 now w.put_home.ensures.first w.put_home.ensures.second) c.requires.out)
]

pub returns-clause-mains : goal.returns-clause-mains
returns-clause-mains g c told = elim c.match-parted.branch [
  | in-None w ↦
      let bare : c.args.self.now.stand ≡ Bare = ap (λ (b : BackingView). b.stand) (sym c.self.view_is) ∙ ap (λ (h : Held g.row.W.Denot g.row.P-Data.Denot g.row.P-Info.Denot). stand_of h) (sym c.replace-held.ensures.value) ∙ w.in-None.ensures.parted in
      rw w.depot-is (put_none c.args.self.now (g.P.Depot.home_main c.args.depot.now) bare)
  | in-Some w ↦
      let path : path_in c.args.self.now.stand ≡ Some w.in-Some.volume.path = ap (λ (b : BackingView). path_in b.stand) (sym c.self.view_is) ∙ ap (λ (h : Held g.row.W.Denot g.row.P-Data.Denot g.row.P-Info.Denot). path_in (stand_of h)) (sym c.replace-held.ensures.value) ∙ w.in-Some.ensures.parted.0 in
      let info = ap (λ (b : BackingView). b.info) (sym c.self.view_is) ∙ ap (λ (h : Held g.row.W.Denot g.row.P-Data.Denot g.row.P-Info.Denot). info_of g.P.Info.InfoDev.told g.P.Info.InfoDev.seen h) (sym c.replace-held.ensures.value) ∙ w.in-Some.ensures.parted.2 in
      let claims = subst (λ (b : BackingView). (main : Option (List ℕ)) → IsMainIn b.info main → ClaimsIn b.stand b.claimed b.durable main) c.self.view_is
      (subst (λ (h : Held g.row.W.Denot g.row.P-Data.Denot g.row.P-Info.Denot). ClaimsRight g.P.Info.InfoDev.told g.P.Info.InfoDev.seen h) c.replace-held.ensures.value w.in-Some.ensures.claims) in
      rw w.depot-is
      (put_mains g.P.Info.InfoDev.told w.in-Some.volume.path c.args.self.now (g.P.Info.InfoDev.seen w.in-Some.volume.second).now (g.P.Depot.home_main c.args.depot.now) (g.P.Depot.home_main w.put_home.new.depot) (subst (λ t. IsTrue t) g.met.P.Depot.alike told) path info claims (w.put_home.ensures.mains told))
]
