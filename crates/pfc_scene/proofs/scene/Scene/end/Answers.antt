use Rattle.std.proofs.Common.{◌≡◌, ◌∙◌, ◌++◌, ◌<◌, ℕ, List, arith, length, refl, sym, ap, subst, map, reverse}
use Rattle.std.specs.Prelude.{slice_index_or}
use Rattle.std.proofs.lemmas.List.{length-reverse, reverse-reverse}
use Rattle.pfc_report.specs.Spent.{Rows, rows_of, spent_by, nothing_spent}
use Rattle.pfc_report.specs.declared.report.Told.{Told}
use Rattle.pfc_report.specs.Caused.{IsAccounted}
use Rattle.pfc_world.specs.Counts.{RoseBy}
use Rattle.pfc_actor.specs.Backings.{BackingView, depot_of}
use Rattle.pfc_actor.specs.Clients.{ClientView, IsDone}
use Rattle.pfc_scene.specs.Scenes.{AreBackings, IsLentBy, all_charges, beside, number_of, settled}
use Rattle.pfc_report.specs.Report.{ReportView}
use Rattle.pfc_report.specs.declared.report.Section.{Section}
use Rattle.pfc_core.specs.View.{CoreView}
use Rattle.pfc_scene.specs.Ends.{PutsFrom, AreOpen, AreSections, Settles, row_of, told_of}
use Rattle.pfc_scene.proofs.Reports.{caused}
use Rattle.pfc_scene.proofs.scene.Scene.end.Goals as goal

pub put_all-requires-clause-lent : goal.put_all-requires-clause-lent
put_all-requires-clause-lent g c κs within = subst (IsLentBy (depot_of g.P.Depot.out g.P.Depot.lent g.P.Depot.faults c.args.depot.now)) (sym c.parts-clients.ensures.backings) c.requires.lent

pub returns-in-Ok-clause-accounted : goal.returns-in-Ok-clause-accounted
returns-in-Ok-clause-accounted g c lines f asked rose =
    let twice : reverse c.reverse.new.self.items ≡ c.args.self.clients = ap reverse c.reverse.ensures.items ∙ reverse-reverse c.parts-clients.result.0.items ∙ c.parts-clients.ensures.clients in
    let rows : rows_of g.O.Origin.number g.O.Origin.calls g.O.Origin.faults c.end_clients.new.links.items ≡ map row_of c.args.self.clients =
    c.end_clients.ensures.links ∙ ap (λ l. rows_of g.O.Origin.number g.O.Origin.calls g.O.Origin.faults l ++ map row_of (reverse c.reverse.new.self.items)) c.requires.links ∙ ap (map row_of) twice in
    let told : c.end_clients.new.told.items ≡ map told_of c.args.self.clients =
    c.end_clients.ensures.told ∙ ap (λ (l : List Told). l ++ map told_of (reverse c.reverse.new.self.items)) c.requires.told ∙ ap (map told_of) twice in
    let done = subst (λ (cs : List ClientView). (j : ℕ) (d : ClientView) → j < length cs → IsDone g.W.World.told g.W.World.files (slice_index_or cs j d).book (slice_index_or cs j d).line (slice_index_or cs j d).stage)
    (c.deref.ensures.value ∙ c.parts-clients.ensures.clients) (c.if-not-done.ensures refl) in
    let sections = subst (AreSections g.W.World.told g.W.World.files c.in-Ok.logs.items) c.parts-clients.ensures.cores c.in-Ok.ensures in
    let paid : RoseBy f (all_charges c.args.self.cores) (g.P.Depot.faults c.put_all.new.depot) =
    c.put_all.ensures.paid c.args.self.cores (subst (AreBackings c.args.self.cores) (sym c.parts-clients.ensures.backings) c.parts-clients.ensures.scene.backed) f
    (subst (λ (l : List BackingView). RoseBy f (settled c.args.self.cores l) (g.P.Depot.faults c.args.depot.now)) (sym c.parts-clients.ensures.backings) rose) in
    let all = caused g.W.World.told g.W.World.files c.args.self.block_size c.args.self.capacity (λ w. beside w c.args.self) lines c.args.self.clients c.args.self.cores c.args.self.backings c.args.self.writers c.args.self.jobs c.in-Ok.logs.items f
    (g.P.Depot.faults c.put_all.new.depot) c.parts-clients.ensures.scene.cast c.parts-clients.ensures.scene.queued done asked sections paid in
    let report : c.new.result ≡ record { clients = map told_of c.args.self.clients; logs = c.in-Ok.logs.items } = c.new.ensures ∙ ap (λ (l : List Told). record { clients = l; logs = c.in-Ok.logs.items }) told in
    subst (λ (r : Rows). IsAccounted g.W.World.told g.W.World.files c.args.self.block_size c.args.self.capacity lines nothing_spent (spent_by r) f (g.P.Depot.faults c.put_all.new.depot) c.new.result) (sym rows)
    (subst (IsAccounted g.W.World.told g.W.World.files c.args.self.block_size c.args.self.capacity lines nothing_spent (spent_by (map row_of c.args.self.clients)) f (g.P.Depot.faults c.put_all.new.depot)) (sym report) all)

pub returns-in-Err-clause-numbers : goal.returns-in-Err-clause-numbers
returns-in-Err-clause-numbers g c =
    let twice : reverse c.reverse.new.self.items ≡ c.args.self.clients = ap reverse c.reverse.ensures.items ∙ reverse-reverse c.parts-clients.result.0.items ∙ c.parts-clients.ensures.clients in
    c.end_clients.ensures.numbers ∙ ap (λ l. map g.O.Origin.number l ++ map number_of (reverse c.reverse.new.self.items)) c.requires.links ∙ ap (map number_of) twice

pub returns-then-not-done-clause-numbers : goal.returns-then-not-done-clause-numbers
returns-then-not-done-clause-numbers g c =
    let twice : reverse c.reverse.new.self.items ≡ c.args.self.clients = ap reverse c.reverse.ensures.items ∙ reverse-reverse c.parts-clients.result.0.items ∙ c.parts-clients.ensures.clients in
    c.end_clients.ensures.numbers ∙ ap (λ l. map g.O.Origin.number l ++ map number_of (reverse c.reverse.new.self.items)) c.requires.links ∙ ap (map number_of) twice

pub returns-in-Ok-clause-numbers : goal.returns-in-Ok-clause-numbers
returns-in-Ok-clause-numbers g c =
    let twice : reverse c.reverse.new.self.items ≡ c.args.self.clients = ap reverse c.reverse.ensures.items ∙ reverse-reverse c.parts-clients.result.0.items ∙ c.parts-clients.ensures.clients in
    c.end_clients.ensures.numbers ∙ ap (λ l. map g.O.Origin.number l ++ map number_of (reverse c.reverse.new.self.items)) c.requires.links ∙ ap (map number_of) twice

pub all_open-opened-requires-after_bounds : goal.all_open-opened-requires-after_bounds
all_open-opened-requires-after_bounds g c κs within =
    ap length (c.deref-3.ensures.value ∙ c.parts-clients.ensures.backings) ∙ c.parts-clients.ensures.scene.backed.long ∙ sym (ap length (c.deref-2.ensures.value ∙ c.parts-clients.ensures.cores))

pub end_clients-requires-clause-link_room : goal.end_clients-requires-clause-link_room
end_clients-requires-clause-link_room g c κs within =
    let long = ap length c.reverse.ensures.items ∙ length-reverse c.parts-clients.result.0.items ∙ ap length c.parts-clients.ensures.clients in
    let none = ap length c.requires.links in
    omega (arith, long, none, c.requires.link_room)

pub end_clients-requires-clause-told_room : goal.end_clients-requires-clause-told_room
end_clients-requires-clause-told_room g c κs within =
    let long = ap length c.reverse.ensures.items ∙ length-reverse c.parts-clients.result.0.items ∙ ap length c.parts-clients.ensures.clients in
    let none = ap length c.requires.told in
    omega (arith, long, none, c.requires.told_room)

pub returns-then-not-done-clause-mains : goal.returns-then-not-done-clause-mains
returns-then-not-done-clause-mains g c tells =
    subst (λ (l : List BackingView). PutsFrom 0 l (g.P.Depot.home_main c.args.depot.now) (g.P.Depot.home_main c.put_all.new.depot)) c.parts-clients.ensures.backings (c.put_all.ensures.mains tells)

pub returns-in-Ok-clause-mains : goal.returns-in-Ok-clause-mains
returns-in-Ok-clause-mains g c tells =
    subst (λ (l : List BackingView). PutsFrom 0 l (g.P.Depot.home_main c.args.depot.now) (g.P.Depot.home_main c.put_all.new.depot)) c.parts-clients.ensures.backings (c.put_all.ensures.mains tells)

pub returns-in-Err-clause-mains : goal.returns-in-Err-clause-mains
returns-in-Err-clause-mains g c tells =
    subst (λ (l : List BackingView). PutsFrom 0 l (g.P.Depot.home_main c.args.depot.now) (g.P.Depot.home_main c.put_all.new.depot)) c.parts-clients.ensures.backings (c.put_all.ensures.mains tells)

pub returns-in-Ok-clause-settles : goal.returns-in-Ok-clause-settles
returns-in-Ok-clause-settles g c =
    let sections = subst (AreSections g.W.World.told g.W.World.files c.in-Ok.logs.items) c.parts-clients.ensures.cores c.in-Ok.ensures in
    let opened = subst (λ (cores : List CoreView). AreOpen cores c.args.self.backings) (c.deref-2.ensures.value ∙ c.parts-clients.ensures.cores)
    (subst (AreOpen c.deref-2.result.now) (c.deref-3.ensures.value ∙ c.parts-clients.ensures.backings) (c.if-not-opened.ensures refl)) in
    subst (λ (logs : List Section). Settles g.W.World.told g.W.World.files c.args.self logs) (sym (ap (λ (r : ReportView). r.logs) c.new.ensures)) (record { scene = c.parts-clients.ensures.scene; sections = sections; opened = opened })
