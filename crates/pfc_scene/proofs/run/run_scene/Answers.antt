use Rattle.std.proofs.Common.{◌≡◌, ◌∙◌, ◌≤◌, ℕ, length, map, reverse, rules, arith, ap, subst, sym}
use Rattle.std.specs.Prelude.{IsTrue, slice_index_or, IfOk, vec_capacity}
use Rattle.pfc_report.specs.Schedule.{asked_clients}
use Rattle.pfc_report.specs.Spent.{rows_of, spent_by, nothing_spent}
use Rattle.pfc_report.specs.Caused.{IsAccounted}
use Rattle.pfc_world.specs.Counts.{RoseBy}
use Rattle.pfc_writer.specs.Queue.{QueueView}
use Rattle.pfc_actor.specs.Backings.{depot_of}
use Rattle.pfc_scene.specs.Scenes.{SceneView, IsLentBy, settled, who, number_of, Persists}
use Rattle.pfc_scene.specs.Ends.{all_asked}
use Rattle.pfc_scene.proofs.Following.{persists_on, same_asked}
use Rattle.pfc_scene.proofs.Lasting.{caused_all}
use Rattle.pfc_scene.proofs.Playing.{numbers_from_who}
use Rattle.pfc_scene.proofs.Homes.{none_lent, none_paid}
use Rattle.pfc_scene.proofs.Beginning.{numbers_of_rows, rows_of_books, in_order, fresh_in_order, are_unique, asked_rise, asked_from, as_long}
use Rattle.pfc_scene.proofs.run.run_scene.Goals as goal

pub returns-in_default-clause-numbers : goal.returns-in_default-clause-numbers
returns-in_default-clause-numbers g c = numbers_of_rows g.O.Origin.number g.O.Origin.calls g.O.Origin.faults c.args.links.items (asked_clients c.args.plan.now) c.requires.fresh

pub returns-in_default-with_capacity-clause-numbers : goal.returns-in_default-with_capacity-clause-numbers
returns-in_default-with_capacity-clause-numbers g c = numbers_of_rows g.O.Origin.number g.O.Origin.calls g.O.Origin.faults c.args.links.items (asked_clients c.args.plan.now) c.requires.fresh

pub returns-in_default-with_capacity-2-clause-numbers : goal.returns-in_default-with_capacity-2-clause-numbers
returns-in_default-with_capacity-2-clause-numbers g c = numbers_of_rows g.O.Origin.number g.O.Origin.calls g.O.Origin.faults c.args.links.items (asked_clients c.args.plan.now) c.requires.fresh

pub returns-in_default-make_writers-clause-numbers : goal.returns-in_default-make_writers-clause-numbers
returns-in_default-make_writers-clause-numbers g c = numbers_of_rows g.O.Origin.number g.O.Origin.calls g.O.Origin.faults c.args.links.items (asked_clients c.args.plan.now) c.requires.fresh

pub returns-in_default-new-clause-numbers : goal.returns-in_default-new-clause-numbers
returns-in_default-new-clause-numbers g c = numbers_of_rows g.O.Origin.number g.O.Origin.calls g.O.Origin.faults c.args.links.items (asked_clients c.args.plan.now) c.requires.fresh

pub make_clients-requires-clause-rows : goal.make_clients-requires-clause-rows
make_clients-requires-clause-rows g c κs within = rows_of_books _ c.in-Ok.books.items (asked_clients c.args.plan.now) _ c.in-Ok.ensures.numbers c.requires.fresh

pub new-scene-requires-clause-fresh : goal.new-scene-requires-clause-fresh
new-scene-requires-clause-fresh g c κs within j d low =
    let fresh = fresh_in_order c.make_clients.new.clients.items c.reverse.new.self.items c.make_clients.ensures.fresh c.reverse.ensures.items in
    ((slice_index_or c.reverse.new.self.items j d).book.number, fresh j d low)

pub new-scene-requires-clause-unique : goal.new-scene-requires-clause-unique
new-scene-requires-clause-unique g c κs within =
    are_unique c.reverse.new.self.items (asked_clients c.args.plan.now)
    (in_order c.make_clients.new.clients.items c.reverse.new.self.items (asked_clients c.args.plan.now) (c.make_clients.ensures.numbers ∙ ap reverse c.in-Ok.ensures.numbers) c.reverse.ensures.items)
    (asked_rise c.args.plan.now)

pub play-requires-clause-lent : goal.play-requires-clause-lent
play-requires-clause-lent g c κs within =
    let d = depot_of g.P.Depot.out g.P.Depot.lent g.P.Depot.faults c.args.depot.now in
    subst (λ (v : SceneView). IsLentBy d v.backings) (sym c.new-scene.ensures) (none_lent d c.requires.home)

pub end-requires-clause-link_room : goal.end-requires-clause-link_room
end-requires-clause-link_room g c κs within =
    let ns = asked_clients c.args.plan.now in
    let clients = as_long number_of c.reverse.new.self.items ns (in_order c.make_clients.new.clients.items c.reverse.new.self.items (asked_clients c.args.plan.now) (c.make_clients.ensures.numbers ∙ ap reverse c.in-Ok.ensures.numbers) c.reverse.ensures.items) in
    let begun = ap (λ (v : SceneView). length v.clients) c.new-scene.ensures in
    let links = as_long g.O.Origin.number c.args.links.items ns (numbers_of_rows g.O.Origin.number g.O.Origin.calls g.O.Origin.faults c.args.links.items ns c.requires.fresh) in
    let room : length c.args.links.items ≤ vec_capacity c.args.links = search rules in
    omega (arith, clients, begun, links, room, c.make_clients.ensures.capacity, c.play.ensures.length, c.drain.ensures.plays.clients_are)

pub end-requires-clause-told_room : goal.end-requires-clause-told_room
end-requires-clause-told_room g c κs within =
    let ns = asked_clients c.args.plan.now in
    let clients = as_long number_of c.reverse.new.self.items ns (in_order c.make_clients.new.clients.items c.reverse.new.self.items (asked_clients c.args.plan.now) (c.make_clients.ensures.numbers ∙ ap reverse c.in-Ok.ensures.numbers) c.reverse.ensures.items) in
    let begun = ap (λ (v : SceneView). length v.clients) c.new-scene.ensures in
    let books = as_long _ c.in-Ok.books.items ns c.in-Ok.ensures.numbers in
    let room : length c.in-Ok.books.items ≤ vec_capacity c.in-Ok-with_capacity.told = search rules in
    omega (arith, clients, begun, books, room, c.play.ensures.length, c.drain.ensures.plays.clients_are)

pub end-links-requires-clause-link_room : goal.end-links-requires-clause-link_room
end-links-requires-clause-link_room g c κs within =
    let ns = asked_clients c.args.plan.now in
    let clients = as_long number_of c.reverse.new.self.items ns (in_order c.make_clients.new.clients.items c.reverse.new.self.items (asked_clients c.args.plan.now) (c.make_clients.ensures.numbers ∙ ap reverse c.in-Ok.ensures.numbers) c.reverse.ensures.items) in
    let begun = ap (λ (v : SceneView). length v.clients) c.new-scene.ensures in
    let links = as_long g.O.Origin.number c.args.links.items ns (numbers_of_rows g.O.Origin.number g.O.Origin.calls g.O.Origin.faults c.args.links.items ns c.requires.fresh) in
    let room : length c.args.links.items ≤ vec_capacity c.args.links = search rules in
    omega (arith, clients, begun, links, room, c.make_clients.ensures.capacity, c.play.ensures.length)

pub end-links-requires-clause-told_room : goal.end-links-requires-clause-told_room
end-links-requires-clause-told_room g c κs within =
    let ns = asked_clients c.args.plan.now in
    let clients = as_long number_of c.reverse.new.self.items ns (in_order c.make_clients.new.clients.items c.reverse.new.self.items (asked_clients c.args.plan.now) (c.make_clients.ensures.numbers ∙ ap reverse c.in-Ok.ensures.numbers) c.reverse.ensures.items) in
    let begun = ap (λ (v : SceneView). length v.clients) c.new-scene.ensures in
    let books = as_long _ c.in-Ok.books.items ns c.in-Ok.ensures.numbers in
    let room : length c.in-Ok.books.items ≤ vec_capacity c.in-Ok-with_capacity.told = search rules in
    omega (arith, clients, begun, books, room, c.play.ensures.length)

pub returns-in-Ok-play-clause-numbers : goal.returns-in-Ok-play-clause-numbers
returns-in-Ok-play-clause-numbers g c =
    c.end.ensures.numbers ∙ numbers_from_who _ _ c.drain.ensures.plays.same ∙ c.play.ensures.numbers ∙ ap (λ (v : SceneView). map number_of v.clients) c.new-scene.ensures
    ∙ in_order c.make_clients.new.clients.items c.reverse.new.self.items (asked_clients c.args.plan.now) (c.make_clients.ensures.numbers ∙ ap reverse c.in-Ok.ensures.numbers) c.reverse.ensures.items

pub returns-in-Ok-play-clause-caused : goal.returns-in-Ok-play-clause-caused
returns-in-Ok-play-clause-caused g c =
    let ns = asked_clients c.args.plan.now in
    let num = in_order c.make_clients.new.clients.items c.reverse.new.self.items (asked_clients c.args.plan.now) (c.make_clients.ensures.numbers ∙ ap reverse c.in-Ok.ensures.numbers) c.reverse.ensures.items in
    let fresh = fresh_in_order c.make_clients.new.clients.items c.reverse.new.self.items c.make_clients.ensures.fresh c.reverse.ensures.items in
    let asked = c.drain.ensures.plays.same ∙ c.in-Ok-play.ensures.asked ∙ ap (λ (v : SceneView). map (all_asked c.args.plan.now) (map who v.clients)) c.new-scene.ensures ∙ asked_from c.args.plan.now c.reverse.new.self.items ns fresh num in
    let size : c.drain.new.self.block_size ≡ c.args.settings.block_size = c.drain.ensures.plays.block_size ∙ c.play.ensures.block_size ∙ ap (λ (v : SceneView). v.block_size) c.new-scene.ensures in
    let room : c.drain.new.self.capacity ≡ c.args.settings.capacity = c.drain.ensures.plays.capacity ∙ c.play.ensures.capacity ∙ ap (λ (v : SceneView). v.capacity) c.new-scene.ensures ∙ ap (λ (q : QueueView). q.capacity) c.in-Ok-new.ensures in
    let f = g.P.Depot.faults c.args.depot.now in
    let start : RoseBy f (settled c.new-scene.result.cores c.new-scene.result.backings) f = subst (λ (v : SceneView). RoseBy f (settled v.cores v.backings) f) (sym c.new-scene.ensures) (none_paid f) in
    let paid = c.drain.ensures.plays.paid f (c.play.ensures.paid f start) in
    let report : ℕ → ℕ → Type 0 = λ k n. IfOk c.end.result.1 (IsAccounted g.W.World.told g.W.World.files k n c.args.plan.now nothing_spent (spent_by (rows_of g.O.Origin.number g.O.Origin.calls g.O.Origin.faults c.end.result.0.items)) f (g.P.Depot.faults c.end.new.depot)) in
    let accounted = subst (λ (k : ℕ). report k c.args.settings.capacity) size (subst (report c.drain.new.self.block_size) room (c.end.ensures.accounted c.args.plan.now f asked paid)) in
    let persists : IsTrue g.W.World.told → IsTrue g.P.Data.DataDev.told → Persists g.W.World.files c.new-scene.result (g.P.Depot.home_main c.args.depot.now) c.drain.new.self (g.P.Depot.home_main c.drain.new.depot) = λ told tells. persists_on g.W.World.files c.new-scene.result c.play.new.scene c.drain.new.self (g.P.Depot.home_main c.args.depot.now) (g.P.Depot.home_main c.play.new.depot) (g.P.Depot.home_main c.drain.new.depot)
    (same_asked _ _ c.drain.ensures.plays.same) (c.in-Ok-play.ensures.persists told tells) (c.drain.ensures.persists told tells) in
    caused_all g.W.World.told g.P.Data.DataDev.told g.W.World.files c.args.settings.block_size c.args.settings.capacity c.args.plan.now nothing_spent (spent_by (rows_of g.O.Origin.number g.O.Origin.calls g.O.Origin.faults c.end.result.0.items)) f (g.P.Depot.faults c.end.new.depot)
    c.new-scene.result c.drain.new.self (g.P.Depot.home_main c.args.depot.now) (g.P.Depot.home_main c.drain.new.depot) (g.P.Depot.home_main c.end.new.depot) c.end.result.1 size (ap (λ (v : SceneView). v.cores) c.new-scene.ensures) asked persists
    c.end.ensures.mains c.end.ensures.settles accounted

pub returns-in-Err-clause-numbers : goal.returns-in-Err-clause-numbers
returns-in-Err-clause-numbers g c =
    c.end-links.ensures.numbers ∙ c.play.ensures.numbers ∙ ap (λ (v : SceneView). map number_of v.clients) c.new-scene.ensures
    ∙ in_order c.make_clients.new.clients.items c.reverse.new.self.items (asked_clients c.args.plan.now) (c.make_clients.ensures.numbers ∙ ap reverse c.in-Ok.ensures.numbers) c.reverse.ensures.items
