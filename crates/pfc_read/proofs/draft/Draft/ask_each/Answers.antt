use Rattle.std.proofs.Common.{◌≡◌, ◌+◌, ◌<◌, ◌∙◌, ℕ, List, map, take, get_or, arith, ap, sym, subst}
use Rattle.std.specs.Prelude.{sum_by, length}
use Rattle.std.proofs.lemmas.List.{take_more, get_or-map, length-map}
use Rattle.std.proofs.lemmas.List.Sums.{sum_by_push}
use Rattle.pfc_base.specs.Block.{IsPartOf}
use Rattle.pfc_base.specs.declared.block.Part.{Part}
use Rattle.pfc_core.specs.View.{CoreView}
use Rattle.pfc_span.specs.Tiling.{part_len}
use Rattle.pfc_read.specs.Draft.{Asks}
use Rattle.pfc_read.proofs.Asked.{asked-more}
use Rattle.pfc_read.proofs.draft.Draft.ask_each.Goals as goal

abbrev none : Part
none = record { block = 0; from = 0; len = 0 }

pub ask-requires-clause-part : goal.ask-requires-clause-part
ask-requires-clause-part g c κs within =
    let parts = c.args.parts.now in
    let i = c.loop-part.part-index in
    let home = c.loop-part.invariant.asked.unchanged in
    let long : i < length (map (λ x. x.1) parts) = rw length-map c.loop-part-test.true in
    let at : get_or (map (λ x. x.1) parts) i none ≡ (get_or parts i (0, none)).1 = get_or-map (λ x. x.1) parts i (0, none) none c.loop-part-test.true in
    let here : IsPartOf c.args.core.now.size c.args.core.now.block_size (get_or parts i (0, none)).1 = subst (IsPartOf c.args.core.now.size c.args.core.now.block_size) at (c.requires.inside i none long) in
    let P : CoreView → Type 0 = λ v. IsPartOf v.size v.block_size (get_or parts i (0, none)).1 in
    subst P (sym home) here

pub loop-part-preserved : goal.loop-part-preserved
loop-part-preserved g c =
    let parts = c.args.parts.now in
    let i = c.loop-part.part-index in
    let was = c.loop-part.invariant in
    let long : i < length (map (λ x. x.1) parts) = rw length-map c.loop-part-test.true in
    let at : get_or (map (λ x. x.1) parts) i none ≡ (get_or parts i (0, none)).1 = get_or-map (λ x. x.1) parts i (0, none) none c.loop-part-test.true in
    let ok = c.in-Ok.ensures.ok in
    let P : Part → ℕ → Type 0 = λ p m. Asks c.loop-part.core c.args.n p m c.loop-part.self c.ask.new.self c.ask.new.core in
    let all : List Part = map (λ x. x.1) parts in
    record {
      asked = asked-more c.args.core.now c.args.n all i none c.loop-part.self c.ask.new.self c.loop-part.core c.ask.new.core long c.requires.inside was.asked
          (subst (λ p. P p (sum_by part_len (take i all))) (sym at) (subst (P (get_or parts i (0, none)).1) was.at ok));
      at = (λ j. was.at j + (sym at j).len) ∙ sym (sum_by_push part_len (take i all) (get_or all i none)) ∙ ap (sum_by part_len) (sym (take_more all i none long));
      ticket_room = omega (arith, ok.room.tickets, was.ticket_room);
      pending_room = omega (arith, ok.room.pendings, was.pending_room);
      disk_room = omega (arith, ok.room.disks, was.disk_room);
      owed_room = omega (arith, ok.room.owed, was.owed_room);
    }
