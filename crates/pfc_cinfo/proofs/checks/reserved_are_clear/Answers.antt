use Rattle.std.proofs.Common.{sym, ◌∙◌, ◌≤◌, length, arith}
use Rattle.pfc_cinfo.proofs.Reserved.{are_clear-step, are_clear-first, are_clear-second, are_clear-none, room-step}
use Rattle.pfc_cinfo.proofs.checks.reserved_are_clear.Goals as goal
use Rattle.pfc_cinfo.proofs.checks.reserved_are_clear.Goals.{then-four_from-ne0-via-then-four_from-ne0, then-four_from-ne0-via-else-four_from-ne0+then-eight_from-ne0}

pub returns-then-four_from-ne0 : goal.returns-then-four_from-ne0
returns-then-four_from-ne0 c =
    elim c.then-four_from-ne0.branch [
      | then-four_from-ne0-via-then-four_from-ne0 w ↦
          sym (are_clear-first c.args.count c.loop.counter c.loop.rest.now c.loop-test.true (λ e. w.if-four_from-ne0.true (c.four_from.ensures ∙ e))) ∙ c.loop.invariant.clear
      | then-four_from-ne0-via-else-four_from-ne0+then-eight_from-ne0 w ↦
          sym (are_clear-second c.args.count c.loop.counter c.loop.rest.now c.loop-test.true (λ e. w.if-eight_from-ne0.true (w.eight_from.ensures ∙ e))) ∙ c.loop.invariant.clear
    ]

pub loop-preserved : goal.loop-preserved
loop-preserved c =
    let bytes = c.loop.rest.now in
    let room : 64 ≤ length bytes = omega (arith, c.loop-test.true, c.loop.invariant.room) in
    record {
      clear = are_clear-step c.args.count c.loop.counter bytes c.loop-test.true (sym c.four_from.ensures ∙ c.if-four_from-ne0.false) (sym c.eight_from.ensures ∙ c.if-eight_from-ne0.false) ∙ c.loop.invariant.clear;
      room = omega (arith, room-step c.args.count c.loop.counter bytes c.loop-test.true room, c.loop.invariant.room);
    }

pub returns : goal.returns
returns c = sym (are_clear-none c.args.count c.loop.counter c.loop.rest.now c.loop-test.false) ∙ c.loop.invariant.clear
