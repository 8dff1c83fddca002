use Rattle.std.proofs.Common.{◌≡◌, ◌+◌, ◌-◌, ◌/◌, ◌%◌, ◌^◌, ◌<◌, ◌++◌, ℕ, [], ◌∷◌, min, refl, sym, ap, ◌∙◌, subst, arith, append_assoc}
use Rattle.std.proofs.lemmas.List.{append-nil, map-append}
use Rattle.std.proofs.lemmas.Nat.{div_below, mod_below}
use Rattle.pfc_base.specs.declared.block.Part.{Part}
use Rattle.pfc_span.proofs.Cuts.{IsCut, TilesFirst, tiles-none, tiles-more, tiles-all}
use Rattle.pfc_span.proofs.Placed.{beside}
use Rattle.pfc_span.proofs.tile.push_parts.Goals as goal
use Rattle.pfc_span.proofs.tile.push_parts.Goals.{then-left-gt0+in_ok-reserve, else-left-gt0}

pub loop-left-init : goal.loop-left-init
loop-left-init c =
    let kept : c.if-left-gt0.placed.items ≡ c.args.placed.now.items = elim c.if-left-gt0.branch [
      | then-left-gt0+in_ok-reserve w ↦ rw w.placed-is w.reserve.ensures.items
      | else-left-gt0 w ↦ rw w.placed-is
    ] in
    record {
      placed = ([], kept ∙ sym (append-nil c.args.placed.now.items), tiles-none c.args.size c.args.k c.args.piece.off (c.args.piece.off - c.args.piece.off) (omega arith));
      start = omega arith;
      whole = omega (arith, c.min-left.ensures, c.saturating_sub.ensures);
    }

pub loop-left-preserved : goal.loop-left-preserved
loop-left-preserved c =
    let off = c.args.piece.off in
    let k = c.args.k in
    let from = c.loop-left.from in
    let len = c.min-len.result in
    let old = c.args.placed.now.items in
    let before = c.loop-left.invariant.placed in
    let part : Part = record { block = from / k; from = from % k; len = len } in
    let start : ℕ = from % k in
    let in_block : start < k = mod_below from k (omega (arith, c.requires.least)) in
    let place : off + (from - off) ≡ from = omega (arith, c.loop-left.invariant.start) in
    let some : 0 < len = omega (arith, c.min-len.ensures, in_block, c.loop-left-test.true) in
    let cut : IsCut c.args.size k from len part = record {
      some = some;
      block = refl;
      start = refl;
      same = refl;
      in_block = omega (arith, c.min-len.ensures, in_block);
      in_file = omega (arith, c.min-len.ensures, c.loop-left.invariant.start, c.loop-left.invariant.whole, c.loop-left-test.true);
    } in
    let P : ℕ → Type 0 = λ n. IsCut c.args.size k n len part in
    let tiled = tiles-more c.args.size k off (from - off) len before.0 part (omega (arith, c.requires.least)) before.2 (subst P (sym place) cut) in
    let done : from - off + len ≡ from + len - off = omega (arith, c.loop-left.invariant.start) in
    let Q : ℕ → Type 0 = λ n. TilesFirst c.args.size k off n (before.0 ++ part ∷ []) in
    record {
      placed = (
        before.0 ++ part ∷ [],
        c.in_ok-push.ensures.items ∙ ap (λ b. b ++ (c.args.place, part) ∷ []) before.1 ∙ append_assoc old (beside c.args.place before.0) ((c.args.place, part) ∷ [])
            ∙ ap (λ b. old ++ b) (sym (map-append (λ p. (c.args.place, p)) before.0 (part ∷ []))),
        subst Q done tiled,
      );
      start = omega (arith, c.loop-left.invariant.start);
      whole = omega (arith, c.loop-left.invariant.start, c.loop-left.invariant.whole, c.min-len.ensures);
    }

pub overflow_cast-part : goal.overflow_cast-part
overflow_cast-part c =
    let from = c.loop-left.from in
    let below : from < 2 ^ 44 = omega (arith, c.requires.size, c.loop-left.invariant.start, c.loop-left.invariant.whole, c.loop-left-test.true) in
    record { fits = div_below from c.args.k (2 ^ 32) (omega (arith, c.requires.least)) (omega (arith, below, c.requires.least)) }

pub returns : goal.returns
returns c =
    let before = c.loop-left.invariant.placed in
    let done : c.loop-left.from - c.args.piece.off ≡ min c.args.piece.len (c.args.size - c.args.piece.off) = omega (arith, c.loop-left.invariant.whole, c.loop-left-test.false) in
    (before.0, before.1, tiles-all c.args.size c.args.k c.args.piece (c.loop-left.from - c.args.piece.off) before.0 done before.2)
