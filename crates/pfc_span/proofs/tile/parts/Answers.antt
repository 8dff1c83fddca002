use Rattle.std.proofs.Common.{◌≡◌, ◌+◌, ◌++◌, arith, subst, sym, ap, ◌∙◌, ℕ, List, length, map, get_or}
use Rattle.std.proofs.lemmas.List.{map-append}
use Rattle.std.proofs.lemmas.Option.{slice_get-get_or}
use Rattle.pfc_base.specs.declared.block.Part.{Part}
use Rattle.pfc_base.specs.declared.block.Piece.{Piece}
use Rattle.pfc_span.proofs.Placed.{beside, below-more, each-from_below, TileBelow, parts-beside}
use Rattle.pfc_span.proofs.Spots.{InTurnBelow, turn-more, turn-all}
use Rattle.pfc_span.proofs.tile.parts.Goals as goal

pub loop-i-preserved : goal.loop-i-preserved
loop-i-preserved c =
    let pieces = c.args.pieces.now in
    let size = c.args.size in
    let k = c.args.k in
    let i = c.loop-i.i in
    let piece : Piece = get_or pieces i (record { off = 0; len = 0 }) in
    let here = slice_get-get_or pieces i (record { off = 0; len = 0 }) c.loop-i-test.true in
    let added = c.in_ok-push_parts.ensures in
    let placed = c.loop-i.placed.items in
    let parts : List Part = map (λ x. x.1) placed in
    let all : parts ++ added.0 ≡ map (λ x. x.1) (placed ++ beside i added.0) = sym (map-append (λ x. x.1) placed (beside i added.0) ∙ ap (λ ps. parts ++ ps) (parts-beside i added.0)) in
    record {
      each = rw added.1 (below-more size k pieces i placed piece added.0 here c.loop-i.invariant.each added.2);
      turn = rw added.1 (subst (InTurnBelow size k pieces (i + 1)) all (turn-more size k pieces i parts added.0 piece here c.loop-i.invariant.turn added.2));
    }

pub returns : goal.returns
returns c =
    let all : c.loop-i.i ≡ length c.args.pieces.now = omega arith in
    let P : ℕ → Type 0 = λ n. TileBelow c.args.size c.args.k c.args.pieces.now n c.loop-i.placed.items in
    let Q : ℕ → Type 0 = λ n. InTurnBelow c.args.size c.args.k c.args.pieces.now n (map (λ x. x.1) c.loop-i.placed.items) in
    record {
      each = each-from_below c.args.size c.args.k c.args.pieces.now c.loop-i.placed.items (subst P all c.loop-i.invariant.each);
      turn = turn-all c.args.size c.args.k c.args.pieces.now (map (λ x. x.1) c.loop-i.placed.items) (subst Q all c.loop-i.invariant.turn);
    }
