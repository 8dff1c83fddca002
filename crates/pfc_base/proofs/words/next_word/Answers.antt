use Rattle.std.proofs.Common.{◌≡◌, ℕ, ◌==◌, ◌-◌, ◌+◌, Bool, List, length, slice_index, drop, take, ◌∙◌, arith, take_all, length-drop}
use Rattle.std.specs.List.{prefix_len}
use Rattle.pfc_base.proofs.Places.{word_without, word_without-only, skipped, skipped-le, skipped-stops, none-in_skipped}
use Rattle.pfc_base.proofs.words.next_word.Goals as goal
use Rattle.pfc_base.proofs.words.next_word.Goals.{then-bit, else-bit}

-- what the call counted
count-is : (words : List ℕ) (at other n : ℕ) (bit : Bool) → other ≡ word_without bit → n ≡ prefix_len (λ w. w == other) (take (length words - at) (drop at words)) → n ≡ skipped words at bit
count-is words at other n bit e h = h ∙ (λ i. prefix_len (λ w. w == e i) (take_all (length words - at) (drop at words) (omega (arith, length-drop at words)) i))

pub overflow_add-result : goal.overflow_add-result
overflow_add-result c =
    let other : c.if-bit.other ≡ word_without c.args.bit = elim c.if-bit.branch [
      | then-bit w ↦ rw (w.other-is, w.if-bit.true)
      | else-bit w ↦ rw (w.other-is, w.if-bit.false)
    ] in
    let n = count-is c.args.words.now c.args.at c.if-bit.other c.equal_words.result c.args.bit other c.equal_words.ensures in
    record { fits = omega (arith, n, skipped-le c.args.words.now c.args.at c.args.bit c.requires) }

pub returns : goal.returns
returns c =
    let words = c.args.words.now in
    let at = c.args.at in
    let bit = c.args.bit in
    let other : c.if-bit.other ≡ word_without bit = elim c.if-bit.branch [
      | then-bit w ↦ rw (w.other-is, w.if-bit.true)
      | else-bit w ↦ rw (w.other-is, w.if-bit.false)
    ] in
    let n = count-is words at c.if-bit.other c.equal_words.result bit other c.equal_words.ensures in
    rw n (record {
      low = omega arith;
      high = skipped-le words at bit c.requires;
      before = none-in_skipped words at bit;
      has = λ h none. skipped-stops words at bit h (word_without-only bit (slice_index words (at + skipped words at bit)) (c.type_inv.words (at + skipped words at bit)).fits none);
    })
