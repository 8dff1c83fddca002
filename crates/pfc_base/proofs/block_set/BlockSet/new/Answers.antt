use Rattle.std.proofs.Common.{◌≡◌, ◌+◌, ◌/◌, ◌∙◌, ap, arith, replicate, false}
use Rattle.std.proofs.lemmas.List.{length-replicate}
use Rattle.pfc_base.proofs.Sets.{words-none, view-of_words, fits-none}
use Rattle.pfc_base.proofs.block_set.BlockSet.new.Goals as goal

pub returns : goal.returns
returns c =
    let count = c.args.count in
    let e : c.div_ceil.result ≡ (count + 63) / 64 = omega (arith, c.div_ceil.ensures) in
    let made : c.in_ok-words.words.items ≡ replicate ((count + 63) / 64) 0 = c.in_ok-words.ensures.items_if_clones_equal (λ y h. h) ∙ ap (λ n. replicate n 0) e in
    rw made (view-of_words (replicate ((count + 63) / 64) 0) count (replicate count false) c.ranges.count.fits (fits-none ((count + 63) / 64)) (length-replicate count false) (words-none count)).1
