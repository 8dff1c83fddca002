use Rattle.std.proofs.Common.{refl, length-drop, drop, ◌≡◌, ◌∙◌, sym, ap, arith, [], length, ◌<◌}
use Rattle.pfc_config.specs.Words.{words_of}
use Rattle.pfc_config.proofs.Worded.{nothing_left, words_of-comment, words_of-first}
use Rattle.pfc_config.proofs.words.next_word.Goals as goal
use Rattle.pfc_config.proofs.words.next_word.Goals.{then-len-eq0-via-then-len-eq0, then-len-eq0-via-else-len-eq0+then-text-eq-COMMENT}

empty : words_of [] ≡ []
unfolding words_of
empty = refl

pub returns-then-len-eq0 : goal.returns-then-len-eq0
returns-then-len-eq0 c =
    let text = c.trimmed-text.result.now in
    sym c.trimmed-text.ensures.words ∙ elim c.then-len-eq0.branch [
      | then-len-eq0-via-then-len-eq0 w ↦ ap words_of (nothing_left text c.trimmed-text.ensures.front (sym c.word_len-len.ensures.value ∙ w.if-len-eq0.true)) ∙ empty
      | then-len-eq0-via-else-len-eq0+then-text-eq-COMMENT w ↦ words_of-comment text (omega (arith, w.if-len-eq0.false, c.word_len-len.ensures.within)) w.if-text-eq-COMMENT.true
    ]

pub returns : goal.returns
returns c =
    let text = c.trimmed-text.result.now in
    let n = c.word_len-len.result in
    let some : 0 < n = omega (arith, c.if-len-eq0.false) in
    let first = rw (← c.word_len-len.ensures.value) at (words_of-first text (rw (← c.word_len-len.ensures.value) some) c.if-text-eq-COMMENT.false) in
    let shorter : length (drop n text) < length text = omega (arith, length-drop n text, some, c.word_len-len.ensures.within) in (
      rw (c.split_at.ensures.front, c.split_at.ensures.back) (sym c.trimmed-text.ensures.words ∙ first),
      rw c.split_at.ensures.back (omega (arith, shorter, c.trimmed-text.ensures.within)),
    )
