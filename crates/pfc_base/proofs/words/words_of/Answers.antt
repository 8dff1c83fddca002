use Rattle.std.proofs.Common.{◌≡◌, ◌<◌, ◌∙◌, ◌++◌, ◌^◌, ℕ, length, slice_index, sym, ap, arith}
use Rattle.std.proofs.lemmas.List.{take-append-drop, length-take-le}
use Rattle.std.proofs.lemmas.Bool.{eqb-true, eqb-false}
use Rattle.std.proofs.lemmas.Nat.{le_bytes_8}
use Rattle.pfc_base.specs.Words.{bytes_of}
use Rattle.pfc_base.proofs.Bytes.{bytes_of-push, fits-push, fits-take, fits-drop, words-of_part, words-of_whole}
use Rattle.pfc_base.proofs.words.words_of.Goals as goal
use Rattle.pfc_base.proofs.words.words_of.Goals.{then-not-is_empty+in_ok-push-2, else-not-is_empty}

pub loop-eight-preserved : goal.loop-eight-preserved
loop-eight-preserved c =
    let old = c.loop-eight.words.items in
    let rest = c.loop-eight.rest.now in
    let eight = c.in-Some.eight.now in
    let more = c.in-Some.more.now in
    let cut = c.in-Some.ensures.cases in
    let long : length eight ≡ 8 = ap length cut.0 ∙ length-take-le 8 rest (omega (arith, cut.2)) in
    let fits : (k : ℕ) → slice_index eight k < 256 = λ k. rw cut.0 (fits-take rest 8 c.loop-eight.invariant.small k) in
    let word = le_bytes_8 eight c.from_le_bytes.result long fits c.from_le_bytes.ensures in
    rw c.in_ok-push.ensures.items (record {
      read = bytes_of-push old c.from_le_bytes.result eight more word ∙ ap (λ b. bytes_of old ++ b) ((λ i. cut.0 i ++ cut.1 i) ∙ take-append-drop 8 rest) ∙ c.loop-eight.invariant.read;
      small = λ k. rw cut.1 (fits-drop rest 8 c.loop-eight.invariant.small k);
      fits = fits-push old c.from_le_bytes.result (2 ^ 64) (omega arith) c.loop-eight.invariant.fits c.from_le_bytes.type_inv;
    })

pub returns-clause-fits : goal.returns-clause-fits
returns-clause-fits c = elim c.if-not-is_empty.branch [
  | then-not-is_empty+in_ok-push-2 w ↦ rw (w.words-is, w.in_ok-push-2.ensures.items) (fits-push c.loop-eight.words.items w.last_word.result (2 ^ 64) (omega arith) c.loop-eight.invariant.fits w.last_word.type_inv)
  | else-not-is_empty w ↦ rw w.words-is c.loop-eight.invariant.fits
]

pub returns-clause-bytes : goal.returns-clause-bytes
returns-clause-bytes c =
    let old = c.loop-eight.words.items in
    let rest = c.loop-eight.rest.now in
    elim c.if-not-is_empty.branch [
      | then-not-is_empty+in_ok-push-2 w ↦
          let some = eqb-false (length rest) 0 (sym c.is_empty.ensures ∙ w.if-not-is_empty.true) in
          rw (w.words-is, w.in_ok-push-2.ensures.items)
          (words-of_part old rest c.args.bytes.now w.last_word.result c.loop-eight.invariant.read (omega (arith, some)) c.in_default.ensures.cases w.last_word.ensures)
      | else-not-is_empty w ↦
          let none = eqb-true (length rest) 0 (sym c.is_empty.ensures ∙ w.if-not-is_empty.false) in
          rw w.words-is (words-of_whole old rest c.args.bytes.now c.loop-eight.invariant.read none)
    ]
