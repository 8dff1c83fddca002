use Rattle.std.proofs.Common.{arith}
use Rattle.pfc_base.proofs.Places.{Shows, shows-set, shows-unset, none-in_word, least-in_word}
use Rattle.pfc_base.proofs.words.first_in_word.Goals as goal
use Rattle.pfc_base.proofs.words.first_in_word.Goals.{then-bit, else-bit}

pub returns-then-rest-eq0 : goal.returns-then-rest-eq0
returns-then-rest-eq0 c =
    let word = c.args.word in
    let is : Shows word c.if-bit.shown c.args.bit = elim c.if-bit.branch [
      | then-bit w ↦ rw (w.shown-is, w.if-bit.true) (shows-set word c.ranges.word.fits)
      | else-bit w ↦ rw (w.shown-is, w.if-bit.false) (shows-unset word c.ranges.word.fits)
    ] in
    none-in_word word c.if-bit.shown c.args.from c.args.bit c.requires is c.if-rest-eq0.true

pub returns-else-rest-eq0 : goal.returns-else-rest-eq0
returns-else-rest-eq0 c =
    let word = c.args.word in
    let is : Shows word c.if-bit.shown c.args.bit = elim c.if-bit.branch [
      | then-bit w ↦ rw (w.shown-is, w.if-bit.true) (shows-set word c.ranges.word.fits)
      | else-bit w ↦ rw (w.shown-is, w.if-bit.false) (shows-unset word c.ranges.word.fits)
    ] in
    least-in_word word c.if-bit.shown c.args.from c.args.bit c.requires is (omega (arith, c.if-rest-eq0.false))
