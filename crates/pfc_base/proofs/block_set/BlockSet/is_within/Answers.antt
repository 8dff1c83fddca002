use Rattle.std.proofs.Common.{◌≡◌, ◌∙◌, sym, ap, arith, length}
use Rattle.std.specs.List.{zip, list_all}
use Rattle.pfc_base.proofs.Sets.{words-of_view, within-of_words}
use Rattle.pfc_base.proofs.Within.{within-words, lacks_none}
use Rattle.pfc_base.proofs.block_set.BlockSet.is_within.Goals as goal

pub words_within-requires : goal.words_within-requires
words_within-requires c =
    let mine = words-of_view c.self.inside.words.items c.self.inside.bound c.args.self.now c.self.invariant c.self.view_is in
    let theirs = words-of_view c.other.inside.words.items c.other.inside.bound c.args.other.now c.other.invariant c.other.view_is in
    omega (arith, mine.0, theirs.0, mine.1.size, theirs.1.size, c.requires, ap length c.deref.ensures.value, ap length c.deref-2.ensures.value)

pub returns : goal.returns
returns c =
    let mine = words-of_view c.self.inside.words.items c.self.inside.bound c.args.self.now c.self.invariant c.self.view_is in
    let theirs = words-of_view c.other.inside.words.items c.other.inside.bound c.args.other.now c.other.invariant c.other.view_is in
    let a = c.self.inside.words.items in
    let b = c.other.inside.words.items in
    let long : length a ≡ length b = omega (arith, mine.0, theirs.0, mine.1.size, theirs.1.size, c.requires) in
    let words = within-words a b long c.self.invariant.fits c.other.invariant.fits in
    let members = within-of_words a b c.args.self.now c.args.other.now mine.1 theirs.1 in
    let is = c.words_within.ensures ∙ (λ i. list_all lacks_none (zip (c.deref.ensures.value i) (c.deref-2.ensures.value i))) in (
      λ yes. members.0 (words.0 (sym is ∙ yes)),
      λ within. is ∙ words.1 (members.1 within),
    )
