use Rattle.std.proofs.Common.{◌≡◌, ◌∙◌, List, Bool, sym, subst, arith}
use Rattle.std.specs.Cmp.Lexicographic.{same_text, other_text}
use Rattle.std.proofs.lemmas.Bool.{true_from_ne_false}
use Rattle.pfc_base.specs.BlockSet.{AreWords, members_of}
use Rattle.pfc_base.proofs.Sets.{words-of_view, same-from_set}
use Rattle.pfc_base.proofs.block_set.BlockSet.equals.Goals as goal

pub returns : goal.returns
returns c =
    let mine = words-of_view c.self.inside.words.items c.self.inside.bound c.args.self.now c.self.invariant c.self.view_is in
    let theirs = words-of_view c.other.inside.words.items c.other.inside.bound c.args.other.now c.other.invariant c.other.view_is in
    let a = c.self.inside.words.items in
    let b = c.other.inside.words.items in
    let bounds : c.self.inside.bound ≡ c.other.inside.bound = omega (arith, mine.0, theirs.0, c.requires) in (
      λ equal. let words = same_text a b (sym equal ∙ c.eq.ensures) in
          sym c.self.view_is ∙ (λ i. members_of (words i) (bounds i)) ∙ c.other.view_is,
      λ same. let P : List Bool → Type 0 = λ set. AreWords b set in
          let words = same-from_set a b c.args.self.now c.self.invariant.fits c.other.invariant.fits mine.1 (subst P (sym same) theirs.1) in
          true_from_ne_false c.eq.result (λ other. other_text a b (sym other ∙ c.eq.ensures) words),
    )
