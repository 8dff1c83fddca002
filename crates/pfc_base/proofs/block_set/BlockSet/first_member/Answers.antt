use Rattle.std.proofs.Common.{◌≡◌, ◌==◌, Bool, true, false, refl}
use Rattle.pfc_base.specs.Words.{bit_of}
use Rattle.pfc_base.proofs.Sets.{words-of_view, first-of_words}
use Rattle.pfc_base.proofs.block_set.BlockSet.first_member.Goals as goal

says : (member : Bool) → (bit_of member == bit_of true) ≡ member
says true = refl
says false = refl

pub returns : goal.returns
returns c =
    let words = words-of_view c.self.inside.words.items c.self.inside.bound c.args.self.now c.self.invariant c.self.view_is in
    first-of_words true (λ member. member) says c.self.inside.words.items c.deref.result.now c.args.self.now c.self.inside.bound c.args.from c.from.result c.first_place.result c.below.result
    c.deref.ensures.value c.from.ensures words.1 words.0 c.below.ensures c.first_place.ensures
