use Rattle.std.proofs.Common.{◌≡◌, ◌∙◌, ap, arith, length}
use Rattle.pfc_base.proofs.Sets.{words-of_view}
use Rattle.pfc_base.proofs.block_set.BlockSet.copy_from.Goals as goal

pub copy_from_slice-requires : goal.copy_from_slice-requires
copy_from_slice-requires c =
    let mine = words-of_view c.self.inside.words.items c.self.inside.bound c.args.self.now c.self.invariant c.self.view_is in
    let theirs = words-of_view c.other.inside.words.items c.other.inside.bound c.args.other.now c.other.invariant c.other.view_is in
    omega (arith, mine.0, theirs.0, mine.1.size, theirs.1.size, c.requires, ap length c.deref.ensures.value)

pub invariant_of-self : goal.invariant_of-self
invariant_of-self c =
    let mine = words-of_view c.self.inside.words.items c.self.inside.bound c.args.self.now c.self.invariant c.self.view_is in
    let theirs = words-of_view c.other.inside.words.items c.other.inside.bound c.args.other.now c.other.invariant c.other.view_is in
    let copied = c.copy_from_slice.ensures.items ∙ c.deref.ensures.value in
    let same : c.self.inside.bound ≡ c.other.inside.bound = omega (arith, mine.0, theirs.0, c.requires) in
    rw (copied, same) c.other.invariant

pub returns : goal.returns
returns c =
    let mine = words-of_view c.self.inside.words.items c.self.inside.bound c.args.self.now c.self.invariant c.self.view_is in
    let theirs = words-of_view c.other.inside.words.items c.other.inside.bound c.args.other.now c.other.invariant c.other.view_is in
    let copied = c.copy_from_slice.ensures.items ∙ c.deref.ensures.value in
    let same : c.self.inside.bound ≡ c.other.inside.bound = omega (arith, mine.0, theirs.0, c.requires) in
    rw (copied, same) c.other.view_is
