use Rattle.std.proofs.Common.{◌≡◌, ◌==◌, ◌/◌, ◌%◌, ◌^◌, ap, ◌∙◌, arith, slice_index, bit_and}
use Rattle.std.proofs.lemmas.List.{get_or_default}
use Rattle.std.proofs.lemmas.Nat.Bits.{shr_and_one}
use Rattle.pfc_base.proofs.Bits.{bit_of-tested}
use Rattle.pfc_base.specs.BlockSet.{is_member}
use Rattle.pfc_base.proofs.Sets.{words-of_view}
use Rattle.pfc_base.proofs.block_set.BlockSet.test.Goals as goal

pub index-requires : goal.index-requires
index-requires c = let words = words-of_view c.self.inside.words.items c.self.inside.bound c.args.self.now c.self.invariant c.self.view_is in omega (arith, words.0, c.self.invariant.size)

pub returns : goal.returns
returns c =
    let words = words-of_view c.self.inside.words.items c.self.inside.bound c.args.self.now c.self.invariant c.self.view_is in
    let i = c.args.i in
    let all = c.self.inside.words.items in
    let word : c.index.result.now ≡ slice_index all (i / 64) = c.index.ensures ∙ get_or_default all (i / 64) c.index.result.now 0 (omega (arith, words.0, c.self.invariant.size)) in
    ap (λ w. bit_and (w / 2 ^ (i % 64)) 1 == 1) word ∙ ap (λ b. b == 1) (shr_and_one (slice_index all (i / 64)) (i % 64) ∙ words.1.bits i) ∙ bit_of-tested (is_member c.args.self.now i)
