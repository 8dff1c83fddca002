use Rattle.std.proofs.Common.{◌≡◌, ◌*◌, ◌/◌, ◌%◌, ◌^◌, ◌<◌, List, Bool, true, ℕ, length, ◌∙◌, arith, get_or, slice_index, slice_set, bit_or, length-set}
use Rattle.std.proofs.lemmas.List.{get_or_default}
use Rattle.pfc_base.specs.BlockSet.{AreKept, AreWords, members_of}
use Rattle.pfc_base.proofs.Sets.{words-of_view, view-of_words, words-set, fits-set}
use Rattle.pfc_base.proofs.block_set.BlockSet.set.Goals as goal

-- the word that the call lends is the one that has the number, and the written words are those of the new set
written : (words : List ℕ) (bound i w : ℕ) (set : List Bool) → AreKept words bound → length set ≡ bound → AreWords words set → i < length set → w ≡ get_or words (i / 64) w →
    AreKept (slice_set words (i / 64) (bit_or w (1 * 2 ^ (i % 64) % 18446744073709551616))) bound
    × (members_of (slice_set words (i / 64) (bit_or w (1 * 2 ^ (i % 64) % 18446744073709551616))) bound ≡ slice_set set i true)
written words bound i w set kept long is h read =
    let word : w ≡ slice_index words (i / 64) = read ∙ get_or_default words (i / 64) w 0 (omega (arith, is.size)) in
    let new : List ℕ = slice_set words (i / 64) (bit_or w (1 * 2 ^ (i % 64) % 2 ^ 64)) in
    let has : AreWords new (slice_set set i true) = rw word (words-set words set i is h) in
    view-of_words new bound (slice_set set i true) kept.small (fits-set words (i / 64) w (i % 64) kept.fits (omega (arith, word, kept.fits (i / 64)))) (length-set set i true ∙ long) has

pub index_mut-requires : goal.index_mut-requires
index_mut-requires c = let words = words-of_view c.self.inside.words.items c.self.inside.bound c.args.self.now c.self.invariant c.self.view_is in omega (arith, words.0, c.self.invariant.size)

pub invariant_of-self : goal.invariant_of-self
invariant_of-self c =
    let words = words-of_view c.self.inside.words.items c.self.inside.bound c.args.self.now c.self.invariant c.self.view_is in
    (written c.self.inside.words.items c.self.inside.bound c.args.i c.index_mut.result.now c.args.self.now c.self.invariant words.0 words.1 c.requires c.index_mut.ensures.value).0

pub returns : goal.returns
returns c =
    let words = words-of_view c.self.inside.words.items c.self.inside.bound c.args.self.now c.self.invariant c.self.view_is in
    (written c.self.inside.words.items c.self.inside.bound c.args.i c.index_mut.result.now c.args.self.now c.self.invariant words.0 words.1 c.requires c.index_mut.ensures.value).1
