use Rattle.std.proofs.Common.{◌≡◌, ◌+◌, ◌/◌, sym, arith, List, ℕ, length, take, subst}
use Rattle.pfc_base.specs.Words.{bytes_of}
use Rattle.pfc_base.specs.BlockSet.{IsBitmap}
use Rattle.pfc_base.proofs.Sets.{words-of_view}
use Rattle.pfc_base.proofs.Bitmaps.{bitmap-of_words}
use Rattle.pfc_base.proofs.block_set.BlockSet.bytes_into.Goals as goal

pub returns-clause-ok : goal.returns-clause-ok
returns-clause-ok c =
    let words = words-of_view c.self.inside.words.items c.self.inside.bound c.args.self.now c.self.invariant c.self.view_is in
    let set = c.args.self.now in
    let count : (length set + 7) / 8 ≡ c.div_ceil.result = omega (arith, words.0, c.div_ceil.ensures) in
    let bytes = take c.div_ceil.result (bytes_of c.deref.result.now) in
    let P : List ℕ → Type 0 = λ b. IsBitmap b set in
    (bytes, c.in_ok-append_bytes.ensures.ok, subst P (λ i. take (count i) (bytes_of (sym c.deref.ensures.value i))) (bitmap-of_words c.self.inside.words.items set words.1))
