use Rattle.std.proofs.Common.{◌≡◌, ◌∙◌, ◌*◌, ℕ, List, Option, true, sym, ap, arith, length, subst}
use Rattle.pfc_base.specs.Words.{has_bit, IsFirst}
use Rattle.pfc_base.proofs.Sets.{length-members_of}
use Rattle.pfc_base.proofs.Bitmaps.{hold-padded, kept-from_bytes, bitmap-from_bytes, padding-found, no-padding}
use Rattle.pfc_base.proofs.block_set.BlockSet.from_bitmap.Goals as goal

-- what the call found, on the words themselves
found-in : (words shown : List ℕ) (from bound : ℕ) (place : Option ℕ) → shown ≡ words → from ≡ bound → IsFirst (has_bit shown true) from (64 * length shown) place →
    IsFirst (has_bit words true) bound (64 * length words) place
found-in words shown from bound place same at is = let P : List ℕ → ℕ → Type 0 = λ w n. IsFirst (has_bit w true) n (64 * length w) place in
    subst (P words) at (subst (λ w. P w from) same is)

pub first_place-requires : goal.first_place-requires
first_place-requires c =
    let holds = hold-padded c.in_ok-words.words.items c.args.bytes.now c.in_ok-words.ensures.fits c.in_ok-words.ensures.bytes in
    omega (arith, holds.size, c.requires, c.ranges.bound.fits, ap length c.deref.ensures.value)

pub returns-then-is_some : goal.returns-then-is_some
returns-then-is_some c =
    let words = c.in_ok-words.words.items in
    let holds = hold-padded words c.args.bytes.now c.in_ok-words.ensures.fits c.in_ok-words.ensures.bytes in
    padding-found words c.args.bytes.now c.args.bound c.first_place.result holds (sym c.is_some.ensures ∙ c.if-is_some.true)
    (found-in words c.deref.result.now c.from.result c.args.bound c.first_place.result c.deref.ensures.value c.from.ensures c.first_place.ensures)

pub invariant_of-result : goal.invariant_of-result
invariant_of-result c =
    let words = c.in_ok-words.words.items in
    let holds = hold-padded words c.args.bytes.now c.in_ok-words.ensures.fits c.in_ok-words.ensures.bytes in
    kept-from_bytes words c.args.bytes.now c.args.bound c.ranges.bound.fits c.requires holds
    (no-padding words c.args.bound c.first_place.result (sym c.is_some.ensures ∙ c.if-is_some.false)
    (found-in words c.deref.result.now c.from.result c.args.bound c.first_place.result c.deref.ensures.value c.from.ensures c.first_place.ensures))

pub returns : goal.returns
returns c =
    let words = c.in_ok-words.words.items in
    let holds = hold-padded words c.args.bytes.now c.in_ok-words.ensures.fits c.in_ok-words.ensures.bytes in
    let kept = kept-from_bytes words c.args.bytes.now c.args.bound c.ranges.bound.fits c.requires holds
    (no-padding words c.args.bound c.first_place.result (sym c.is_some.ensures ∙ c.if-is_some.false)
    (found-in words c.deref.result.now c.from.result c.args.bound c.first_place.result c.deref.ensures.value c.from.ensures c.first_place.ensures)) in
    (length-members_of words c.args.bound, bitmap-from_bytes words c.args.bytes.now c.args.bound c.requires holds kept)
