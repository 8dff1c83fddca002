use Rattle.std.proofs.Common.{◌≡◌, ℕ, Bool, not, eqb, length, sym, ap, ◌∙◌, arith, w64}
use lib.Count.{count_trailing_zeros}
use Rattle.std.specs.List.{prefix_len}
use Rattle.std.proofs.lemmas.Simd.{bitmask_splat, leading_from_mask_l, trailing_mask_l}
use Rattle.pfc_base.proofs.Counts.{not-not}
use Rattle.pfc_base.proofs.words.equal_in_eight.Goals as goal

abbrev is_other : ℕ → ℕ → Bool
is_other word x = not (eqb x word)

pub returns-then-others-eq0 : goal.returns-then-others-eq0
returns-then-others-eq0 c =
    let v = c.args.words.now in
    let long : length v ≡ 8 = c.told-words in
    let hits = bitmask_splat w64 (λ a b. not (eqb a b)) v 8 c.args.word long (omega arith) in
    sym (leading_from_mask_l (is_other c.args.word) v (sym hits ∙ c.if-others-eq0.true) ∙ long) ∙ (λ i. prefix_len (λ x. not-not (eqb x c.args.word) i) v)

pub returns-else-others-eq0 : goal.returns-else-others-eq0
returns-else-others-eq0 c =
    let v = c.args.words.now in
    let long : length v ≡ 8 = c.told-words in
    let hits = bitmask_splat w64 (λ a b. not (eqb a b)) v 8 c.args.word long (omega arith) in
    ap (count_trailing_zeros 64) hits ∙ trailing_mask_l (is_other c.args.word) 64 v (omega arith) (omega arith) ∙ (λ i. prefix_len (λ x. not-not (eqb x c.args.word) i) v)
