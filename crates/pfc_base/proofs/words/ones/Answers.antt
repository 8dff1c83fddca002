use Rattle.std.proofs.Common.{◌≡◌, ◌+◌, length, sum_by, ℕ, w64, map, arith, sym, ap, ◌∙◌}
use Rattle.std.specs.Int.RustNames.{count_ones}
use Rattle.std.proofs.lemmas.Simd.{adds_fit, sum_fits, sum-zip2, length-zip2, fold-sum}
use Rattle.std.proofs.lemmas.List.{length-map, length-take-le}
use Rattle.std.proofs.lemmas.List.Sums.{sum_by-take-drop}
use Rattle.pfc_base.proofs.Counts.{sum_by-ones-le, sum_l-ones}
use Rattle.pfc_base.proofs.words.ones.Goals as goal

-- what the four words add
pub overflow_add-sum : goal.overflow_add-sum
overflow_add-sum c =
    let whole = sum_by-ones-le c.args.words.now c.type_inv.words in
    let a = c.in-Some.four.now in
    let four = sum_l-ones a ∙ ap (sum_by count_ones) c.in-Some.ensures.cases.0 in
    let cut = sum_by-take-drop count_ones c.loop-four.rest.now 4 in
    adds_fit w64 c.loop-four.sum (map (λ x. x) (map count_ones a)) (omega (arith, whole, four, cut, c.loop-four.invariant.1, c.requires))

pub loop-four-preserved : goal.loop-four-preserved
loop-four-preserved c =
    let a = c.in-Some.four.now in
    let got = c.in-Some.ensures.cases in
    let counts = map (λ (x : ℕ). x) (map count_ones a) in
    let long : length a ≡ 4 = ap length got.0 ∙ length-take-le 4 c.loop-four.rest.now (omega (arith, got.2)) in
    let same : length c.loop-four.sum ≡ length counts = c.loop-four.invariant.0 ∙ sym (length-map (map count_ones a) (λ (x : ℕ). x) ∙ length-map a count_ones ∙ long) in
    let four = sum_l-ones a ∙ ap (sum_by count_ones) got.0 in
    let rest = ap (sum_by count_ones) got.1 in
    let cut = sum_by-take-drop count_ones c.loop-four.rest.now 4 in
    let added = sum-zip2 c.loop-four.sum counts same in (
      length-zip2 (λ x y. x + y) c.loop-four.sum counts same ∙ c.loop-four.invariant.0,
      omega (arith, added, four, rest, cut, c.loop-four.invariant.1),
    )

pub overflow_add-result : goal.overflow_add-result
overflow_add-result c = sum_fits w64 0 c.loop-four.sum (omega (arith, sum_by-ones-le c.args.words.now c.type_inv.words, c.loop-four.invariant.1, c.requires))

pub overflow_add-result-2 : goal.overflow_add-result-2
overflow_add-result-2 c =
    record { fits = omega (arith, fold-sum 0 c.loop-four.sum, c.ones_one_by_one.ensures, sum_by-ones-le c.args.words.now c.type_inv.words, c.loop-four.invariant.1, c.requires) }

pub returns : goal.returns
returns c = omega (arith, fold-sum 0 c.loop-four.sum, c.ones_one_by_one.ensures, c.loop-four.invariant.1)
