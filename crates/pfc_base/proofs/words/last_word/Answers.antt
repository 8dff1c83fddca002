use Rattle.std.proofs.Common.{◌≡◌, ◌<◌, ◌-◌, ◌++◌, ◌∙◌, ap, arith, ℕ, List, length, drop, replicate, slice_index, length-append}
use Rattle.std.proofs.lemmas.List.{length-replicate, drop-replicate}
use Rattle.std.proofs.lemmas.Nat.{le_bytes_8}
use Rattle.pfc_base.proofs.Bytes.{fits-padded}
use Rattle.pfc_base.proofs.words.last_word.Goals as goal

pub returns : goal.returns
returns c =
    let bytes = c.args.bytes.now in
    let n : ℕ = length bytes in
    let last : List ℕ = c.copy_from_slice.new.self ++ drop n (replicate 8 0) in
    let is : last ≡ bytes ++ replicate (8 - n) 0 = λ i. c.copy_from_slice.ensures.after i ++ drop-replicate n 8 0 i in
    let long : length last ≡ 8 = ap length is ∙ omega (arith, length-append bytes (replicate (8 - n) 0), length-replicate {A = ℕ} (8 - n) 0) in
    let fits : (k : ℕ) → slice_index last k < 256 = λ k. rw is (fits-padded bytes (8 - n) (λ j. (c.type_inv.bytes j).fits) k) in
    le_bytes_8 last c.from_le_bytes.result long fits c.from_le_bytes.ensures ∙ is
