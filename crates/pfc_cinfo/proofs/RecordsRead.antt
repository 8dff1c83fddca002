-- Records that are read one by one.
use Rattle.std.proofs.Common.{◌≡◌, ℕ, suc, ◌+◌, ◌-◌, ◌<◌, ◌≤◌, List, [], ◌∷◌, ◌++◌, length, take, drop, sym, ap, ◌∙◌, arith, append_assoc}
use Rattle.std.proofs.lemmas.List.{append-nil, take_rest}
use Rattle.pfc_base.specs.Cinfo.{Record, record_in, records_in}

pub read-step : (count i : ℕ) (before after : List Record) (r : Record) (bytes : List ℕ) → i < count → r ≡ record_in bytes → after ≡ before ++ r ∷ [] →
    after ++ records_in (count - (i + 1)) (take (length bytes - 64) (drop 64 bytes)) ≡ before ++ records_in (count - i) bytes
unfolding records_in
read-step count i before after r bytes lt is push =
    let n : count - i ≡ suc (count - (i + 1)) = omega arith in
    let rest = records_in (count - (i + 1)) in
    (λ j. push j ++ rest (take_rest bytes 64 j)) ∙ append_assoc before (r ∷ []) (rest (drop 64 bytes))
    ∙ ap (λ s. before ++ s ∷ rest (drop 64 bytes)) is ∙ sym (ap (λ k. before ++ records_in k bytes) n)

pub read-all : (count i : ℕ) (records : List Record) (bytes : List ℕ) → count ≤ i → records ≡ records ++ records_in (count - i) bytes
unfolding records_in
read-all count i records bytes le =
    let n : count - i ≡ 0 = omega arith in
    sym (ap (λ k. records ++ records_in k bytes) n ∙ append-nil records)
