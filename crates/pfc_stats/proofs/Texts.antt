-- Texts that are appended one after another.
use Rattle.std.proofs.Common.{◌≡◌, ℕ, List, ◌++◌, ap, ◌∙◌}
use Rattle.std.specs.Prelude.{Result, Ok, Err, OnOk}
use Rattle.std.proofs.lemmas.List.{append_assoc}

three : (a b c out one two new : List ℕ) → one ≡ out ++ a → two ≡ one ++ b → new ≡ two ++ c → new ≡ out ++ (a ++ b ++ c)
three a b c out one two new first second third =
    third ∙ ap (λ x. x ++ c) (second ∙ ap (λ x. x ++ b) first ∙ append_assoc out a b) ∙ append_assoc out (a ++ b) c

-- where the last call may be refused
pub three_ok : {T E : Type 0} (r : Result T E) (a b c out one two new : List ℕ) → one ≡ out ++ a → two ≡ one ++ b → OnOk r (new ≡ two ++ c) → OnOk r (new ≡ out ++ (a ++ b ++ c))
three_ok (Ok x) a b c out one two new first second third = three a b c out one two new first second third
three_ok (Err e) a b c out one two new first second third = tt
