-- What the words of a line come to.
use Rattle.std.proofs.Common.{◌≡◌, ℕ, List, [], ◌∷◌, refl, sym, ap, ◌∙◌, arith, true, false}
use Rattle.std.specs.Prelude.{◌==◌, Option, Some, None, if◌then◌else◌}
use Rattle.std.specs.List.{join_with_byte}
use Rattle.std.proofs.lemmas.Bool.Decides.{nat_tests}
use Rattle.pfc_base.specs.Pieces.{pieces_of, pieces_of-some, onto}
use Rattle.pfc_report.specs.Schedule.{Line, Ask, asking, stepping}

same-number : (a b : ℕ) → (a == b) ≡ true → a ≡ b
same-number a b is = grind (arith, nat_tests, is)

-- one byte more before the first piece
join-onto : (sep b : ℕ) (pieces : List (List ℕ)) (p : List ℕ) (ps : List (List ℕ)) → pieces ≡ p ∷ ps → join_with_byte sep (onto b pieces) ≡ b ∷ join_with_byte sep pieces
join-onto sep b pieces p [] is = rw is refl
join-onto sep b pieces p (q ∷ ps) is = rw is refl

join-after : (sep : ℕ) (pieces : List (List ℕ)) (p : List ℕ) (ps : List (List ℕ)) → pieces ≡ p ∷ ps → join_with_byte sep ([] ∷ pieces) ≡ sep ∷ join_with_byte sep pieces
join-after sep pieces p ps is = rw is refl

-- the pieces, joined again, are the text
pub join-pieces : (sep : ℕ) (bytes : List ℕ) → join_with_byte sep (pieces_of sep bytes) ≡ bytes
join-pieces sep [] = refl
join-pieces sep (b ∷ bs) =
    let some = pieces_of-some sep bs in
    let rest = join-pieces sep bs in
    elim (b == sep) as (λ v. (b == sep) ≡ v → join_with_byte sep (if v then [] ∷ pieces_of sep bs else onto b (pieces_of sep bs)) ≡ b ∷ bs) [
      | true ↦ λ is. join-after sep (pieces_of sep bs) some.0 some.1 some.2 ∙ (rw (same-number b sep is, rest) refl)
      | false ↦ λ is. join-onto sep b (pieces_of sep bs) some.0 some.1 some.2 ∙ ap (λ x. b ∷ x) rest
    ] refl

-- an `ask` line's rest is all that stands behind the space
asking-rest : (n : ℕ) (rest : List ℕ) → asking (Some n) (pieces_of 32 rest) ≡ Some (Ask n rest)
asking-rest n rest = let some = pieces_of-some 32 rest in
    let whole = join-pieces 32 rest in
    rw some.2 (ap (λ x. Some (Ask n x)) (ap (join_with_byte 32) (sym some.2) ∙ whole))

pub asking-some : (o : Option ℕ) (n : ℕ) (words : List (List ℕ)) (rest : List ℕ) → Some n ≡ o → words ≡ pieces_of 32 rest → Some (Ask n rest) ≡ asking o words
asking-some o n words rest some is = rw (← some, is) (sym (asking-rest n rest))

-- a line of steps with a word too many
pub stepping-long : (line : ℕ → ℕ → Line) (n : ℕ) (words : List (List ℕ)) (k rest : List ℕ) → words ≡ k ∷ pieces_of 32 rest → stepping line (Some n) words ≡ None
stepping-long line n words k rest is = let some = pieces_of-some 32 rest in rw (is, some.2) refl
