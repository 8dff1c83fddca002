-- What the lines of a text say, line by line.
use Rattle.std.proofs.Common.{◌≡◌, ℕ, ◌+◌, ◌<◌, ◌≤◌, List, [], ◌∷◌, ◌++◌, length, refl, sym, ap, ◌∙◌, arith, true, false, append_assoc}
use Rattle.std.specs.Prelude.{Option, Some, None, option_map, Result, Ok, Err, nat_lt}
use Rattle.std.proofs.lemmas.Bool.Decides.{nat_tests}
use Rattle.std.proofs.lemmas.List.{append-nil}
use Rattle.pfc_base.specs.Pieces.{pieces_of}
use Rattle.pfc_report.specs.Schedule.{Line, schedule_of, all_said, said_by, said_first, schedule_limit}

-- these before those of the rest
abbrev pub extended : List Line → Result (List Line) ℕ → Result (List Line) ℕ
extended said (Ok more) = Ok (said ++ more)
extended said (Err bad) = Err bad

pub schedule_of-long : (writers : ℕ) (text : List ℕ) → schedule_limit < length text → schedule_of writers text ≡ Err 0
unfolding schedule_of
schedule_of-long writers text h = let e : nat_lt schedule_limit (length text) ≡ true = grind (arith, nat_tests) in rw e refl

pub schedule_of-short : (writers : ℕ) (text : List ℕ) → length text ≤ schedule_limit → schedule_of writers text ≡ all_said writers 1 (pieces_of 10 text)
unfolding schedule_of
schedule_of-short writers text h = let e : nat_lt schedule_limit (length text) ≡ false = grind (arith, nat_tests) in rw e refl

step : (old now : List Line) (number : ℕ) (said : Option (List Line)) (rest : Result (List Line) ℕ) →
    option_map (λ these. old ++ these) said ≡ Some now → extended now rest ≡ extended old (said_first number said rest)
step old now number None rest is = absurd cc
step old now number (Some these) (Ok more) is = let e : now ≡ old ++ these = cc in rw e (ap Ok (append_assoc old these more))
step old now number (Some these) (Err bad) is = refl

-- one line more is read
pub extended-more : (writers : ℕ) (old now : List Line) (number : ℕ) (rest line : List ℕ) (behind : List (List ℕ)) (all : Result (List Line) ℕ) →
    pieces_of 10 rest ≡ line ∷ behind → option_map (λ these. old ++ these) (said_by writers line) ≡ Some now →
    extended old (all_said writers number (pieces_of 10 rest)) ≡ all → extended now (all_said writers (number + 1) behind) ≡ all
extended-more writers old now number rest line behind all begins is so_far =
    step old now number (said_by writers line) (all_said writers (number + 1) behind) is ∙ ap (λ ls. extended old (all_said writers number ls)) (sym begins) ∙ so_far

-- the last line is read
pub extended-last : (writers : ℕ) (old now : List Line) (number : ℕ) (rest line : List ℕ) (all : Result (List Line) ℕ) →
    pieces_of 10 rest ≡ line ∷ [] → option_map (λ these. old ++ these) (said_by writers line) ≡ Some now →
    extended old (all_said writers number (pieces_of 10 rest)) ≡ all → all ≡ Ok now
extended-last writers old now number rest line all begins is so_far =
    sym (extended-more writers old now number rest line [] all begins is so_far) ∙ ap Ok (append-nil now)

bad-before : (number bad : ℕ) (said : Option (List Line)) (rest : Result (List Line) ℕ) → said_first number said (Ok []) ≡ Err bad → said_first number said rest ≡ Err bad
bad-before number bad None rest is = is
bad-before number bad (Some these) rest is = absurd cc

-- a line without a form is the first one of the text
pub extended-bad : (writers : ℕ) (old : List Line) (number bad : ℕ) (rest line : List ℕ) (behind : List (List ℕ)) (all : Result (List Line) ℕ) →
    pieces_of 10 rest ≡ line ∷ behind → said_first number (said_by writers line) (Ok []) ≡ Err bad →
    extended old (all_said writers number (pieces_of 10 rest)) ≡ all → all ≡ Err bad
extended-bad writers old number bad rest line behind all begins is so_far =
    sym so_far ∙ ap (λ ls. extended old (all_said writers number ls)) begins ∙ ap (extended old) (bad-before number bad (said_by writers line) (all_said writers (number + 1) behind) is)
