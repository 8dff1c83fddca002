-- The runs of a set, and their text.
use Rattle.std.specs.Prelude.{ℕ, suc, ◌==◌, Bool, true, false, if◌then◌else◌, List, [], ◌∷◌, ◌++◌, codes}
use Rattle.std.specs.Fmt.{decimal}

-- number i stands before runs of greater numbers: it begins the first one anew, or is a run by itself
abbrev pub onto_run : ℕ → List (ℕ × ℕ) → List (ℕ × ℕ)
onto_run i [] = (i, i) ∷ []
onto_run i (run ∷ runs) = if run.0 == suc i then (i, run.1) ∷ runs else (i, i) ∷ run ∷ runs

-- the longest runs of members, each its first and its last, where the list begins at number i
abbrev pub runs_from : ℕ → List Bool → List (ℕ × ℕ)
runs_from i [] = []
runs_from i (true ∷ set) = onto_run i (runs_from (suc i) set)
runs_from i (false ∷ set) = runs_from (suc i) set

abbrev pub runs_of : List Bool → List (ℕ × ℕ)
runs_of set = runs_from 0 set

abbrev pub run_text : ℕ × ℕ → List ℕ
run_text run = decimal run.0 ++ 45 ∷ decimal run.1

abbrev pub more_runs_text : List (ℕ × ℕ) → List ℕ
more_runs_text [] = []
more_runs_text (run ∷ runs) = 44 ∷ run_text run ++ more_runs_text runs

-- `first-last` of each run, joined by commas, or `-` for none
abbrev pub runs_text : List (ℕ × ℕ) → List ℕ
runs_text [] = codes "-"
runs_text (run ∷ runs) = run_text run ++ more_runs_text runs
