-- What links have spent, by their numbers.
use Rattle.std.specs.Prelude.{ℕ, ◌==◌, List, [], ◌∷◌, map, if◌then◌else◌}

-- a row for each link: its number, its calls and its faults
abbrev pub Rows : Type 0
Rows = List (ℕ × ℕ × ℕ)

abbrev pub rows_of : {L : Type 0} → (L → ℕ) → (L → ℕ) → (L → ℕ) → List L → Rows
rows_of number calls faults links = map (λ link. (number link, calls link, faults link)) links

-- the calls and the faults in the row of this number; without a row nothing was spent
abbrev pub spent_by : Rows → ℕ → ℕ × ℕ
spent_by [] n = (0, 0)
spent_by (row ∷ rows) n = if n == row.0 then (row.1, row.2) else spent_by rows n

abbrev pub nothing_spent : ℕ → ℕ × ℕ
nothing_spent n = (0, 0)
