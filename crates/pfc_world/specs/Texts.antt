-- Texts by name, and what sources and sinks tell of their bytes.
use Rattle.std.specs.Prelude.{◌≡◌, ℕ, ◌==◌, ◌<◌, ◌≤◌, ◌+◌, Bool, List, [], ◌++◌, take, length, IsTrue, Some, if◌then◌else◌}
use Rattle.pfc_world.specs.Files.{Files, file_at}
use Rattle.pfc_world.specs.Counts.{add_count}

-- a finite map from name to bytes: the first entry of a name counts
abbrev pub Texts : Type 0
Texts = Files

-- the first n bytes of the place are taken from the front of what was left, and none only at the end
abbrev pub Gives : List ℕ → List ℕ → ℕ → ℕ → List ℕ → Type 0
Gives before after room n place = (before ≡ take n place ++ after) × (0 < room → n ≡ 0 → before ≡ [])

-- where the sink tells its bytes, these came at the end
abbrev pub Appends : Bool → List ℕ → List ℕ → List ℕ → Type 0
Appends told before after bytes = IsTrue told → after ≡ before ++ bytes

-- where the sink tells its bytes, a front of these came at the end
abbrev pub AppendsFront : Bool → List ℕ → List ℕ → List ℕ → Type 0
AppendsFront told before after bytes = (n : ℕ) × Appends told before after (take n bytes)

-- the pairs with these calls and faults added at this number
abbrev pub SpentAt : (ℕ → ℕ × ℕ) → ℕ → ℕ → ℕ → ℕ → ℕ × ℕ
SpentAt spent number calls faults n = if n == number then (add_count (spent n).0 calls, add_count (spent n).1 faults) else spent n
