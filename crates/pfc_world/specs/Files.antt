-- The origin's files, as a finite map from path to bytes: the first entry of a path counts.
use Rattle.std.specs.Prelude.{◌≡◌, ℕ, Bool, true, false, ◌==◌, ◌<◌, ◌^◌, ◌≤◌, ◌+◌, List, [], ◌∷◌, length, IsTrue, Option, Some, None, option_map, IfSome, IsSomeAnd, if◌then◌else◌, ⊤}
use Rattle.std.specs.Cmp.Lexicographic.{pointwise}
use Rattle.pfc_base.specs.Block.{slice_of, count_of, block_len_of}

abbrev pub Files : Type 0
Files = List (List ℕ × List ℕ)

-- the bytes of the path's file
abbrev pub file_at : Files → List ℕ → Option (List ℕ)
file_at [] path = None
file_at (file ∷ files) path = if pointwise ◌==◌ path file.0 then Some file.1 else file_at files path

-- the length of the path's file
abbrev pub size_at : Files → List ℕ → Option ℕ
size_at files path = option_map length (file_at files path)

-- each file is shorter than 2 ^ 44 bytes
abbrev pub AreShort : Files → Type 0
AreShort [] = ⊤
AreShort (file ∷ files) = (length file.1 < 2 ^ 44) × AreShort files

-- where the world is told, the path has a file and the range lies in it
abbrev pub LiesIn : Bool → Files → List ℕ → ℕ → ℕ → Type 0
LiesIn told files path at len = IsTrue told → IsSomeAnd (file_at files path) (λ file. at + len ≤ length file)

-- where the world is told, these are the bytes of the file from this place
abbrev pub Holds : Bool → Files → List ℕ → ℕ → List ℕ → Type 0
Holds told files path at bytes = IsTrue told → IsSomeAnd (file_at files path) (λ file. (at + length bytes ≤ length file) × (bytes ≡ slice_of file at (length bytes)))

-- where the world is told, the file has this length
abbrev pub HasSize : Bool → Files → List ℕ → ℕ → Type 0
HasSize told files path size = IsTrue told → size_at files path ≡ Some size

-- the block lies in the file and has this length
abbrev pub IsBlockOf : ℕ → ℕ → ℕ → ℕ → Type 0
IsBlockOf size k i len = (0 < k) × (i < count_of size k) × (len ≡ block_len_of size k i)

-- a file of short files is short
pub size_at-short : (files : Files) (path : List ℕ) → AreShort files → IfSome (size_at files path) (λ size. size < 2 ^ 44)
size_at-short [] path short = tt
size_at-short (file ∷ files) path short =
    elim (pointwise ◌==◌ path file.0) as (λ v. IfSome (option_map length (if v then Some file.1 else file_at files path)) (λ size. size < 2 ^ 44)) [
      | true ↦ short.0
      | false ↦ size_at-short files path short.1
    ]
