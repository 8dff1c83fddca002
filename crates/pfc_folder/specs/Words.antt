-- The words of a program that name folders.
use Rattle.std.specs.Prelude.{ℕ, List, [], ◌∷◌, Option, Some, None}

-- the name of the origin's folder: the second word, if there is one and it isn't empty
abbrev pub folder_of : List (List ℕ) → Option (List ℕ)
folder_of [] = None
folder_of (config ∷ []) = None
folder_of (config ∷ [] ∷ words) = None
folder_of (config ∷ (b ∷ bs) ∷ words) = Some (b ∷ bs)

-- the name of the cache's folder: the third word, if there is one and it isn't empty
abbrev pub cache_of : List (List ℕ) → Option (List ℕ)
cache_of [] = None
cache_of (config ∷ []) = None
cache_of (config ∷ origin ∷ []) = None
cache_of (config ∷ origin ∷ [] ∷ words) = None
cache_of (config ∷ origin ∷ (b ∷ bs) ∷ words) = Some (b ∷ bs)
