-- Which shell is held by whom.
use Rattle.std.specs.Prelude.{◌≡◌, ℕ, ◌==◌, ◌<◌, ◌⊎◌, Bool, false, if◌then◌else◌, List, [], ◌∷◌, Option, Some, None, slice_set}
use Rattle.pfc_catalog.specs.declared.entry.Entry.{Entry}
use Rattle.pfc_catalog.specs.Entry.{shell_of, live_shell}

abbrev pub is_shell : ℕ → Option ℕ → Bool
is_shell s None = false
is_shell s (Some t) = t == s

-- the path of the file that holds a shell
abbrev pub holder : ℕ → List (List ℕ × Entry) → Option (List ℕ)
holder s [] = None
holder s (f ∷ fs) = if is_shell s (shell_of f.1.state) then Some f.0 else holder s fs

-- the path of the file that is open in a shell
abbrev pub live_at : ℕ → List (List ℕ × Entry) → Option (List ℕ)
live_at s [] = None
live_at s (f ∷ fs) = if is_shell s (live_shell f.1.state) then Some f.0 else live_at s fs

-- The file may go on from one state to another: it holds the shell that it held, or none, or one that was free.
abbrev pub MayHold : List (List ℕ × Entry) → Option ℕ → Option ℕ → Type 0
MayHold files was is = (s : ℕ) → is ≡ Some s → (was ≡ Some s) ⊎ ((s < 256) × (holder s files ≡ None))

-- the table once a shell that was held is free
abbrev pub freed : Option ℕ → List (Option ℕ) → List (Option ℕ)
freed None shells = shells
freed (Some s) shells = slice_set shells s None

-- the table once the file at a place holds a shell
abbrev pub given : Option ℕ → ℕ → List (Option ℕ) → List (Option ℕ)
given None place shells = shells
given (Some s) place shells = slice_set shells s (Some place)
