-- What a session has open, seen as the table of its files.
use Rattle.std.proofs.Common.{◌≡◌, ℕ, zero, suc, List, [], ◌∷◌, refl, ap, ◌∙◌}
use Rattle.std.specs.Prelude.{Option, Some, None, option_map, is_none, slice_set, nat_lt, ◌&&◌}
use Rattle.std.proofs.lemmas.List.{map-set}
use Rattle.pfc_client.specs.Session.{place_at, is_free}
use Rattle.pfc_client.specs.Permitted.{File, files_of}

pub place_at-files_of : {K : Type 0} (f : K → File) (session : List (Option K)) (number : ℕ) → place_at (files_of f session) number ≡ option_map f (place_at session number)
place_at-files_of f [] number = refl
place_at-files_of f (x ∷ session) zero = refl
place_at-files_of f (x ∷ session) (suc number) = place_at-files_of f session number

none-option_map : {K : Type 0} (f : K → File) (o : Option K) → is_none (option_map f o) ≡ is_none o
none-option_map f None = refl
none-option_map f (Some x) = refl

pub is_free-files_of : {K : Type 0} (f : K → File) (session : List (Option K)) (number : ℕ) → is_free (files_of f session) number ≡ is_free session number
is_free-files_of f session number = ap (λ b. nat_lt number 16 && b) (ap is_none (place_at-files_of f session number) ∙ none-option_map f (place_at session number))

pub files_of-put : {K : Type 0} (f : K → File) (session : List (Option K)) (number : ℕ) (k : K) → files_of f (slice_set session number (Some k)) ≡ slice_set (files_of f session) number (Some (f k))
files_of-put f session number k = map-set (option_map f) session number (Some k)

pub files_of-take : {K : Type 0} (f : K → File) (session : List (Option K)) (number : ℕ) → files_of f (slice_set session number None) ≡ slice_set (files_of f session) number None
files_of-take f session number = map-set (option_map f) session number None
