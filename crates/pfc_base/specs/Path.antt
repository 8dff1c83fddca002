-- What a path is: 2 to 255 bytes from 21 to 7e in hexadecimal, the first a slash, and no part between slashes,
-- or behind the last, is empty, a dot or two dots.
use Rattle.std.specs.Prelude.{ℕ, Bool, true, false, ◌&&◌, not, nat_le, ◌==◌, List, [], ◌∷◌, length}
use Rattle.std.specs.List.{list_all}
use Rattle.pfc_base.specs.Pieces.{pieces_of}

abbrev pub is_path_byte : ℕ → Bool
is_path_byte b = nat_le 33 b && nat_le b 126

-- neither empty nor one dot nor two
abbrev pub is_name : List ℕ → Bool
is_name [] = false
is_name (a ∷ []) = not (a == 46)
is_name (a ∷ b ∷ []) = not (a == 46 && b == 46)
is_name (a ∷ b ∷ c ∷ rest) = true

abbrev pub all_names : List (List ℕ) → Bool
all_names [] = true
all_names (part ∷ parts) = is_name part && all_names parts

abbrev pub is_path : List ℕ → Bool
is_path [] = false
is_path (b ∷ bs) = (b == 47) && (nat_le (length bs) 254 && (list_all is_path_byte bs && all_names (pieces_of 47 bs)))
