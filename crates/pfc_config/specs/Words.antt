-- The words of a line: what stands between blanks, up to a comment.
use Rattle.std.specs.Prelude.{◌≡◌, ℕ, ◌<◌, ◌==◌, Bool, true, false, ◌||◌, not, List, [], ◌∷◌, length, filter, reverse, Option, None, Some, if◌then◌else◌}
use Rattle.std.specs.List.{find, take_while}
use Rattle.std.specs.Option.{option_map_or}
use Rattle.pfc_base.specs.Pieces.{onto}

-- space, tab and carriage return
abbrev pub is_blank : ℕ → Bool
is_blank b = b == 32 || b == 9 || b == 13

-- the pieces of a list between the numbers that pass a test
abbrev pub pieces_by : (ℕ → Bool) → List ℕ → List (List ℕ)
pieces_by cuts [] = [] ∷ []
pieces_by cuts (b ∷ bs) = if cuts b then [] ∷ pieces_by cuts bs else onto b (pieces_by cuts bs)

abbrev pub is_filled : List ℕ → Bool
is_filled [] = false
is_filled (b ∷ bs) = true

-- a word that begins with #
abbrev pub is_comment : List ℕ → Bool
is_comment [] = false
is_comment (b ∷ bs) = b == 35

-- the words between blanks, up to a comment
unfoldable pub words_of : List ℕ → List (List ℕ)
words_of line = take_while (λ word. not (is_comment word)) (filter is_filled (pieces_by is_blank line))

-- the last byte that isn't blank is a backslash
abbrev pub is_continued : List ℕ → Bool
is_continued line = option_map_or (λ b. b == 92) (find (λ b. not (is_blank b)) (reverse line)) false

-- the first word, and what stands behind it, if there is a word
abbrev pub BeginsWord : List ℕ → Option (List ℕ × List ℕ) → Type 0
BeginsWord bytes None = words_of bytes ≡ []
BeginsWord bytes (Some begun) = (words_of bytes ≡ begun.0 ∷ words_of begun.1) × (length begun.1 < length bytes)
