-- When a line is refused, and what it sets.
use Rattle.std.specs.Prelude.{◌≡◌, ℕ, ◌==◌, nat_eq, nat_lt, Bool, true, false, ◌&&◌, ◌||◌, List, [], ◌∷◌, length, codes, Option, Some, None, Result, Ok, Err, if◌then◌else◌}
use Rattle.std.specs.Option.{option_map_or}
use Rattle.std.specs.List.{starts_with, list_any}
use Rattle.pfc_config.specs.Words.{words_of, is_continued}
use Rattle.pfc_config.specs.Directive.{is_word, directive_of, row_of, has_default, kind_of_args, values_of, directive_set, values_set}
use Rattle.pfc_config.specs.declared.directive.Directive.{Directive}
use Rattle.pfc_config.specs.declared.setting.Setting.{Setting}
use Rattle.pfc_config.specs.declared.refusal.Kind.{Kind}
use Rattle.pfc_config.specs.declared.refusal.Kind.TheVariants.{TooLong, Unsupported, Unknown}

-- the first word, and the words behind it
abbrev pub first_of : List (List ℕ) → List ℕ
first_of [] = []
first_of (word ∷ words) = word

abbrev pub args_of : List (List ℕ) → List (List ℕ)
args_of [] = []
args_of (word ∷ words) = words

-- the line is of this directive
abbrev pub is_line_of : Directive → List ℕ → Bool
is_line_of directive line = is_word (first_of (words_of line)) (row_of directive).name

abbrev pub is_ours : List ℕ → Bool
is_ours word = starts_with nat_eq word (codes "pfc.")

abbrev pub is_conditional : List ℕ → Bool
is_conditional word = is_word word (codes "if") || is_word word (codes "else") || is_word word (codes "fi") || is_word word (codes "set") || is_word word (codes "continue")

-- directives that this cache doesn't have
abbrev pub is_left_out : List ℕ → Bool
is_left_out word =
    is_word word (codes "pfc.cschk") || is_word word (codes "pfc.decisionlib") || is_word word (codes "pfc.hdfsmode")
    || is_word word (codes "pfc.onlyifcached") || is_word word (codes "pfc.allow_xrdpfc_command")
    || is_word word (codes "pfc.urlcgi") || is_word word (codes "pfc.dirstats")

-- words of `pfc.diskusage` that this cache doesn't have
abbrev pub is_purge_word : List ℕ → Bool
is_purge_word word = is_word word (codes "files") || is_word word (codes "purgeinterval") || is_word word (codes "purgecoldfiles")

abbrev pub has_dollar : List ℕ → Bool
has_dollar word = list_any (λ b. b == 36) word

abbrev pub are_unsupported : List (List ℕ) → Bool
are_unsupported [] = false
are_unsupported (first ∷ args) =
    is_conditional first || is_left_out first
    || (is_ours first && list_any has_dollar (first ∷ args))
    || (is_word first (codes "pfc.diskusage") && list_any is_purge_word args)

-- what fits of these words
abbrev pub kind_of_words : ℕ → List (List ℕ) → Option Kind
kind_of_words capacity [] = None
kind_of_words capacity (first ∷ args) =
    if is_ours first then option_map_or (λ directive. kind_of_args capacity directive args) (directive_of first) (Some Unknown) else None

-- the first kind that fits a line, whatever stood before it
unfoldable pub kind_alone : ℕ → List ℕ → Option Kind
kind_alone capacity line =
    if nat_lt 4096 (length line) then Some TooLong
    else if is_continued line || are_unsupported (words_of line) then Some Unsupported
    else kind_of_words capacity (words_of line)

-- what a line sets alone, or the first kind that fits
abbrev pub ReadsLine : ℕ → List ℕ → Result (Option Setting) Kind → Type 0
ReadsLine capacity line (Ok (Some setting)) =
    (kind_alone capacity line ≡ None) × (first_of (words_of line) ≡ (row_of (directive_set setting)).name)
    × (values_of capacity (directive_set setting) (args_of (words_of line)) ≡ values_set setting)
ReadsLine capacity line (Ok None) =
    (kind_alone capacity line ≡ None) × ((directive : Directive) → has_default directive ≡ true → is_line_of directive line ≡ false)
ReadsLine capacity line (Err kind) = kind_alone capacity line ≡ Some kind
