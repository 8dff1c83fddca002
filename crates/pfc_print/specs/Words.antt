-- What the words of the call ask, as clap's simple command takes them behind the program's name: a flag, and then one
-- word or more.
use Rattle.std.specs.Prelude.{◌≡◌, ◌==◌, ℕ, Bool, true, false, List, [], ◌∷◌, Option, Some, None, codes, unwrap_or}
use Rattle.std.specs.Cmp.Lexicographic.{pointwise}
use Rattle.clap.specs.Lexer.{usize_max}
use Rattle.clap.specs.Words.{App, Row, Rule, all_of, fault_of, first_of, matches_of, new_app, new_rule, with_rule}
use Rattle.clap.specs.declared.builder.action.ArgAction.TheVariants.{SetTrue}

abbrev pub verbose_rule : Rule
verbose_rule = record (new_rule (codes "verbose")) { short = Some 118; long = Some (codes "verbose"); action = Some SetTrue }

abbrev pub cinfo_rule : Rule
cinfo_rule = record (new_rule (codes "cinfo")) { required = true; range = Some (record { start_inclusive = 1; end_inclusive = usize_max }) }

unfoldable pub print_command : App
print_command = with_rule (with_rule (new_app (codes "xrdpfc_print")) verbose_rule) cinfo_rule

abbrev pub line_of : List (List ℕ) → List (List ℕ)
line_of words = codes "xrdpfc_print" ∷ words

-- clap refuses the words for no cause but want of memory
abbrev pub AreTaken : List (List ℕ) → Type 0
AreTaken words = fault_of print_command (line_of words) ≡ []

abbrev pub rows_in : List (List ℕ) → List Row
rows_in words = matches_of print_command (line_of words)

-- whether a text is there and says true
abbrev pub says_true : Option (List ℕ) → Bool
says_true None = false
says_true (Some text) = pointwise ◌==◌ text (codes "true")

-- whether the flag is given
abbrev pub is_verbose : List (List ℕ) → Bool
is_verbose words = says_true (first_of (codes "verbose") (rows_in words))

-- the files that are named
abbrev pub files_in : List (List ℕ) → List (List ℕ)
files_in words = unwrap_or (all_of (codes "cinfo") (rows_in words)) []
