-- What a whole configuration comes to: the first bad line, or what its directives are set to.
use Rattle.std.specs.Prelude.{◌≡◌, ℕ, ◌+◌, ◌*◌, ◌%◌, ◌^◌, ◌<◌, ◌≤◌, nat_lt, Bool, false, ◌&&◌, List, [], ◌∷◌, ◌++◌, length, slice_index, Option, Some, None, option_map, unwrap_or, Result, Ok, Err, if◌then◌else◌}
use Rattle.std.specs.Option.{option_map_or}
use Rattle.std.specs.List.{find, list_any, position_from}
use Rattle.pfc_base.specs.Pieces.{pieces_of}
use Rattle.pfc_config.specs.Words.{words_of}
use Rattle.pfc_config.specs.Directive.{directive_of, row_of, has_default, values_of}
use Rattle.pfc_config.specs.Line.{first_of, args_of, is_line_of, kind_alone}
use Rattle.pfc_config.specs.declared.config.Config.{Config}
use Rattle.pfc_config.specs.declared.directive.Directive.{Directive}
use Rattle.pfc_config.specs.declared.directive.Directive.TheVariants.{BlockSize, Ram, Prefetch, WriteQueue, Flush, DiskUsage}
use Rattle.pfc_config.specs.declared.refusal.ConfigRefusal.{ConfigRefusal}
use Rattle.pfc_config.specs.declared.refusal.ConfigRefusal.TheVariants.{Bad}
use Rattle.pfc_config.specs.declared.refusal.Kind.{Kind}
use Rattle.pfc_config.specs.declared.refusal.Kind.TheVariants.{TooLong, Range, Twice}

-- a directive with a default stood on one of the lines before
abbrev pub is_twice : List (List ℕ) → List ℕ → Bool
is_twice before line =
    option_map_or (λ directive. has_default directive && list_any (is_line_of directive) before) (directive_of (first_of (words_of line))) false

-- why a line is refused, behind these lines
abbrev pub kind_of : ℕ → List (List ℕ) → List ℕ → Option Kind
kind_of capacity before line = option_map_or Some (kind_alone capacity line) (if is_twice before line then Some Twice else None)

-- the first of the lines behind these that is refused
abbrev pub first_bad : ℕ → List (List ℕ) → List (List ℕ) → Option ConfigRefusal
first_bad capacity before [] = None
first_bad capacity before (line ∷ lines) =
    option_map_or (λ kind. Some (Bad (length before + 1) kind)) (kind_of capacity before line) (first_bad capacity (before ++ line ∷ []) lines)

-- what the line of a directive sets, if one of the lines is of it
abbrev pub set_in : ℕ → Directive → List (List ℕ) → Option (List ℕ)
set_in capacity directive lines = option_map (λ line. values_of capacity directive (args_of (words_of line))) (find (is_line_of directive) lines)

-- the number of that line, counted from 1
abbrev pub number_in : Directive → List (List ℕ) → Option ℕ
number_in directive lines = position_from (is_line_of directive) 1 lines

-- the configuration in which each directive has these values
abbrev pub config_by : (Directive → List ℕ) → Config
config_by values = record {
  blocksize = slice_index (values BlockSize) 0;
  ram = slice_index (values Ram) 0;
  flush = slice_index (values Flush) 0;
  low = slice_index (values DiskUsage) 0;
  high = slice_index (values DiskUsage) 1;
  prefetch = slice_index (values Prefetch) 0;
  queue = slice_index (values WriteQueue) 0;
  writers = slice_index (values WriteQueue) 1;
}

-- the values, where these are what the lines set, and the defaults else
abbrev pub or_default : ℕ → (Directive → Option (List ℕ)) → Directive → List ℕ
or_default capacity set directive = unwrap_or (set directive) (values_of capacity directive (row_of directive).default)

-- A configuration whose memory has room for four blocks. It is refused on the line of that directive: the default
-- has room for four blocks of any size.
abbrev pub with_room : Option ℕ → Config → Result Config ConfigRefusal
with_room number config = if nat_lt config.ram (4 * config.blocksize) then Err (Bad (unwrap_or number 0) Range) else Ok config

-- what these lines come to; an empty line, also behind the last line end, sets nothing
abbrev pub configured_lines : ℕ → List (List ℕ) → Result Config ConfigRefusal
configured_lines capacity lines =
    option_map_or Err (first_bad capacity [] lines)
    (with_room (number_in Ram lines) (config_by (or_default capacity (λ directive. set_in capacity directive lines))))

unfoldable pub configured : List ℕ → ℕ → Result Config ConfigRefusal
configured bytes capacity = if nat_lt 1048576 (length bytes) then Err (Bad 0 TooLong) else configured_lines capacity (pieces_of 10 bytes)

-- what a configuration for so many bytes of disk keeps within
pub record IsWithinRanges (capacity : ℕ) (config : Config) : Type 0 where
  pub block : (4096 ≤ config.blocksize) × (config.blocksize ≤ 16777216)
  pub pages : config.blocksize % 4096 ≡ 0
  pub room : 4 * config.blocksize ≤ config.ram
  pub ram : config.ram ≤ 64 * 1024 ^ 3
  pub prefetch : config.prefetch ≤ 128
  pub queue : (1 ≤ config.queue) × (config.queue ≤ 1024)
  pub writers : (1 ≤ config.writers) × (config.writers ≤ 16)
  pub flush : (1 ≤ config.flush) × (config.flush ≤ 100000)
  pub low : config.low ≤ config.high
  pub high : config.high ≤ capacity
  -- the defaults meet in a capacity of a few bytes alone
  pub apart : 20 ≤ capacity → config.low < config.high
