-- The table of the directives.
use Rattle.std.specs.Prelude.{◌≡◌, Result, Ok, Err, ℕ, ◌*◌, ◌/◌, ◌%◌, ◌^◌, ◌==◌, nat_eq, nat_lt, nat_le, Bool, true, false, ◌&&◌, not, List, [], ◌∷◌, length, slice_index, drop, codes, Option, Some, None, option_map, is_none, if◌then◌else◌}
use Rattle.std.specs.List.{starts_with, filter_map, list_any}
use Rattle.std.specs.Cmp.Lexicographic.{pointwise}
use Rattle.pfc_base.specs.Number.{decimal_of, digits_from, size_of_text}
use Rattle.pfc_config.specs.declared.directive.Directive.{Directive}
use Rattle.pfc_config.specs.declared.directive.Directive.TheVariants.{BlockSize, Ram, Prefetch, WriteQueue, Flush, DiskUsage, User, Spaces, Trace}
use Rattle.pfc_config.specs.declared.setting.Setting.{Setting}
use Rattle.pfc_config.specs.declared.setting.Setting.TheVariants as set
use Rattle.pfc_config.specs.declared.refusal.Kind.{Kind}
use Rattle.pfc_config.specs.declared.refusal.Kind.TheVariants.{Arity, Number, Range}

-- what a word behind a directive may be
pub data Form : Type 0 where
  Size : Form
  Decimal : Form
  Mark : Form
  Any : Form

-- one row: the name, how many words stand behind it, their form, and the words that stand for a missing line, if any do
pub record Row : Type 0 where
  pub name : List ℕ
  pub count : ℕ
  pub form : Form
  pub default : List (List ℕ)

abbrev pub row_of : Directive → Row
row_of BlockSize = record { name = codes "pfc.blocksize"; count = 1; form = Size; default = codes "128k" ∷ [] }
row_of Ram = record { name = codes "pfc.ram"; count = 1; form = Size; default = codes "256m" ∷ [] }
row_of Prefetch = record { name = codes "pfc.prefetch"; count = 1; form = Decimal; default = codes "10" ∷ [] }
row_of WriteQueue = record { name = codes "pfc.writequeue"; count = 2; form = Decimal; default = codes "16" ∷ codes "4" ∷ [] }
row_of Flush = record { name = codes "pfc.flush"; count = 1; form = Decimal; default = codes "100" ∷ [] }
row_of DiskUsage = record { name = codes "pfc.diskusage"; count = 2; form = Mark; default = codes "0.90" ∷ codes "0.95" ∷ [] }
row_of User = record { name = codes "pfc.user"; count = 1; form = Any; default = [] }
row_of Spaces = record { name = codes "pfc.spaces"; count = 2; form = Any; default = [] }
row_of Trace = record { name = codes "pfc.trace"; count = 1; form = Any; default = [] }

abbrev pub is_word : List ℕ → List ℕ → Bool
is_word = pointwise ◌==◌

-- the directive of this name
abbrev pub directive_of : List ℕ → Option Directive
directive_of word =
    if is_word word (codes "pfc.blocksize") then Some BlockSize
    else if is_word word (codes "pfc.ram") then Some Ram
    else if is_word word (codes "pfc.prefetch") then Some Prefetch
    else if is_word word (codes "pfc.writequeue") then Some WriteQueue
    else if is_word word (codes "pfc.flush") then Some Flush
    else if is_word word (codes "pfc.diskusage") then Some DiskUsage
    else if is_word word (codes "pfc.user") then Some User
    else if is_word word (codes "pfc.spaces") then Some Spaces
    else if is_word word (codes "pfc.trace") then Some Trace
    else None

-- the capacity times these one to six digits behind a point, rounded down
abbrev pub fraction_of : ℕ → List ℕ → Option ℕ
fraction_of capacity digits =
    if nat_le 1 (length digits) && nat_le (length digits) 6
    then option_map (λ n. capacity * n / 10 ^ length digits) (digits_from 0 digits)
    else None

-- a watermark: a size, or a fraction of the capacity
abbrev pub mark_of : ℕ → List ℕ → Option ℕ
mark_of capacity word =
    if starts_with nat_eq word (codes "0.") then fraction_of capacity (drop 2 word) else size_of_text word

-- the number that a word of this form stands for
abbrev pub value_of : ℕ → Form → List ℕ → Option ℕ
value_of capacity Size word = size_of_text word
value_of capacity Decimal word = decimal_of word
value_of capacity Mark word = mark_of capacity word
value_of capacity Any word = Some 0

abbrev pub is_between : ℕ → ℕ → ℕ → Bool
is_between low high n = nat_le low n && nat_le n high

-- what the values of a directive may be
abbrev pub is_in_range : ℕ → Directive → List ℕ → Bool
is_in_range capacity BlockSize values = is_between 4096 16777216 (slice_index values 0) && (slice_index values 0 % 4096 == 0)
is_in_range capacity Ram values = nat_le (slice_index values 0) (64 * 1024 ^ 3)
is_in_range capacity Prefetch values = nat_le (slice_index values 0) 128
is_in_range capacity WriteQueue values = is_between 1 1024 (slice_index values 0) && is_between 1 16 (slice_index values 1)
is_in_range capacity Flush values = is_between 1 100000 (slice_index values 0)
is_in_range capacity DiskUsage values = nat_lt (slice_index values 0) (slice_index values 1) && nat_le (slice_index values 1) capacity
is_in_range capacity User values = true
is_in_range capacity Spaces values = true
is_in_range capacity Trace values = true

-- what these words behind a directive are set to
abbrev pub values_of : ℕ → Directive → List (List ℕ) → List ℕ
values_of capacity directive args = filter_map (value_of capacity (row_of directive).form) args

-- the first fault of the words behind a directive, if there is one
abbrev pub kind_of_args : ℕ → Directive → List (List ℕ) → Option Kind
kind_of_args capacity directive args =
    if not (length args == (row_of directive).count) then Some Arity
    else if list_any (λ word. is_none (value_of capacity (row_of directive).form word)) args then Some Number
    else if not (is_in_range capacity directive (values_of capacity directive args)) then Some Range
    else None

-- what a line sets
abbrev pub directive_set : Setting → Directive
directive_set (set.BlockSize bytes) = BlockSize
directive_set (set.Ram bytes) = Ram
directive_set (set.Prefetch blocks) = Prefetch
directive_set (set.WriteQueue queue writers) = WriteQueue
directive_set (set.Flush blocks) = Flush
directive_set (set.DiskUsage low high) = DiskUsage

abbrev pub values_set : Setting → List ℕ
values_set (set.BlockSize bytes) = bytes ∷ []
values_set (set.Ram bytes) = bytes ∷ []
values_set (set.Prefetch blocks) = blocks ∷ []
values_set (set.WriteQueue queue writers) = queue ∷ writers ∷ []
values_set (set.Flush blocks) = blocks ∷ []
values_set (set.DiskUsage low high) = low ∷ high ∷ []

-- what these words behind a directive set, or their first fault
abbrev pub ReadsArgs : ℕ → Directive → List (List ℕ) → Result Setting Kind → Type 0
ReadsArgs capacity directive args (Ok setting) =
    (kind_of_args capacity directive args ≡ None) × (directive_set setting ≡ directive) × (values_of capacity directive args ≡ values_set setting)
ReadsArgs capacity directive args (Err kind) = kind_of_args capacity directive args ≡ Some kind

abbrev pub has_default : Directive → Bool
has_default directive = nat_lt 0 (length (row_of directive).default)

-- the same, where a directive may set nothing
abbrev pub TakesArgs : ℕ → Directive → List (List ℕ) → Result (Option Setting) Kind → Type 0
TakesArgs capacity directive args (Ok (Some setting)) = ReadsArgs capacity directive args (Ok setting)
TakesArgs capacity directive args (Ok None) = (kind_of_args capacity directive args ≡ None) × (has_default directive ≡ false)
TakesArgs capacity directive args (Err kind) = ReadsArgs capacity directive args (Err kind)
