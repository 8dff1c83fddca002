-- What is read lies within the ranges of the table.
use Rattle.std.proofs.Common.{◌≡◌, inl, inr, ℕ, ◌+◌, ◌*◌, ◌/◌, ◌%◌, ◌^◌, ◌<◌, ◌≤◌, nat_lt, nat_le, Bool, true, false, cond, not, ◌||◌, ◌==◌, List, [], ◌∷◌, ◌++◌, length, slice_index, Option, Some, None, if◌then◌else◌, refl, subst, arith}
use Rattle.std.specs.Prelude.{IfOk}
use Rattle.std.specs.Option.{option_map_or, option_map, unwrap_or, is_none}
use Rattle.std.specs.List.{find, list_any}
use Rattle.std.proofs.lemmas.Bool.{cases_Bool, not-false, and_parts, leb-true, ltb-true, eqb-true, ltb-false}
use Rattle.pfc_base.specs.Pieces.{pieces_of}
use Rattle.pfc_config.specs.Words.{words_of, is_continued}
use Rattle.pfc_config.specs.Directive.{is_word, row_of, value_of, values_of, is_in_range, is_between, kind_of_args}
use Rattle.pfc_config.specs.Line.{is_line_of, first_of, args_of, kind_alone, kind_of_words, are_unsupported}
use Rattle.pfc_config.specs.Config.{kind_of, first_bad, set_in, number_in, config_by, or_default, with_room, is_twice, configured_lines, configured, IsWithinRanges}
use Rattle.pfc_config.specs.declared.config.Config.{Config}
use Rattle.pfc_config.specs.declared.refusal.ConfigRefusal.{ConfigRefusal}
use Rattle.pfc_config.specs.declared.refusal.ConfigRefusal.TheVariants.{Bad}
use Rattle.pfc_config.specs.declared.refusal.Kind.{Kind}
use Rattle.pfc_config.specs.declared.refusal.Kind.TheVariants.{TooLong, Unsupported, Arity, Number, Range, Twice}
use Rattle.pfc_config.specs.declared.directive.Directive.{Directive}
use Rattle.pfc_config.specs.declared.directive.Directive.TheVariants.{BlockSize, Ram, Prefetch, WriteQueue, Flush, DiskUsage}
use Rattle.pfc_config.proofs.Names.{same_word, ours, unnamed}
use Rattle.pfc_config.proofs.Settled.{directive_of-name}

neither : {A B : Type 0} (f : A → B) (o : Option A) (rest : Option B) → option_map_or (λ x. Some (f x)) o rest ≡ None → (o ≡ None) × (rest ≡ None)
neither f None rest h = (refl, h)
neither f (Some x) rest h = cc

last_test : (a b c : Bool) (x y z : Kind) → cond a (Some x) (cond b (Some y) (cond c (Some z) None)) ≡ None → c ≡ false
last_test true b c x y z h = cc
last_test false true c x y z h = cc
last_test false false true x y z h = cc
last_test false false false x y z h = refl

behind : (a b : Bool) (x y : Kind) (rest : Option Kind) → cond a (Some x) (cond b (Some y) rest) ≡ None → rest ≡ None
behind true b x y rest h = cc
behind false true x y rest h = cc
behind false false x y rest h = h

-- where no line is refused, none that is found is refused alone
good_line : (capacity : ℕ) (before lines : List (List ℕ)) (p : List ℕ → Bool) (line : List ℕ) → first_bad capacity before lines ≡ None →
    find p lines ≡ Some line → (p line ≡ true) × (kind_alone capacity line ≡ None)
good_line capacity before [] p line good found = cc
good_line capacity before (l ∷ ls) p line good found =
    let passes = neither (λ (kind : Kind). Bad (length before + 1) kind) (kind_of capacity before l) (first_bad capacity (before ++ l ∷ []) ls) good in
    let alone = neither (λ (kind : Kind). kind) (kind_alone capacity l) (if is_twice before l then Some Twice else None) passes.0 in
    elim (cases_Bool (p l)) [
      | inl here ↦
          let same : Some l ≡ Some line = simp here at found in
          let is : l ≡ line = cc in
          subst (λ (x : List ℕ). (p x ≡ true) × (kind_alone capacity x ≡ None)) is (here, alone.0)
      | inr other ↦ good_line capacity (before ++ l ∷ []) ls p line passes.1 (simp other at found)
    ]

args_in_range : (capacity : ℕ) (directive : Directive) (words : List (List ℕ)) → kind_of_words capacity words ≡ None →
    is_word (first_of words) (row_of directive).name ≡ true → is_in_range capacity directive (values_of capacity directive (args_of words)) ≡ true
args_in_range capacity directive [] good named = let other = unnamed directive in absurd cc
args_in_range capacity directive (first ∷ args) good named =
    let name = same_word first (row_of directive).name named in
    let at_name = subst (λ (word : List ℕ). kind_of_words capacity (word ∷ args) ≡ None) name good in
    let of_args : kind_of_args capacity directive args ≡ None = rw (ours directive, directive_of-name directive) at at_name in
    not-false (is_in_range capacity directive (values_of capacity directive args))
    (last_test (not (length args == (row_of directive).count)) (list_any (λ word. is_none (value_of capacity (row_of directive).form word)) args)
    (not (is_in_range capacity directive (values_of capacity directive args))) Arity Number Range of_args)

line_in_range : (capacity : ℕ) (directive : Directive) (line : List ℕ) → kind_alone capacity line ≡ None → is_line_of directive line ≡ true →
    is_in_range capacity directive (values_of capacity directive (args_of (words_of line))) ≡ true
unfolding kind_alone
line_in_range capacity directive line good named = args_in_range capacity directive (words_of line) (behind (nat_lt 4096 (length line)) (is_continued line || are_unsupported (words_of line)) TooLong Unsupported (kind_of_words capacity (words_of line)) good) named

-- what is found sets values in range, and so do the defaults
set_in_range : (capacity : ℕ) (directive : Directive) (lines : List (List ℕ)) → first_bad capacity [] lines ≡ None →
    (found : Option (List ℕ)) → find (is_line_of directive) lines ≡ found →
    is_in_range capacity directive (values_of capacity directive (row_of directive).default) ≡ true →
    is_in_range capacity directive (unwrap_or (option_map (λ line. values_of capacity directive (args_of (words_of line))) found) (values_of capacity directive (row_of directive).default)) ≡ true
set_in_range capacity directive lines good None e default = default
set_in_range capacity directive lines good (Some line) e default =
    let is = good_line capacity [] lines (is_line_of directive) line good e in
    line_in_range capacity directive line is.1 is.0

within : (capacity : ℕ) (directive : Directive) (lines : List (List ℕ)) → first_bad capacity [] lines ≡ None →
    is_in_range capacity directive (values_of capacity directive (row_of directive).default) ≡ true →
    is_in_range capacity directive (or_default capacity (λ d. set_in capacity d lines) directive) ≡ true
within capacity directive lines good default = set_in_range capacity directive lines good (find (is_line_of directive) lines) refl default

-- the values between which one of them lies
between : (low high n : ℕ) → is_between low high n ≡ true → (low ≤ n) × (n ≤ high)
between low high n h = let both = and_parts (nat_le low n) (nat_le n high) h in (leb-true low n both.0, leb-true n high both.1)

AreMarks : ℕ → List ℕ → Type 0
AreMarks capacity values =
    (slice_index values 0 ≤ slice_index values 1) × (slice_index values 1 ≤ capacity) × (20 ≤ capacity → slice_index values 0 < slice_index values 1)

marks_set : (capacity : ℕ) (values : List ℕ) → is_in_range capacity DiskUsage values ≡ true → AreMarks capacity values
unfolding AreMarks
marks_set capacity values h =
    let both = and_parts (nat_lt (slice_index values 0) (slice_index values 1)) (nat_le (slice_index values 1) capacity) h in
    let below = ltb-true (slice_index values 0) (slice_index values 1) both.0 in
    let most = leb-true (slice_index values 1) capacity both.1 in
    (omega arith, most, λ large. below)

marks_left : (capacity : ℕ) → AreMarks capacity (capacity * 90 / 100 ∷ capacity * 95 / 100 ∷ [])
unfolding AreMarks
marks_left capacity = (omega arith, omega arith, λ large. omega arith)

marks : (capacity : ℕ) (lines : List (List ℕ)) → first_bad capacity [] lines ≡ None →
    (found : Option (List ℕ)) → find (is_line_of DiskUsage) lines ≡ found →
    AreMarks capacity (unwrap_or (option_map (λ line. values_of capacity DiskUsage (args_of (words_of line))) found) (values_of capacity DiskUsage (row_of DiskUsage).default))
marks capacity lines good None e = marks_left capacity
marks capacity lines good (Some line) e =
    let is = good_line capacity [] lines (is_line_of DiskUsage) line good e in
    marks_set capacity (values_of capacity DiskUsage (args_of (words_of line))) (line_in_range capacity DiskUsage line is.1 is.0)

by_room : (capacity : ℕ) (number : Option ℕ) (config : Config) → (4 * config.blocksize ≤ config.ram → IsWithinRanges capacity config) →
    IfOk (with_room number config) (IsWithinRanges capacity)
by_room capacity number config h = elim (cases_Bool (nat_lt config.ram (4 * config.blocksize))) [
  | inl less ↦ rw less tt
  | inr enough ↦ rw enough (h (ltb-false config.ram (4 * config.blocksize) enough))
]

-- a configuration without a bad line
unhindered : (capacity : ℕ) (number : Option ℕ) (lines : List (List ℕ)) → first_bad capacity [] lines ≡ None →
    IfOk (with_room number (config_by (or_default capacity (λ d. set_in capacity d lines)))) (IsWithinRanges capacity)
unfolding AreMarks
unhindered capacity number lines good =
    let values = or_default capacity (λ d. set_in capacity d lines) in
    let block = and_parts (is_between 4096 16777216 (slice_index (values BlockSize) 0)) (slice_index (values BlockSize) 0 % 4096 == 0) (within capacity BlockSize lines good refl) in
    let queue = and_parts (is_between 1 1024 (slice_index (values WriteQueue) 0)) (is_between 1 16 (slice_index (values WriteQueue) 1)) (within capacity WriteQueue lines good refl) in
    let disk = marks capacity lines good (find (is_line_of DiskUsage) lines) refl in
    by_room capacity number (config_by values) (λ room. record {
      block = between 4096 16777216 (slice_index (values BlockSize) 0) block.0;
      pages = eqb-true (slice_index (values BlockSize) 0 % 4096) 0 block.1;
      room = room;
      ram = leb-true (slice_index (values Ram) 0) (64 * 1024 ^ 3) (within capacity Ram lines good refl);
      prefetch = leb-true (slice_index (values Prefetch) 0) 128 (within capacity Prefetch lines good refl);
      queue = between 1 1024 (slice_index (values WriteQueue) 0) queue.0;
      writers = between 1 16 (slice_index (values WriteQueue) 1) queue.1;
      flush = between 1 100000 (slice_index (values Flush) 0) (within capacity Flush lines good refl);
      low = disk.0;
      high = disk.1;
      apart = disk.2;
    })

lines_within : (capacity : ℕ) (lines : List (List ℕ)) (bad : Option ConfigRefusal) → first_bad capacity [] lines ≡ bad →
    IfOk (configured_lines capacity lines) (IsWithinRanges capacity)
lines_within capacity lines None e = rw e (unhindered capacity (number_in Ram lines) lines e)
lines_within capacity lines (Some refusal) e = rw e tt

pub configured-within : (bytes : List ℕ) (capacity : ℕ) → IfOk (configured bytes capacity) (IsWithinRanges capacity)
unfolding configured
configured-within bytes capacity = elim (cases_Bool (nat_lt 1048576 (length bytes))) [
  | inl long ↦ rw long tt
  | inr short ↦ rw short (lines_within capacity (pieces_of 10 bytes) (first_bad capacity [] (pieces_of 10 bytes)) refl)
]
