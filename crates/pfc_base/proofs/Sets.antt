-- Sets, and the words in which they are kept.
use Rattle.std.proofs.Common.{◌≡◌, ◌≢◌, ◌==◌, ◌↔◌, ℕ, ◌+◌, ◌*◌, ◌/◌, ◌%◌, ◌^◌, ◌<◌, ◌≤◌, Bool, true, false, List, Option, length, get_or, slice_index, slice_set, count_by, sum_by, replicate, bit_or, refl, sym, ap, subst, ◌∙◌, arith, inl, inr, w64}
use Rattle.std.specs.Int.{bit_at}
use Rattle.std.specs.Int.RustNames.{count_ones}
use Rattle.std.proofs.lemmas.Bool.{cases_lt, cases_eq}
use Rattle.std.proofs.lemmas.List.{ext_get_or, get_or_past, get_or-set_same, get_or-set_other, get_or-replicate, length-replicate}
use Rattle.std.proofs.lemmas.List.FromFn.{length-map-range_with_len, get_or-map-range_with_len}
use Rattle.std.proofs.lemmas.Nat.{or_lt, mod_below}
use Rattle.std.proofs.lemmas.Nat.Bits.{bit_at-lt, bit_at-zero, bit_at_set_same, bit_at_set_other}
use Rattle.std.proofs.Math.ListN.{set, length-set}
use Rattle.pfc_base.specs.Words.{bit_of, bit_in, has_bit, IsFirst}
use Rattle.pfc_base.specs.BlockSet.{is_member, IsWithin, members_of, AreKept, AreWords}
use Rattle.pfc_base.proofs.Places.{bit-tested, bit_of-one}
use Rattle.pfc_base.proofs.Bits.{number, bit_at-number, count_ones-number, count-from_bits, same_from_bits_in}

pub length-members_of : (words : List ℕ) (bound : ℕ) → length (members_of words bound) ≡ bound
unfolding members_of
length-members_of words bound = length-map-range_with_len (λ i. bit_in 64 words i == 1) 0 bound

pub is_member-members_of : (words : List ℕ) (bound i : ℕ) → i < bound → is_member (members_of words bound) i ≡ (bit_in 64 words i == 1)
unfolding members_of
is_member-members_of words bound i h = get_or-map-range_with_len (λ i. bit_in 64 words i == 1) 0 bound i i false h (omega arith)

-- the kept words are those of the set
pub words-of_kept : (words : List ℕ) (bound : ℕ) → AreKept words bound → AreWords words (members_of words bound)
words-of_kept words bound is = record {
  size = rw (length-members_of words bound) is.size;
  bits = λ i. elim (cases_lt i bound) [
    | inl h ↦ bit-tested (bit_in 64 words i) (bit_at-lt (slice_index words (i / 64)) (i % 64)) ∙ ap bit_of (sym (is_member-members_of words bound i h))
    | inr h ↦ is.spare i h ∙ ap bit_of (sym (get_or_past (members_of words bound) i false (omega (arith, length-members_of words bound))))
  ];
}

pub words-of_view : (words : List ℕ) (bound : ℕ) (set : List Bool) → AreKept words bound → members_of words bound ≡ set → (length set ≡ bound) × AreWords words set
words-of_view words bound set is view = (
  ap length (sym view) ∙ length-members_of words bound,
  let P : List Bool → Type 0 = λ s. AreWords words s in subst P view (words-of_kept words bound is),
)

bit_of-same : (a b : Bool) → bit_of a ≡ bit_of b → a ≡ b
bit_of-same true true h = refl
bit_of-same true false h = absurd (omega arith)
bit_of-same false true h = absurd (omega arith)
bit_of-same false false h = refl

-- sets of one bound with the same members are equal
pub same-from_members : (s t : List Bool) → length s ≡ length t → ((i : ℕ) → i < length s → bit_of (is_member s i) ≡ bit_of (is_member t i)) → s ≡ t
same-from_members s t long same = ext_get_or false s t long (λ i h. bit_of-same (is_member s i) (is_member t i) (same i h))

-- words that have a set's bits are kept, and seen as the set
pub view-of_words : (words : List ℕ) (bound : ℕ) (set : List Bool) → bound < 2 ^ 32 → ((k : ℕ) → slice_index words k < 2 ^ 64) → length set ≡ bound → AreWords words set →
    AreKept words bound × (members_of words bound ≡ set)
view-of_words words bound set small fits long is =
    let kept : AreKept words bound = record {
      small = small;
      fits = fits;
      size = is.size ∙ ap (λ n. (n + 63) / 64) long;
      spare = λ i h. is.bits i ∙ ap bit_of (get_or_past set i false (omega arith));
    } in (
      kept,
      same-from_members (members_of words bound) set (length-members_of words bound ∙ sym long) (λ i h. sym ((words-of_kept words bound kept).bits i) ∙ is.bits i),
    )

zero-in : (n i : ℕ) → slice_index (replicate n 0) i ≡ 0
zero-in n i = elim (cases_lt i n) [ inl h ↦ get_or-replicate n i 0 0 h | inr h ↦ get_or_past (replicate n 0) i 0 (omega (arith, length-replicate {A = ℕ} n 0)) ]

none-in : (n i : ℕ) → get_or (replicate n false) i false ≡ false
none-in n i = elim (cases_lt i n) [ inl h ↦ get_or-replicate n i false false h | inr h ↦ get_or_past (replicate n false) i false (omega (arith, length-replicate n false)) ]

pub fits-none : (n k : ℕ) → slice_index (replicate n 0) k < 2 ^ 64
fits-none n k = omega (arith, zero-in n k)

pub words-none : (count : ℕ) → AreWords (replicate ((count + 63) / 64) 0) (replicate count false)
words-none count = record {
  size = length-replicate {A = ℕ} ((count + 63) / 64) 0 ∙ ap (λ n. (n + 63) / 64) (sym (length-replicate count false));
  bits = λ i. ap (λ w. bit_at w (i % 64)) (zero-in ((count + 63) / 64) (i / 64)) ∙ bit_at-zero (i % 64) ∙ ap bit_of (sym (none-in count i));
}

-- one more member
pub words-set : (words : List ℕ) (set' : List Bool) (i : ℕ) → AreWords words set' → i < length set' →
    AreWords (set words (i / 64) (bit_or (slice_index words (i / 64)) (1 * 2 ^ (i % 64) % 18446744073709551616))) (slice_set set' i true)
words-set words s i is h =
    let k : ℕ = i / 64 in
    let r : ℕ = i % 64 in
    let new : ℕ = bit_or (slice_index words k) (1 * 2 ^ r % 2 ^ 64) in
    let in_words : k < length words = omega (arith, is.size) in
    let low : r < 64 = omega arith in
    record {
      size = length-set words k new ∙ is.size ∙ ap (λ n. (n + 63) / 64) (sym (length-set s i true));
      bits = λ j. elim (cases_eq j i) [
        | inl e ↦
            ap (bit_in 64 (set words k new)) e ∙ ap (λ w. bit_at w r) (get_or-set_same words k new 0 in_words) ∙ bit_at_set_same w64 (slice_index words k) r low
            ∙ ap bit_of (sym (ap (is_member (slice_set s i true)) e ∙ get_or-set_same s i true false h))
        | inr ne ↦ elim (cases_eq (j / 64) k) [
          | inl e ↦
              let other : j % 64 ≢ r = λ same. ne (omega arith) in
              ap (λ m. bit_at (get_or (set words k new) m 0) (j % 64)) e ∙ ap (λ w. bit_at w (j % 64)) (get_or-set_same words k new 0 in_words)
              ∙ bit_at_set_other w64 (slice_index words k) r low (j % 64) other ∙ ap (λ m. bit_at (slice_index words m) (j % 64)) (sym e)
              ∙ is.bits j ∙ ap bit_of (sym (get_or-set_other s i j true false ne))
          | inr far ↦
              ap (λ w. bit_at w (j % 64)) (get_or-set_other words k (j / 64) new 0 far) ∙ is.bits j ∙ ap bit_of (sym (get_or-set_other s i j true false ne))
        ]
      ];
    }

pub fits-set : (words : List ℕ) (k n r : ℕ) → ((j : ℕ) → slice_index words j < 2 ^ 64) → n < 2 ^ 64 →
    (j : ℕ) → slice_index (set words k (bit_or n (1 * 2 ^ r % 18446744073709551616))) j < 2 ^ 64
fits-set words k n r fits small j =
    let new : ℕ = bit_or n (1 * 2 ^ r % 2 ^ 64) in
    let below : new < 2 ^ 64 = or_lt 64 n (1 * 2 ^ r % 2 ^ 64) small (mod_below (1 * 2 ^ r) (2 ^ 64) (omega arith)) in
    elim (cases_lt k (length words)) [
      | inl h ↦ elim (cases_eq j k) [
        | inl e ↦ omega (arith, ap (slice_index (set words k new)) e ∙ get_or-set_same words k new 0 h)
        | inr ne ↦ omega (arith, get_or-set_other words k j new 0 ne, fits j)
      ]
      | inr past ↦ elim (cases_eq j k) [
        | inl e ↦ omega (arith, get_or_past (set words k new) j 0 (omega (arith, length-set words k new)))
        | inr ne ↦ omega (arith, get_or-set_other words k j new 0 ne, fits j)
      ]
    ]

pub sum-of_words : (words : List ℕ) (set : List Bool) → ((k : ℕ) → slice_index words k < 2 ^ 64) → AreWords words set → sum_by count_ones words ≡ count_by (λ t. t) set
sum-of_words words set fits is =
    sym (count_ones-number words fits) ∙ sym (count-from_bits (number words) set (λ i. bit_at-number words i fits ∙ is.bits i))

-- a set has one list of words
pub same-from_set : (a b : List ℕ) (set : List Bool) → ((k : ℕ) → slice_index a k < 2 ^ 64) → ((k : ℕ) → slice_index b k < 2 ^ 64) → AreWords a set → AreWords b set → a ≡ b
same-from_set a b set fits fits' is is' =
    same_from_bits_in 64 a b (is.size ∙ sym is'.size) fits fits' (λ k i h below. is.bits (k * 64 + i) ∙ sym (is'.bits (k * 64 + i)))

bit-member : (set : List Bool) (i n : ℕ) → n ≡ bit_of (is_member set i) → ((n ≡ 1) → is_member set i ≡ true) × (is_member set i ≡ true → n ≡ 1)
bit-member set i n is = (λ one. bit_of-one (is_member set i) (sym is ∙ one), λ member. is ∙ ap bit_of member)

pub within-of_words : (a b : List ℕ) (s t : List Bool) → AreWords a s → AreWords b t → ((i : ℕ) → bit_in 64 a i ≡ 1 → bit_in 64 b i ≡ 1) ↔ IsWithin s t
within-of_words a b s t is is' = (
  λ bits i member. (bit-member t i (bit_in 64 b i) (is'.bits i)).0 (bits i ((bit-member s i (bit_in 64 a i) (is.bits i)).1 member)),
  λ members i one. (bit-member t i (bit_in 64 b i) (is'.bits i)).1 (members i ((bit-member s i (bit_in 64 a i) (is.bits i)).0 one)),
)

-- the first place of a bit in the words, as the first number that is, or is not, in the set
pub first-of_words : (bit : Bool) (test : Bool → Bool) → ((member : Bool) → (bit_of member == bit_of bit) ≡ test member) →
    (words shown : List ℕ) (set : List Bool) (bound from start : ℕ) (place found : Option ℕ) → shown ≡ words → start ≡ from → AreWords words set → length set ≡ bound →
    ((test : ℕ → Bool) (from end : ℕ) → bound ≤ end → IsFirst test from end place → IsFirst test from bound found) →
    IsFirst (has_bit shown bit) start (64 * length shown) place → IsFirst (λ i. test (is_member set i)) from (length set) found
first-of_words bit test says words shown set bound from start place found same at is long cut first =
    let tests : (i : ℕ) → has_bit shown bit i ≡ test (is_member set i) = λ i.
    ap (λ w. bit_in 64 w i == bit_of bit) same ∙ ap (λ b. b == bit_of bit) (is.bits i) ∙ says (is_member set i) in
    let P : (ℕ → Bool) → Type 0 = λ t. IsFirst t start (64 * length shown) place in
    let Q : ℕ → ℕ → Type 0 = λ a b. IsFirst (λ i. test (is_member set i)) a b found in
    let here = cut (λ i. test (is_member set i)) start (64 * length shown) (omega (arith, is.size, ap length same, long)) (subst P (λ j i. tests i j) first) in
    subst (λ a. Q a (length set)) at (subst (Q start) (sym long) here)
