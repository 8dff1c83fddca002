-- The bytes of words, and their bits.
use Rattle.std.proofs.Common.{◌≡◌, ℕ, zero, suc, ◌+◌, ◌-◌, ◌*◌, ◌/◌, ◌%◌, ◌^◌, ◌<◌, ◌≤◌, List, [], ◌∷◌, ◌++◌, length, slice_index, take, drop, replicate, refl, sym, ap, ◌∙◌, arith, inl, inr, w64, length-append, append_assoc, take_all}
use Rattle.std.specs.Int.{bit_at, to_le_bytes}
use Rattle.std.proofs.lemmas.Bool.{cases_lt}
use Rattle.std.proofs.lemmas.List.{get_or_past, get_or-take, get_or_append_left, get_or-append_right, get_or-replicate, length-replicate, length-take-le, take-append-drop, take-append-le, append-nil, get_or-drop}
use Rattle.std.proofs.lemmas.Grind.{flat_map-append}
use Rattle.std.proofs.Math.Seq.{take-append-add}
use Rattle.pfc_base.proofs.Lists.{take-nil}
use Rattle.std.proofs.lemmas.Nat.{shr-shr, shr_split}
use Rattle.std.proofs.lemmas.Nat.Bits.{bit_at-zero, bit_at_cat_low}
use Rattle.pfc_base.specs.Words.{bit_in, bytes_of}

-- a byte of a word
le_byte : (n j : ℕ) → j < 8 → slice_index (to_le_bytes w64 n) j ≡ n / 2 ^ (8 * j) % 2 ^ 8
le_byte n zero h = omega arith
le_byte n (suc zero) h = refl
le_byte n (suc (suc zero)) h = refl
le_byte n (suc (suc (suc zero))) h = refl
le_byte n (suc (suc (suc (suc zero)))) h = refl
le_byte n (suc (suc (suc (suc (suc zero))))) h = refl
le_byte n (suc (suc (suc (suc (suc (suc zero)))))) h = refl
le_byte n (suc (suc (suc (suc (suc (suc (suc zero))))))) h = refl
le_byte n (suc (suc (suc (suc (suc (suc (suc (suc j)))))))) h = absurd (omega arith)

bit_in-to_le_bytes : (n i : ℕ) → i < 64 → bit_in 8 (to_le_bytes w64 n) i ≡ bit_at n i
bit_in-to_le_bytes n i h =
    let r : ℕ = i % 8 in
    let m : ℕ = n / 2 ^ (8 * (i / 8)) in
    let e : 8 * (i / 8) + i % 8 ≡ i = omega arith in
    ap (λ b. bit_at b r) (le_byte n (i / 8) (omega arith))
    ∙ sym (bit_at_cat_low (m / 2 ^ 8) 8 (m % 2 ^ 8) r (omega arith)) ∙ ap (λ b. bit_at b r) (shr_split m 8)
    ∙ ap (λ b. b % 2) (shr-shr n (8 * (i / 8)) r) ∙ ap (bit_at n) e

pub length-bytes_of : (words : List ℕ) → length (bytes_of words) ≡ 8 * length words
length-bytes_of [] = refl
length-bytes_of (w ∷ ws) = length-append (to_le_bytes w64 w) (bytes_of ws) ∙ omega (arith, length-bytes_of ws)

-- bytes and words have the same bits
pub bit_in-bytes_of : (words : List ℕ) (i : ℕ) → bit_in 8 (bytes_of words) i ≡ bit_in 64 words i
bit_in-bytes_of [] i = bit_at-zero (i % 8) ∙ sym (bit_at-zero (i % 64))
bit_in-bytes_of (w ∷ ws) i = elim (cases_lt i 64) [
  | inl h ↦
      let word : 0 ≡ i / 64 = omega arith in
      let place : i ≡ i % 64 = omega arith in
      ap (λ b. bit_at b (i % 8)) (get_or_append_left (to_le_bytes w64 w) (bytes_of ws) 0 (i / 8) (omega arith))
      ∙ bit_in-to_le_bytes w i h ∙ (λ m. bit_at (slice_index (w ∷ ws) (word m)) (place m))
  | inr h ↦
      let byte : i / 8 - 8 ≡ (i - 64) / 8 = omega arith in
      let bit : i % 8 ≡ (i - 64) % 8 = omega arith in
      let word : suc ((i - 64) / 64) ≡ i / 64 = omega arith in
      let place : (i - 64) % 64 ≡ i % 64 = omega arith in
      ap (λ b. bit_at b (i % 8)) (get_or-append_right (to_le_bytes w64 w) (bytes_of ws) 8 (i / 8) 0 refl (omega arith))
      ∙ (λ m. bit_at (slice_index (bytes_of ws) (byte m)) (bit m))
      ∙ bit_in-bytes_of ws (i - 64) ∙ (λ m. bit_at (slice_index (w ∷ ws) (word m)) (place m))
]

pub bit_in-take : (count : ℕ) (bytes : List ℕ) (i : ℕ) → i < 8 * count → bit_in 8 (take count bytes) i ≡ bit_in 8 bytes i
bit_in-take count bytes i h = ap (λ b. bit_at b (i % 8)) (get_or-take count bytes (i / 8) 0 (omega arith))

zero-at : (n i : ℕ) → slice_index (replicate n 0) i ≡ 0
zero-at n i = elim (cases_lt i n) [ inl h ↦ get_or-replicate n i 0 0 h | inr h ↦ get_or_past (replicate n 0) i 0 (omega (arith, length-replicate {A = ℕ} n 0)) ]

-- zeros behind bytes add no bit
pub bit_in-padded : (bytes : List ℕ) (n i : ℕ) → bit_in 8 (bytes ++ replicate n 0) i ≡ bit_in 8 bytes i
bit_in-padded bytes n i = ap (λ b. bit_at b (i % 8)) (elim (cases_lt (i / 8) (length bytes)) as (λ _. slice_index (bytes ++ replicate n 0) (i / 8) ≡ slice_index bytes (i / 8)) [
  | inl h ↦ get_or_append_left bytes (replicate n 0) 0 (i / 8) h
  | inr h ↦ get_or-append_right bytes (replicate n 0) (length bytes) (i / 8) 0 refl h ∙ zero-at n (i / 8 - length bytes) ∙ sym (get_or_past bytes (i / 8) 0 h)
])

-- the bytes of the first words, and what is left of the next one
split-bytes : (words : List ℕ) (q r : ℕ) → q ≤ length words → take (8 * q + r) (bytes_of words) ≡ bytes_of (take q words) ++ take r (bytes_of (drop q words))
split-bytes words q r h =
    let front : List ℕ = bytes_of (take q words) in
    let parts : bytes_of words ≡ front ++ bytes_of (drop q words) = ap bytes_of (sym (take-append-drop q words)) ∙ flat_map-append (to_le_bytes w64) (take q words) (drop q words) in
    let long : 8 * q + r ≡ length front + r = omega (arith, length-bytes_of (take q words), length-take-le q words h) in
    (λ i. take (long i) (parts i)) ∙ take-append-add front (bytes_of (drop q words)) r

length-none : (xs : List ℕ) → length xs < 1 → xs ≡ []
length-none [] h = refl
length-none (x ∷ xs) h = absurd (omega arith)

first-word : (rest : List ℕ) (r : ℕ) → 0 < length rest → r ≤ 8 → take r (to_le_bytes w64 (slice_index rest 0)) ≡ take r (bytes_of rest)
first-word [] r h low = absurd (omega arith)
first-word (w ∷ ws) r h low = sym (take-append-le r (to_le_bytes w64 w) (bytes_of ws) low)

length-take-le_count : (n : ℕ) (xs : List ℕ) → length (take n xs) ≤ n
length-take-le_count zero xs = omega arith
length-take-le_count (suc n) [] = omega arith
length-take-le_count (suc n) (x ∷ xs) = omega (arith, length-take-le_count n xs)

pub appended-whole : (words whole rest old items : List ℕ) (count n : ℕ) → whole ≡ take (count / 8) words → rest ≡ drop (count / 8) words → count / 8 ≤ length words → length rest < 1 →
    length whole ≤ n → items ≡ old ++ bytes_of (take n whole) → items ≡ old ++ take count (bytes_of words)
appended-whole words whole rest old items count n front back h empty done written =
    let e : count ≡ 8 * (count / 8) + count % 8 = omega arith in
    let none : take (count % 8) (bytes_of (drop (count / 8) words)) ≡ [] = ap (λ b. take (count % 8) (bytes_of b)) (sym back ∙ length-none rest empty) ∙ take-nil (count % 8) in
    written ∙ ap (λ b. old ++ b) (ap bytes_of (take_all n whole done ∙ front)
    ∙ sym (append-nil (bytes_of (take (count / 8) words)))
    ∙ ap (λ b. bytes_of (take (count / 8) words) ++ b) (sym none)
    ∙ sym (split-bytes words (count / 8) (count % 8) h) ∙ ap (λ m. take m (bytes_of words)) (sym e))

pub appended-part : (words whole rest old items items' : List ℕ) (count n : ℕ) → whole ≡ take (count / 8) words → rest ≡ drop (count / 8) words → count / 8 ≤ length words → 0 < length rest →
    length whole ≤ n → items ≡ old ++ bytes_of (take n whole) → items' ≡ items ++ take (count % 8) (to_le_bytes w64 (slice_index rest 0)) → items' ≡ old ++ take count (bytes_of words)
appended-part words whole rest old items items' count n front back h some done written last =
    let e : count ≡ 8 * (count / 8) + count % 8 = omega arith in
    let first : List ℕ = bytes_of (take (count / 8) words) in
    let part = first-word rest (count % 8) some (omega arith) in
    last ∙ ap (λ b. b ++ take (count % 8) (to_le_bytes w64 (slice_index rest 0))) (written ∙ ap (λ b. old ++ b) (ap bytes_of (take_all n whole done ∙ front)))
    ∙ append_assoc old first (take (count % 8) (to_le_bytes w64 (slice_index rest 0)))
    ∙ ap (λ b. old ++ b) (ap (λ b. first ++ b) (part ∙ ap (λ b. take (count % 8) (bytes_of b)) back)
    ∙ sym (split-bytes words (count / 8) (count % 8) h) ∙ ap (λ m. take m (bytes_of words)) (sym e))

-- one word more
pub bytes_of-push : (words : List ℕ) (w : ℕ) (eight more : List ℕ) → to_le_bytes w64 w ≡ eight → bytes_of (words ++ w ∷ []) ++ more ≡ bytes_of words ++ (eight ++ more)
bytes_of-push words w eight more e =
    ap (λ b. b ++ more) (flat_map-append (to_le_bytes w64) words (w ∷ []) ∙ ap (λ b. bytes_of words ++ b) (append-nil (to_le_bytes w64 w) ∙ e))
    ∙ append_assoc (bytes_of words) eight more

pub fits-push : (words : List ℕ) (w top : ℕ) → 0 < top → ((k : ℕ) → slice_index words k < top) → w < top → (k : ℕ) → slice_index (words ++ w ∷ []) k < top
fits-push words w top some fits h k = elim (cases_lt k (length words)) [
  | inl low ↦ omega (arith, get_or_append_left words (w ∷ []) 0 k low, fits k)
  | inr high ↦ elim (cases_lt k (length words + 1)) [
    | inl last ↦
        let place : k - length words ≡ 0 = omega arith in
        omega (arith, get_or-append_right words (w ∷ []) (length words) k 0 refl high, ap (slice_index (w ∷ [])) place)
    | inr past ↦ omega (arith, get_or_past (words ++ w ∷ []) k 0 (omega (arith, length-append words (w ∷ []))))
  ]
]

pub fits-padded : (bytes : List ℕ) (n : ℕ) → ((k : ℕ) → slice_index bytes k < 256) → (k : ℕ) → slice_index (bytes ++ replicate n 0) k < 256
fits-padded bytes n fits k = elim (cases_lt k (length bytes)) [
  | inl low ↦ omega (arith, get_or_append_left bytes (replicate n 0) 0 k low, fits k)
  | inr high ↦ omega (arith, get_or-append_right bytes (replicate n 0) (length bytes) k 0 refl high, zero-at n (k - length bytes))
]

pub fits-drop : (xs : List ℕ) (n : ℕ) → ((k : ℕ) → slice_index xs k < 256) → (k : ℕ) → slice_index (drop n xs) k < 256
fits-drop xs n fits k = omega (arith, get_or-drop n xs k 0, fits (n + k))

pub fits-take : (xs : List ℕ) (n : ℕ) → ((k : ℕ) → slice_index xs k < 256) → (k : ℕ) → slice_index (take n xs) k < 256
fits-take xs n fits k = elim (cases_lt k n) [
  | inl low ↦ omega (arith, get_or-take n xs k 0 low, fits k)
  | inr high ↦ omega (arith, get_or_past (take n xs) k 0 (omega (arith, length-take-le_count n xs)))
]

bytes_of-words : (words rest bytes : List ℕ) → bytes_of words ++ rest ≡ bytes → length bytes ≡ 8 * length words + length rest
bytes_of-words words rest bytes read = sym (ap length read) ∙ length-append (bytes_of words) rest ∙ ap (λ n. n + length rest) (length-bytes_of words)

-- the words of bytes whose last ones are no whole word, and of others
pub words-of_part : (words rest bytes : List ℕ) (w : ℕ) → bytes_of words ++ rest ≡ bytes → 0 < length rest → length rest < 8 → to_le_bytes w64 w ≡ rest ++ replicate (8 - length rest) 0 →
    bytes_of (words ++ w ∷ []) ≡ bytes ++ replicate (8 * ((length bytes + 7) / 8) - length bytes) 0
words-of_part words rest bytes w read some short last =
    let count : 8 - length rest ≡ 8 * ((length bytes + 7) / 8) - length bytes = omega (arith, bytes_of-words words rest bytes read) in
    flat_map-append (to_le_bytes w64) words (w ∷ []) ∙ ap (λ b. bytes_of words ++ b) (append-nil (to_le_bytes w64 w) ∙ last)
    ∙ sym (append_assoc (bytes_of words) rest (replicate (8 - length rest) 0)) ∙ (λ i. read i ++ replicate (count i) 0)

pub words-of_whole : (words rest bytes : List ℕ) → bytes_of words ++ rest ≡ bytes → length rest ≡ 0 → bytes_of words ≡ bytes ++ replicate (8 * ((length bytes + 7) / 8) - length bytes) 0
words-of_whole words rest bytes read none =
    let count : 0 ≡ 8 * ((length bytes + 7) / 8) - length bytes = omega (arith, bytes_of-words words rest bytes read) in
    let empty : [] ≡ rest = sym (length-none rest (omega arith)) in
    sym (append-nil (bytes_of words)) ∙ ap (λ r. bytes_of words ++ r) empty ∙ read ∙ sym (append-nil bytes) ∙ ap (λ n. bytes ++ replicate n 0) count
