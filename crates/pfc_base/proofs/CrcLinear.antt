-- The register is linear, so that the bytes of a word may be looked up one by one.
use Rattle.std.proofs.Common.{◌≡◌, ℕ, zero, suc, ◌+◌, ◌-◌, ◌*◌, ◌/◌, ◌%◌, ◌^◌, ◌<◌, List, [], ◌∷◌, ◌++◌, length, take, drop, get_or, refl, shr-shr, sym, ap, ◌∙◌, arith, inl, inr}
use Rattle.std.specs.Int.Bits.{bit_xor, xor_assoc, xor_zero_r}
use Rattle.std.proofs.lemmas.Nat.{xor_comm, xor_shr}
use Rattle.std.proofs.lemmas.Nat.Bits.{bit_at_xor, bit_at_lowest, bit_at-lt, bit_at_above, bit_at_cat_low, bit_at_cat_high, bit_at-zero, same_from_bits}
use Rattle.std.proofs.lemmas.Bool.{cases_lt}
use Rattle.std.specs.Int.{bit_at}
use Rattle.std.proofs.lemmas.List.{take-append-drop}
use Rattle.std.specs.Simd.Lanes.{Each1, number_l}
use Rattle.pfc_base.specs.Crc.{polynomial, after_bit, after_bits, after_bytes}

pub xor4 : (a b c d : ℕ) → bit_xor (bit_xor a b) (bit_xor c d) ≡ bit_xor (bit_xor a c) (bit_xor b d)
xor4 a b c d =
    xor_assoc a b (bit_xor c d)
    ∙ ap (bit_xor a) (sym (xor_assoc b c d) ∙ ap (λ x. bit_xor x d) (xor_comm b c) ∙ xor_assoc c b d)
    ∙ sym (xor_assoc a c (bit_xor b d))

pick : (x y : ℕ) → x < 2 → y < 2 → (x + y) % 2 * polynomial ≡ bit_xor (x * polynomial) (y * polynomial)
pick zero zero h k = refl
pick zero (suc zero) h k = refl
pick (suc zero) zero h k = refl
pick (suc zero) (suc zero) h k = refl
pick (suc (suc x)) y h k = absurd (omega arith)
pick zero (suc (suc y)) h k = absurd (omega arith)
pick (suc zero) (suc (suc y)) h k = absurd (omega arith)

low : (a b : ℕ) → bit_xor a b % 2 ≡ (a % 2 + b % 2) % 2
low a b = sym (bit_at_lowest (bit_xor a b)) ∙ bit_at_xor a b 0 ∙ (λ i. (bit_at_lowest a i + bit_at_lowest b i) % 2)

pub after_bit_xor : (a b : ℕ) → after_bit (bit_xor a b) ≡ bit_xor (after_bit a) (after_bit b)
after_bit_xor a b =
    (λ i. bit_xor (xor_shr a b 1 i) (low a b i * polynomial))
    ∙ ap (bit_xor (bit_xor (a / 2) (b / 2))) (pick (a % 2) (b % 2) (omega arith) (omega arith))
    ∙ xor4 (a / 2) (b / 2) (a % 2 * polynomial) (b % 2 * polynomial)

pub after_bits_xor : (n a b : ℕ) → after_bits n (bit_xor a b) ≡ bit_xor (after_bits n a) (after_bits n b)
unfolding after_bits
after_bits_xor zero a b = refl
after_bits_xor (suc n) a b = ap (after_bits n) (after_bit_xor a b) ∙ after_bits_xor n (after_bit a) (after_bit b)

pub after_bits_add : (m n c : ℕ) → after_bits (m + n) c ≡ after_bits n (after_bits m c)
unfolding after_bits
after_bits_add zero n c =
    let e : zero + n ≡ n = omega arith in
    ap (λ k. after_bits k c) e
after_bits_add (suc m) n c =
    let e : suc m + n ≡ suc (m + n) = omega arith in
    ap (λ k. after_bits k c) e ∙ after_bits_add m n (after_bit c)

after_bit_even : (x : ℕ) → after_bit (2 * x) ≡ x
after_bit_even x =
    let half : 2 * x / 2 ≡ x = omega arith in
    let none : 2 * x % 2 ≡ 0 = omega arith in
    (λ i. bit_xor (half i) (none i * polynomial)) ∙ xor_zero_r x

one : (k x y : ℕ) → y ≡ 2 * x → after_bits (suc k) y ≡ after_bits k x
unfolding after_bits
one k x y e = ap (λ z. after_bits k (after_bit z)) e ∙ ap (after_bits k) (after_bit_even x)

pub after_bits_none : (c : ℕ) → after_bits 0 c ≡ c
unfolding after_bits
after_bits_none c = refl

-- eight bits shift a byte out
pub after_bits_shift : (h : ℕ) → after_bits 8 (256 * h) ≡ h
after_bits_shift h =
    one 7 (128 * h) (256 * h) (omega arith) ∙ one 6 (64 * h) (128 * h) (omega arith) ∙ one 5 (32 * h) (64 * h) (omega arith)
    ∙ one 4 (16 * h) (32 * h) (omega arith) ∙ one 3 (8 * h) (16 * h) (omega arith) ∙ one 2 (4 * h) (8 * h) (omega arith)
    ∙ one 1 (2 * h) (4 * h) (omega arith) ∙ one 0 h (2 * h) (omega arith) ∙ after_bits_none h

-- a byte and what lies above it share no bit
pub xor_apart : (b h : ℕ) → b < 256 → bit_xor b (256 * h) ≡ b + 256 * h
xor_apart b h small = same_from_bits (bit_xor b (256 * h)) (b + 256 * h) each where
  up : 256 * h ≡ h * 2 ^ 8 + 0
  up = omega arith

  both : b + 256 * h ≡ h * 2 ^ 8 + b
  both = omega arith

  each : (i : ℕ) → bit_at (bit_xor b (256 * h)) i ≡ bit_at (b + 256 * h) i
  each i =
      let sums = bit_at_xor b (256 * h) i ∙ ap (λ z. (bit_at b i + bit_at z i) % 2) up in
      elim (cases_lt i 8) [
        | inl below ↦
            let none = bit_at_cat_low h 8 0 i below ∙ bit_at-zero i in
            sums ∙ ap (λ z. (bit_at b i + z) % 2) none ∙ omega (arith, bit_at-lt b i) ∙ sym (bit_at_cat_low h 8 b i below) ∙ ap (λ z. bit_at z i) (sym both)
        | inr above ↦
            let none = bit_at_above b 8 i small above in
            let part = bit_at_cat_high h 8 0 i (omega arith) above in
            sums ∙ (λ j. (none j + part j) % 2) ∙ omega (arith, bit_at-lt h (i - 8)) ∙ sym (bit_at_cat_high h 8 b i small above) ∙ ap (λ z. bit_at z i) (sym both)
      ]

-- the lowest byte apart from the rest
pub split : (n w : ℕ) → after_bits (8 + n) w ≡ bit_xor (after_bits (8 + n) (w % 256)) (after_bits n (w / 256))
split n w =
    let whole : w ≡ w % 256 + 256 * (w / 256) = omega arith in
    ap (after_bits (8 + n)) (whole ∙ sym (xor_apart (w % 256) (w / 256) (omega arith)))
    ∙ after_bits_xor (8 + n) (w % 256) (256 * (w / 256))
    ∙ ap (bit_xor (after_bits (8 + n) (w % 256))) (after_bits_add 8 n (256 * (w / 256)) ∙ ap (after_bits n) (after_bits_shift (w / 256)))

pub byte_is : (c b : ℕ) → b < 256 → after_bits 8 (bit_xor c b) ≡ bit_xor (after_bits 8 (bit_xor c b % 256)) (c / 256)
byte_is c b small =
    let gone : b / 256 ≡ 0 = omega arith in
    split 0 (bit_xor c b)
    ∙ ap (bit_xor (after_bits 8 (bit_xor c b % 256)))
    (after_bits_none (bit_xor c b / 256) ∙ xor_shr c b 8 ∙ ap (bit_xor (c / 256)) gone ∙ xor_zero_r (c / 256))

pub after_bytes_none : (c : ℕ) → after_bytes c [] ≡ c
unfolding after_bytes
after_bytes_none c = refl

pub after_bytes_more : (bs : List ℕ) (c i : ℕ) → i < length bs → after_bytes c (take (i + 1) bs) ≡ after_bits 8 (bit_xor (after_bytes c (take i bs)) (get_or bs i 0))
unfolding after_bytes
after_bytes_more [] c i lt = absurd (omega arith)
after_bytes_more (b ∷ bs) c zero lt = refl
after_bytes_more (b ∷ bs) c (suc i) lt =
    let e : suc i + 1 ≡ suc (i + 1) = omega arith in
    ap (λ k. after_bytes c (take k (b ∷ bs))) e ∙ after_bytes_more bs (after_bits 8 (bit_xor c b)) i (omega arith)

pub after_bytes_append : (xs ys : List ℕ) (c : ℕ) → after_bytes c (xs ++ ys) ≡ after_bytes (after_bytes c xs) ys
unfolding after_bytes
after_bytes_append [] ys c = refl
after_bytes_append (x ∷ xs) ys c = after_bytes_append xs ys (after_bits 8 (bit_xor c x))

pub after_bytes_cut : (n : ℕ) (bs : List ℕ) (c : ℕ) → after_bytes c bs ≡ after_bytes (after_bytes c (take n bs)) (drop n bs)
after_bytes_cut n bs c = ap (after_bytes c) (sym (take-append-drop n bs)) ∙ after_bytes_append (take n bs) (drop n bs) c

-- the register after some bytes is that after their number, put in at once
pub after_bytes_is : (bs : List ℕ) (c : ℕ) → Each1 (λ b. b < 256) bs → after_bytes c bs ≡ after_bits (8 * length bs) (bit_xor c (number_l 256 bs))
unfolding after_bytes
after_bytes_is [] c small = sym (after_bits_none (bit_xor c 0) ∙ xor_zero_r c)
after_bytes_is (b ∷ bs) c small =
    let rest = number_l 256 bs in
    let turns : 8 * length (b ∷ bs) ≡ 8 + 8 * length bs = omega arith in
    after_bytes_is bs (after_bits 8 (bit_xor c b)) small.1
    ∙ ap (after_bits (8 * length bs))
    (ap (bit_xor (after_bits 8 (bit_xor c b))) (sym (after_bits_shift rest))
    ∙ sym (after_bits_xor 8 (bit_xor c b) (256 * rest))
    ∙ ap (after_bits 8) (xor_assoc c b (256 * rest) ∙ ap (bit_xor c) (xor_apart b rest small.0)))
    ∙ sym (after_bits_add 8 (8 * length bs) (bit_xor c (b + 256 * rest)))
    ∙ ap (λ k. after_bits k (bit_xor c (b + 256 * rest))) (sym turns)

part : (n w k : ℕ) → after_bits (8 + n) (w / 2 ^ k) ≡ bit_xor (after_bits (8 + n) (w / 2 ^ k % 256)) (after_bits n (w / 2 ^ (k + 8)))
part n w k = split n (w / 2 ^ k) ∙ ap (λ z. bit_xor (after_bits (8 + n) (w / 2 ^ k % 256)) (after_bits n z)) (shr-shr w k 8)

-- a word, byte by byte
pub unrolled : (w : ℕ) → w < 2 ^ 64 → after_bits 64 w
    ≡ bit_xor (after_bits 64 (w % 256)) (bit_xor (after_bits 56 (w / 2 ^ 8 % 256)) (bit_xor (after_bits 48 (w / 2 ^ 16 % 256)) (bit_xor (after_bits 40 (w / 2 ^ 24 % 256))
    (bit_xor (after_bits 32 (w / 2 ^ 32 % 256)) (bit_xor (after_bits 24 (w / 2 ^ 40 % 256)) (bit_xor (after_bits 16 (w / 2 ^ 48 % 256)) (after_bits 8 (w / 2 ^ 56 % 256))))))))
unrolled w small =
    let last : w / 2 ^ 56 ≡ w / 2 ^ 56 % 256 = omega arith in
    split 56 w
    ∙ ap (bit_xor (after_bits 64 (w % 256))) (part 48 w 8
    ∙ ap (bit_xor (after_bits 56 (w / 2 ^ 8 % 256))) (part 40 w 16
    ∙ ap (bit_xor (after_bits 48 (w / 2 ^ 16 % 256))) (part 32 w 24
    ∙ ap (bit_xor (after_bits 40 (w / 2 ^ 24 % 256))) (part 24 w 32
    ∙ ap (bit_xor (after_bits 32 (w / 2 ^ 32 % 256))) (part 16 w 40
    ∙ ap (bit_xor (after_bits 24 (w / 2 ^ 40 % 256))) (part 8 w 48
    ∙ ap (bit_xor (after_bits 16 (w / 2 ^ 48 % 256))) (ap (after_bits 8) last)))))))
