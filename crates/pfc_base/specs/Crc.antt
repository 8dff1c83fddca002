-- CRC-32C, bit by bit: the polynomial 0x1EDC6F41, reflected, with a register that starts as all ones and is turned
-- round at the end.
use Rattle.std.specs.Prelude.{◌≡◌, ℕ, zero, suc, ◌*◌, ◌/◌, ◌%◌, List, [], ◌∷◌, bit_xor}

-- 0x1EDC6F41 with its bits in the other order
abbrev pub polynomial : ℕ
polynomial = 0x82F63B78

abbrev pub all_ones : ℕ
all_ones = 0xFFFFFFFF

-- one bit: the register moves down, and takes the polynomial where a one fell out
abbrev pub after_bit : ℕ → ℕ
after_bit c = bit_xor (c / 2) (c % 2 * polynomial)

unfoldable pub after_bits : ℕ → ℕ → ℕ
after_bits zero c = c
after_bits (suc n) c = after_bits n (after_bit c)

-- the register behind these bytes
unfoldable pub after_bytes : ℕ → List ℕ → ℕ
after_bytes c [] = c
after_bytes c (b ∷ bs) = after_bytes (after_bits 8 (bit_xor c b)) bs

abbrev pub crc_of : List ℕ → ℕ
crc_of bytes = bit_xor (after_bytes all_ones bytes) all_ones

-- the register as it stands when these bytes, and no others, were fed
abbrev pub IsFed : ℕ → List ℕ → Type 0
IsFed c bytes = c ≡ after_bytes all_ones bytes
