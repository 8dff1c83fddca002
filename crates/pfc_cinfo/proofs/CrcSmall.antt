-- A checksum fits 32 bits.
use Rattle.std.proofs.Common.{ℕ, zero, suc, ◌*◌, ◌/◌, ◌%◌, ◌^◌, ◌<◌, List, [], ◌∷◌, get_or, arith}
use Rattle.std.specs.Int.Bits.{bit_xor}
use Rattle.std.proofs.lemmas.Nat.{xor_lt}
use Rattle.pfc_base.specs.Crc.{polynomial, all_ones, after_bit, after_bits, after_bytes, crc_of}

after_bit-lt : (c : ℕ) → c < 2 ^ 32 → after_bit c < 2 ^ 32
after_bit-lt c h = xor_lt 32 (c / 2) (c % 2 * polynomial) (omega arith) (omega arith)

after_bits-lt : (n c : ℕ) → c < 2 ^ 32 → after_bits n c < 2 ^ 32
unfolding after_bits
after_bits-lt zero c h = h
after_bits-lt (suc n) c h = after_bits-lt n (after_bit c) (after_bit-lt c h)

after_bytes-lt : (bs : List ℕ) (c : ℕ) → ((i : ℕ) → get_or bs i 0 < 256) → c < 2 ^ 32 → after_bytes c bs < 2 ^ 32
unfolding after_bytes
after_bytes-lt [] c small h = h
after_bytes-lt (b ∷ bs) c small h =
    after_bytes-lt bs (after_bits 8 (bit_xor c b)) (λ i. small (suc i)) (after_bits-lt 8 (bit_xor c b) (xor_lt 32 c b h (omega (arith, small 0))))

pub crc_of-lt : (bs : List ℕ) → ((i : ℕ) → get_or bs i 0 < 256) → crc_of bs < 2 ^ 32
crc_of-lt bs small = xor_lt 32 (after_bytes all_ones bs) all_ones (after_bytes-lt bs all_ones small (omega arith)) (omega arith)
